-- `trying::uncount` meets its contract. The invariant: the first i null counters are full. Assumes nothing.
use native.Mathlib.Omega.{arith}
use Rattle.sound.proofs.trying.Laws.{filled_none, filled_more, filled_all}
use Rattle.sound.proofs.trying.uncount.Goals as goal

pub loop-i-init : goal.loop-i-init
loop-i-init c = filled_none c.args.counters.now

pub loop-i-preserved : goal.loop-i-preserved
loop-i-preserved c =
    let l = c.loop-i in
    filled_more c.args.counters.now l.counters l.i (omega arith) l.invariant

pub returns : goal.returns
returns c =
    let l = c.loop-i in
    let both = filled_all c.args.counters.now l.counters l.i c.args.n (omega arith) l.invariant in record { alike = both.0; full = both.1 }
