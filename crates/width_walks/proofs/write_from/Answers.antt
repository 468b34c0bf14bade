-- `width_walks::write_from` meets its contract. The invariant: the first i nodes have their word. Assumes nothing.
use mathlib.Core.Bool.{cond}
use Prim.Native.Nat.{suc}
use native.Mathlib.Omega.{arith}
use Rattle.plan.proofs.Laws.{filled_none, filled_more, filled_all}
use Rattle.width_walks.specs.target_rules.Target.{ends_at}
use Rattle.width_walks.specs.Call.{from_words}
use Rattle.width_walks.proofs.write_from.Goals as goal

pub loop-i-init : goal.loop-i-init
loop-i-init c =
    let z = c.args in
    filled_none (λ k. k) (λ s k. cond (ends_at z.formats.now z.schema.now z.first k) 0 (suc k)) z.from.now

pub loop-i-preserved : goal.loop-i-preserved
loop-i-preserved c =
    let z = c.args in
    let l = c.loop-i in
    filled_more (λ k. k) (λ s k. cond (ends_at z.formats.now z.schema.now z.first k) 0 (suc k)) l.i z.from.now l.from l.invariant c.from_word.ensures

pub returns : goal.returns
unfolding from_words
returns c =
    let z = c.args in
    let l = c.loop-i in
    filled_all (λ k. k) (λ s k. cond (ends_at z.formats.now z.schema.now z.first k) 0 (suc k)) l.i z.n z.from.now l.from (omega arith) l.invariant
