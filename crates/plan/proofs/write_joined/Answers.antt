-- `plan::write_joined` meets its contract. The invariant: the first i nodes have their word. Assumes nothing.
use Prim.Native.Nat.{◌+◌, ◌*◌}
use native.Mathlib.Omega.{arith}
use Rattle.array_data.specs.lent_tables.Lent.{tables}
use Rattle.plan.specs.Plan.{joined_word, with_joined}
use Rattle.plan.proofs.Laws.{filled_none, filled_more, filled_all}
use Rattle.plan.proofs.write_joined.Goals as goal

pub loop-i-init : goal.loop-i-init
loop-i-init c =
    let z = c.args in
    filled_none (λ k. 8 * k + 7) (joined_word (tables z.lengths.now z.places.now z.body.now) z.sources.now z.m) z.plan.now

pub loop-i-preserved : goal.loop-i-preserved
loop-i-preserved c =
    let z = c.args in
    let l = c.loop-i in
    filled_more (λ k. 8 * k + 7) (joined_word (tables z.lengths.now z.places.now z.body.now) z.sources.now z.m) l.i z.plan.now l.plan l.invariant c.joined_word.ensures

pub returns : goal.returns
unfolding with_joined
returns c =
    let z = c.args in
    let l = c.loop-i in
    filled_all (λ k. 8 * k + 7) (joined_word (tables z.lengths.now z.places.now z.body.now) z.sources.now z.m) l.i z.n z.plan.now l.plan (omega arith) l.invariant
