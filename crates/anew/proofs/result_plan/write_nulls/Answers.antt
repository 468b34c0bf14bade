-- `result_plan::write_nulls` meets its contract. The invariant: the first i nodes have their word. Assumes nothing.
use Prim.Native.Nat.{◌+◌, ◌*◌, ◌-◌}
use native.Mathlib.Omega.{arith}
use Rattle.array_data.specs.lent_tables.Lent.{tables}
use Rattle.plan.specs.Plan.{flag}
use Rattle.anew.specs.ResultPlan.{keeps_from, with_nulls}
use Rattle.plan.proofs.Laws.{filled_none, filled_more, filled_all}
use Rattle.anew.proofs.result_plan.write_nulls.Goals as goal

pub loop-i-init : goal.loop-i-init
loop-i-init c =
    let z = c.args in
    filled_none (λ k. 8 * k + 5) (λ s k. flag (keeps_from (tables z.lengths.now z.places.now z.body.now) z.first z.from.now k)) z.words.now

pub null_word-requires : goal.null_word-requires
null_word-requires c = let p = c.requires in (omega arith, omega arith, omega arith, p.2)

pub overflow_mul-words : goal.overflow_mul-words
overflow_mul-words c = omega arith

pub overflow_add-words : goal.overflow_add-words
overflow_add-words c = omega arith

pub offset_bounds-words-i : goal.offset_bounds-words-i
offset_bounds-words-i c = omega arith

pub bounds-words-i : goal.bounds-words-i
bounds-words-i c = omega arith

pub loop-i-preserved : goal.loop-i-preserved
loop-i-preserved c =
    let z = c.args in
    let l = c.loop-i in
    filled_more (λ k. 8 * k + 5) (λ s k. flag (keeps_from (tables z.lengths.now z.places.now z.body.now) z.first z.from.now k)) l.i z.words.now l.words l.invariant c.null_word.ensures

pub returns : goal.returns
unfolding with_nulls
returns c =
    let z = c.args in
    let l = c.loop-i in
    filled_all (λ k. 8 * k + 5) (λ s k. flag (keeps_from (tables z.lengths.now z.places.now z.body.now) z.first z.from.now k)) l.i z.n z.words.now l.words (omega arith) l.invariant
