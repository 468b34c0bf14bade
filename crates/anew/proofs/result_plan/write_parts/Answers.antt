-- `result_plan::write_parts` meets its contract. The invariant: the first i nodes have their word. Assumes nothing.
use Prim.Native.Nat.{◌+◌, ◌*◌, ◌-◌}
use native.Mathlib.Omega.{arith}
use Rattle.plan.specs.parts.Parts.{part_word}
use Rattle.plan.specs.Plan.{with_parts}
use Rattle.plan.proofs.Laws.{filled_none, filled_more, filled_all}
use Rattle.anew.proofs.result_plan.write_parts.Goals as goal

pub loop-i-init : goal.loop-i-init
loop-i-init c = filled_none (λ k. 8 * k + 6) part_word c.args.words.now

pub part_word-requires : goal.part_word-requires
part_word-requires c = omega arith

pub overflow_mul-words : goal.overflow_mul-words
overflow_mul-words c = omega arith

pub overflow_add-words : goal.overflow_add-words
overflow_add-words c = omega arith

pub offset_bounds-words-i : goal.offset_bounds-words-i
offset_bounds-words-i c = omega arith

pub bounds-words-i : goal.bounds-words-i
bounds-words-i c = omega arith

pub loop-i-preserved : goal.loop-i-preserved
loop-i-preserved c =
    let l = c.loop-i in
    filled_more (λ k. 8 * k + 6) part_word l.i c.args.words.now l.words l.invariant c.part_word.ensures

pub returns : goal.returns
unfolding with_parts
returns c =
    let l = c.loop-i in
    filled_all (λ k. 8 * k + 6) part_word l.i c.args.n c.args.words.now l.words (omega arith) l.invariant
