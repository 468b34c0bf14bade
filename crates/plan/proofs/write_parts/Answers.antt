-- `plan::write_parts` meets its contract. The invariant: the first i nodes have their word. Assumes nothing.
use Prim.Native.Nat.{◌+◌, ◌*◌}
use native.Mathlib.Omega.{arith}
use Rattle.plan.specs.parts.Parts.{part_word}
use Rattle.plan.specs.Plan.{with_parts}
use Rattle.plan.proofs.Laws.{filled_none, filled_more, filled_all}
use Rattle.plan.proofs.write_parts.Goals as goal

pub loop-i-init : goal.loop-i-init
loop-i-init c = filled_none (λ k. 8 * k + 6) part_word c.args.plan.now

pub loop-i-preserved : goal.loop-i-preserved
loop-i-preserved c =
    let l = c.loop-i in
    filled_more (λ k. 8 * k + 6) part_word l.i c.args.plan.now l.plan l.invariant c.part_word.ensures

pub returns : goal.returns
unfolding with_parts
returns c =
    let l = c.loop-i in
    filled_all (λ k. 8 * k + 6) part_word l.i c.args.n c.args.plan.now l.plan (omega arith) l.invariant
