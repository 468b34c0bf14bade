use mathlib.Core.Path.{◌≡◌}
use Prim.Native.Nat.{◌+◌, ◌*◌}
use Rattle.plan.specs.parts.Parts.{part_word}
use Rattle.plan.specs.Plan.{filled}
use Rattle.plan.proofs.write_parts.Given as goal

abbrev pub invariant-loop-i : goal.invariant-loop-i
invariant-loop-i l = l.plan ≡ filled (λ k. 8 * k + 6) part_word l.i l.initial.plan
