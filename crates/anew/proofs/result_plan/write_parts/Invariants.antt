use mathlib.Core.Path.{◌≡◌}
use Prim.Native.Nat.{◌+◌, ◌*◌, ◌-◌, ◌≤◌}
use Rattle.plan.specs.parts.Parts.{part_word}
use Rattle.plan.specs.Plan.{filled}
use Rattle.anew.proofs.result_plan.write_parts.Given as goal

abbrev pub invariant-loop-i : goal.invariant-loop-i
invariant-loop-i l = (l.words ≡ filled (λ k. 8 * k + 6) part_word l.i l.initial.words)
