use Prim.Native.Nat.{◌*◌, ◌≤◌}
use mathlib.Core.Path.{◌≡◌}
use Rattle.plan.specs.parts.Parts.{parts_before}
use Rattle.plan.proofs.parts.parts_before.Given as goal

abbrev pub invariant-loop-k : goal.invariant-loop-k
invariant-loop-k l = (l.sum ≤ 3 * l.k) × (l.sum ≡ parts_before l.plan l.k)
