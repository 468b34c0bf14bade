use Prim.Native.Nat.{◌-◌}
use mathlib.Core.Path.{◌≡◌}
use Rattle.plan.specs.parts.Parts.{part_from}
use Rattle.plan.proofs.parts.part_at.Given as goal

abbrev pub invariant-loop-i : goal.invariant-loop-i
invariant-loop-i l = part_from l.plan (l.n - l.i) l.i l.left ≡ part_from l.plan l.n 0 l.p
