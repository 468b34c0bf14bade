use mathlib.Core.Path.{◌≡◌}
use Prim.Native.Nat.{◌*◌, ◌≤◌}
use Rattle.plan.specs.Plan.{buffers_up_to}
use Rattle.plan.proofs.buffers_up_to.Given as goal

abbrev pub invariant-loop-t : goal.invariant-loop-t
invariant-loop-t l = (l.sum ≤ 33 * l.t) × (l.sum ≡ buffers_up_to l.places l.sources l.i l.t)
