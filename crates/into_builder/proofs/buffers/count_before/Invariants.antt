use mathlib.Core.Path.{◌≡◌}
use Prim.Native.Nat.{◌*◌, ◌≤◌}
use Rattle.into_builder.specs.buffers.Names.{count_before}
use Rattle.into_builder.proofs.buffers.count_before.Given as goal

abbrev pub invariant-loop-i : goal.invariant-loop-i
invariant-loop-i l = (l.sum ≤ 528 * l.i) × (l.sum ≡ count_before l.plan l.sources l.places l.i)
