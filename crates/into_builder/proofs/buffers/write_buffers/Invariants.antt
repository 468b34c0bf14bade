use mathlib.Core.Path.{◌≡◌}
use Prim.Native.Nat.{◌*◌}
use Rattle.into_builder.specs.buffers.Names.{count_before, names_before, Behind}
use Rattle.into_builder.proofs.buffers.write_buffers.Given as goal

abbrev pub invariant-loop-i : goal.invariant-loop-i
invariant-loop-i l = (l.at ≡ 2 * count_before l.plan l.sources l.places l.i) × Behind l.initial.names l.names 0 (2 * count_before l.plan l.sources l.places l.i) (names_before l.plan l.sources l.places l.buffers l.i)
