use mathlib.Core.Path.{◌≡◌}
use mathlib.Core.Bool.{false}
use Prim.Native.Nat.{ℕ, ◌+◌, ◌-◌, ◌≤◌, ◌<◌}
use Rattle.frames.specs.Frames.{counts}
use Rattle.frames.specs.Slots.{mask_of, slot_stop}
use Rattle.frames.proofs.pass_over.Given as goal

abbrev pub invariant-loop-k : goal.invariant-loop-k
invariant-loop-k l =
    (j : ℕ) → j < l.k → counts (slot_stop l.lat (mask_of l.lat_masked l.lat_mask) l.lon (mask_of l.lon_masked l.lon_mask) (l.a + j) (l.b + j)) ≡ false
