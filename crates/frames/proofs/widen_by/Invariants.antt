use mathlib.Core.Path.{◌≡◌}
use Prim.Native.Nat.{◌+◌, ◌-◌, ◌≤◌}
use Rattle.columnar.specs.Row.{seg}
use Rattle.frames.specs.Frames.{widened_by}
use Rattle.frames.specs.Slots.{mask_of, slot_stop}
use Rattle.frames.proofs.widen_by.Given as goal

abbrev pub invariant-loop-k : goal.invariant-loop-k
invariant-loop-k l =
    widened_by l.frame (seg (λ j. slot_stop l.lat (mask_of l.lat_masked l.lat_mask) l.lon (mask_of l.lon_masked l.lon_mask) (l.a + j) (l.b + j)) l.k (l.n - l.k))
    ≡ widened_by l.initial.frame (seg (λ j. slot_stop l.lat (mask_of l.lat_masked l.lat_mask) l.lon (mask_of l.lon_masked l.lon_mask) (l.a + j) (l.b + j)) 0 l.n)
