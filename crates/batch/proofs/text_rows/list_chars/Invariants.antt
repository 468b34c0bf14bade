use mathlib.Core.Path.{◌≡◌}
use Prim.Native.Nat.{ℕ, ◌+◌, ◌<◌}
use Rattle.number.specs.Number.{entry}
use Rattle.walk.specs.State.{grown}
use Rattle.batch.specs.Stretch.{sum_of}
use Rattle.batch.specs.batch_walk.Texts.{chars_of, Rising}
use Rattle.batch.proofs.text_rows.list_chars.Given as goal

abbrev pub invariant-loop-r : goal.invariant-loop-r
invariant-loop-r l =
    ((q : ℕ) → q < l.r → Rising l.v l.body l.at l.most (l.offset + entry l.w l.body l.offsets (l.slot + q)) (entry l.w l.body l.sizes (l.slot + q)))
    × (l.sum ≡ grown 0 (sum_of (λ q. chars_of l.v l.body l.at (l.offset + entry l.w l.body l.offsets (l.slot + q)) (entry l.w l.body l.sizes (l.slot + q))) l.r))
