-- Rows of byte strings, each looked at by itself. Assumes nothing.
use Rattle.std.specs.Prelude.{◌≡◌, true, List, ℕ, ◌+◌, ◌*◌, ◌-◌, ◌≤◌, length}
use Rattle.number.specs.Number.{entry}
use Rattle.utils.specs.Offsets.{largest}
use Rattle.batch.specs.Stretch.{never_falls}

-- the bytes of m rows from slot s on, whose offsets of w bytes stand in the body from `at` on
abbrev pub chars_of : ℕ → List ℕ → ℕ → ℕ → ℕ → ℕ
chars_of w body at s m = entry w body (at + w * s) m - entry w body (at + w * s) 0

-- those offsets never fall, and the last is at most `most`
abbrev pub Rising : ℕ → List ℕ → ℕ → ℕ → ℕ → ℕ → Type 0
Rising w body at most s m = (never_falls w body (at + w * s) m ≡ true) × (entry w body (at + w * s) m ≤ most)

-- those offsets and the bytes that they name, from `chars` on, stand in the body, and the last fits behind b bytes
abbrev pub Fitting : ℕ → List ℕ → ℕ → ℕ → ℕ → ℕ → ℕ → Type 0
Fitting w body at chars s m b =
    (at + w * s + w * (m + 1) ≤ length body) × (entry w body (at + w * s) 0 ≤ entry w body (at + w * s) m) × (b ≤ largest w) × (b + chars_of w body at s m ≤ largest w)
    × (chars + entry w body (at + w * s) 0 + chars_of w body at s m ≤ length body)
