-- The rules that hold of every row of a source (01, "A source the opening takes"), as tests of the n entries of w bytes that stand in s
-- from the byte `at` on; the array's offset is already in `at`. Assumes nothing.
use Rattle.std.specs.Prelude.{ℕ, suc, ◌+◌, Bool, ◌&&◌, ltb, leb, List, nat_le, nat_lt}
use Rattle.number.specs.Number.{entry}
use Rattle.columnar.specs.Types.{half}
use Rattle.columnar.specs.Test.{every}
use Rattle.columnar.specs.RunEnd.{start_of}

-- no offset e 0 .. e n is negative, and none is below the one before: "first not negative, never falling"
unfoldable pub never_falls_lem : (ℕ → ℕ) → ℕ → ℕ → Bool
never_falls_lem e w n = every (λ i. ltb (e i) (half w)) (suc n) && every (λ i. leb (e i) (e (i + 1))) n

-- the n + 1 offsets of n rows
abbrev pub offsets_rows : ℕ → List ℕ → ℕ → ℕ → Bool
offsets_rows w s at n = never_falls_lem (entry w s at) w n

-- "list-view offset and size not negative, their sum within the child"
unfoldable pub view_row : ℕ → ℕ → ℕ → ℕ → Bool
view_row w child o z = nat_lt o (half w) && nat_lt z (half w) && nat_le (o + z) child

-- n rows with offsets from `at` on and sizes from `too` on
abbrev pub list_view_rows : ℕ → List ℕ → ℕ → ℕ → ℕ → ℕ → Bool
list_view_rows w s at too child n = every (λ i. view_row w child (entry w s at i) (entry w s too i)) n

-- run ends e 0 .. e (n - 1): none negative, "rising strictly from at least 1"
unfoldable pub rises : (ℕ → ℕ) → ℕ → ℕ → Bool
rises e w n = every (λ k. ltb (e k) (half w)) n && every (λ k. ltb (start_of e k) (e k)) n

-- n run ends
abbrev pub ends_rows : ℕ → List ℕ → ℕ → ℕ → Bool
ends_rows w s at n = rises (entry w s at) w n
