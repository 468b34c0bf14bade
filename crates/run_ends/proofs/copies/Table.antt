-- Rows of the table of checked rows, computed from the definitions: the run ends of K1 and K2, and ground 7 of K4. Assumes nothing.
use mathlib.Core.Path.{◌≡◌, refl}
use Prim.Native.Nat.{ℕ, ◌+◌, ◌*◌}
use mathlib.Core.List.{List, ◌++◌}
use Rattle.number.specs.Number.{number, encode}
use Rattle.run_ends.specs.Clip.{clipped}
use Rattle.run_ends.specs.copies.Extend.{ok, some, overflow, branches, extend_loop, extend_arrays}

-- the run ends 2, 5, 9
unfoldable ends : ℕ → List ℕ
ends w = encode w 2 ++ encode w 5 ++ encode w 9

k1_ends : clipped 4 (ends 4) (0 + 4 * 1) 2 2 6 0 ≡ encode 4 3 ++ encode 4 4
unfolding ends encode number clipped
k1_ends = refl

k1_rust : extend_arrays 4 (ends 4) 0 3 2 4 0 ≡ ok (encode 4 3 ++ encode 4 4) (some 1 3)
unfolding ends encode number branches extend_loop
k1_rust = refl

k2_ends : clipped 4 (ends 4) (0 + 4 * 1) 2 2 6 4 ≡ encode 4 7 ++ encode 4 8
unfolding ends encode number clipped
k2_ends = refl

k4_rust : extend_arrays 2 (ends 2) 0 3 0 2 32766 ≡ overflow
unfolding ends encode number branches extend_loop
k4_rust = refl
