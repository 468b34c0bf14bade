-- Where the rows of one more row of the parent stand beside a stretch. Assumes nothing.
use Rattle.std.specs.Prelude.{cond, ◌&&◌, ℕ, zero, suc, ◌+◌, min, leb, ltb, eqb}
use Rattle.walk.specs.State.{top}

-- the stretch a .. a + m - 1, the rows s .. s + z - 1: 1 they follow it, 0 they are none and not behind it, 2 it is none and stands before them, else 3
unfoldable pub side_of : ℕ → ℕ → ℕ → ℕ → ℕ
side_of a m s z = cond (eqb s (a + m)) 1 (cond (eqb z 0 && leb s (a + m)) 0 (cond (eqb m 0 && leb a s) 2 3))

-- the stretch with them, where it is not 3
unfoldable pub next_start : ℕ → ℕ → ℕ → ℕ
next_start side a s = cond (eqb side 2) s a

unfoldable pub next_size : ℕ → ℕ → ℕ → ℕ
next_size side m z = cond (eqb side 2) z (cond (eqb side 1) (m + z) m)

-- the largest of f 0 .. f (n - 1), at most the largest number of 64 bits
unfoldable pub furthest_of : (ℕ → ℕ) → ℕ → ℕ
furthest_of f zero = 0
furthest_of f (suc n) = cond (ltb (furthest_of f n) (min (f n) top)) (min (f n) top) (furthest_of f n)
