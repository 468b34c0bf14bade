-- Which rows of a fixed-width column belong to one run (W1). Assumes nothing.
use Rattle.std.specs.Prelude.{Bool, true, false, not, cond, ◌||◌, List, [], ◌∷◌, map, ℕ, zero, suc, ◌+◌, ◌<◌, get_or, eqb}
use Rattle.columnar.specs.Types.{Number, width, fixed, t_plain}
use Rattle.columnar.specs.Array.{Array, item, ok}
use Rattle.columnar.specs.Reading.{Column}

-- whether row i is valid
abbrev pub ok_at : {B : Type 0} → Array B → ℕ → Bool
ok_at x i = ok x.valid (x.off + i)

-- the bits of row i as a number
abbrev pub bits_at : (k : Number) → Column (t_plain (fixed k)) → ℕ → ℕ
bits_at k x i = item (width k) x.body (x.off + i)

-- two rows, by whether the one is valid, whether the other is, and whether their bits are the same
abbrev pub alike : Bool → Bool → Bool → Bool
alike true true same = same
alike true false same = false
alike false true same = false
alike false false same = true

-- "read equal": both valid and the same bits, or both null
abbrev pub same_at : (k : Number) → Column (t_plain (fixed k)) → ℕ → ℕ → Bool
same_at k x i j = alike (ok_at x i) (ok_at x j) (eqb (bits_at k x i) (bits_at k x j))

-- "Rows belong to one run when they are neighbours and read equal": row r of the m rows from a on is the last of its run
abbrev pub edge : (k : Number) → Column (t_plain (fixed k)) → ℕ → ℕ → ℕ → Bool
edge k x a m r = eqb (suc r) m || not (same_at k x (a + r) (a + suc r))

-- those of r, r + 1, .., n of them, that pass
abbrev pub those : (ℕ → Bool) → ℕ → ℕ → List ℕ
those p r zero = []
those p r (suc n) = cond (p r) (r ∷ those p (suc r) n) (those p (suc r) n)

-- the last rows of the runs, counted from a on
abbrev pub edges : (k : Number) → Column (t_plain (fixed k)) → ℕ → ℕ → List ℕ
edges k x a m = those (edge k x a m) 0 m

-- where the runs end
abbrev pub run_ends : (k : Number) → Column (t_plain (fixed k)) → ℕ → ℕ → List ℕ
run_ends k x a m = map suc (edges k x a m)

-- the rows of the column whose values the runs have
abbrev pub run_rows : (k : Number) → Column (t_plain (fixed k)) → ℕ → ℕ → List ℕ
run_rows k x a m = map (a +◌) (edges k x a m)

-- a buffer holds bytes
abbrev pub Bytes : List ℕ → Type 0
Bytes s = (i : ℕ) → get_or s i 0 < 256
