-- Rows of a child that follow one another, walked together: a stretch. Assumes nothing.
use Rattle.std.specs.Prelude.{Bool, true, cond, ◌&&◌, List, ℕ, zero, suc, ◌+◌, leb, eqb}
use Rattle.number.specs.Number.{entry}
use Rattle.walk.specs.Log.{Out, next}

-- f 0 + f 1 + .. + f (n - 1)
unfoldable pub sum_of : (ℕ → ℕ) → ℕ → ℕ
sum_of f zero = 0
sum_of f (suc n) = sum_of f n + f n

-- the n + 1 offsets of w bytes that stand in s from the byte `from` on never fall
unfoldable pub never_falls : ℕ → List ℕ → ℕ → ℕ → Bool
never_falls w s from zero = true
never_falls w s from (suc n) = never_falls w s from n && leb (entry w s from n) (entry w s from (suc n))

-- walk: first row, rows, counters; row r of the parent has the child's rows start r .. start r + size r - 1
module _ (walk : ℕ → ℕ → List ℕ → Out) (start size : ℕ → ℕ) where
  -- n rows of the parent from row r on, where the child's rows a .. a + m - 1 are still to be walked
  unfoldable pub stretch : ℕ → ℕ → ℕ → ℕ → List ℕ → Out
  stretch zero r a m c = walk a m c
  stretch (suc n) r a m c =
      -- no rows, and none behind the stretch: a walk of the stretch asks for all that a walk of none there asks for
      cond (eqb (size r) 0 && leb (start r) (a + m)) (stretch n (suc r) a m c)
      -- they follow the stretch
      (cond (eqb (start r) (a + m)) (stretch n (suc r) a (m + size r) c)
      -- the stretch has no rows, and stands before these
      (cond (eqb m 0 && leb a (start r)) (stretch n (suc r) (start r) (size r) c)
      (next (walk a m c) (λ c2. stretch n (suc r) (start r) (size r) c2))))

  -- all n rows
  abbrev pub stretches : ℕ → List ℕ → Out
  stretches n c = stretch n 0 0 0 c
