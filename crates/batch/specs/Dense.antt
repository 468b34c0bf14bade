-- A dense union by stretches: the rows of each child whose positions follow one another, child after child.
-- Assumes nothing.
use Rattle.std.specs.Prelude.{cond, ◌&&◌, List, ℕ, zero, suc, ◌+◌, ◌*◌, take, drop, ltb, eqb}
use Rattle.columnar.specs.Types.{half}
use Rattle.columnar.specs.Test.{every}
use Rattle.utils.specs.Pieces.{numbers}
use Rattle.walk.specs.State.{Join, end_of, rows, place, rows_in}
use Rattle.walk.specs.Log.{Out, put, done, wrote, need, next}
use Rattle.walk.specs.Copy.{Walk, child_with, id_at, position_at}
use Rattle.batch.specs.Stretch.{sum_of, stretches}
use Rattle.batch.specs.Rise.{owned}

module _ (x : Join) (child : Walk) where
  -- a dense union: the child that row r goes to, and the row that it takes there, from the counters before
  abbrev pub home : ℕ → ℕ → ℕ → ℕ
  home i slot r = child_with x.plan (id_at x child i (slot + r)) (end_of x.plan i) 32 (suc i)

  abbrev pub takes : ℕ → ℕ → ℕ → ℕ → ℕ
  takes i slot k r = cond (eqb (home i slot r) k) 1 0

  abbrev pub takes_at : ℕ → ℕ → ℕ → ℕ → ℕ
  takes_at i slot k r = cond (eqb (home i slot r) k) (position_at x child i (slot + r)) 0

  abbrev pub lands_at : ℕ → ℕ → List ℕ → ℕ → ℕ
  lands_at i slot c r = rows c (home i slot r) + sum_of (takes i slot (home i slot r)) r

  -- the rows of one child after those of the other; nodes rise, else a child would be walked twice
  unfoldable pub batch_fields : ℕ → ℕ → ℕ → ℕ → ℕ → ℕ → List ℕ → Out
  batch_fields i slot n end zero k c = done c
  batch_fields i slot n end (suc f) k c =
      cond (ltb k end)
      (need (ltb k (end_of x.plan k) && owned x.plan k) 12 c
      (next (stretches (λ a m d. child k a m d) (takes_at i slot k) (takes i slot k) n c) (λ c2. batch_fields i slot n end f (end_of x.plan k) c2)))
      (done c)

  -- every row has a child whose rows its position can name: 12 or 6 of the copy, which this walk does not tell apart
  unfoldable pub batch_dense : ℕ → ℕ → ℕ → List ℕ → Out
  batch_dense i slot n c =
      need (owned x.plan i) 12 c
      (need (rows_in x (place x i 3) 1 slot n && rows_in x (place x i 5) 4 slot n) 12 c
      (need (every (λ r. ltb (home i slot r) 32 && ltb (lands_at i slot c r) (half 4)) n) 12 c
      (next (wrote (put i 1 (rows c i) (take n (drop (place x i 3 + slot) x.body))) c)
      (λ c2. next (wrote (put i 2 (rows c2 i * 4) (numbers 4 (lands_at i slot c2) n)) c2)
      (λ c3. batch_fields i slot n (end_of x.plan i) 32 (suc i) c3)))))
