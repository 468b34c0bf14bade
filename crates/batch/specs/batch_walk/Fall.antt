-- How the rows of a dense union fall to its children: each row has a home, the child that takes it, and a position there. Assumes nothing.
use Rattle.std.specs.Prelude.{◌≡◌, Bool, true, cond, ◌&&◌, List, ℕ, suc, ◌+◌, ◌-◌, ◌<◌, length, get_or, ltb, eqb}
use Rattle.columnar.specs.Types.{half}
use Rattle.columnar.specs.Test.{every}
use Rattle.walk.specs.State.{end_of, rows}
use Rattle.walk.specs.Log.{Out}
use Rattle.walk.specs.Copy.{child_with}
use Rattle.batch.specs.Stretch.{sum_of, stretch}
use Rattle.batch.specs.batch_walk.Side.{furthest_of}

-- a table of the child of each id
abbrev pub Homed : List ℕ → ℕ → List ℕ → Type 0
Homed plan i homes = (id : ℕ) → id < 256 → get_or homes id 0 ≡ child_with plan id (end_of plan i) 32 (suc i)

-- by that table, the child of the id at byte q
abbrev pub home_by : List ℕ → List ℕ → ℕ → ℕ
home_by homes body q = get_or homes (get_or body q 0) 0

module _ (home : ℕ → ℕ) where
  -- whether child k takes row r
  abbrev pub takes_of : ℕ → ℕ → ℕ
  takes_of k r = cond (eqb (home r) k) 1 0

  -- the row that row r takes there, from the counters before
  abbrev pub lands_by : List ℕ → ℕ → ℕ
  lands_by c r = rows c (home r) + sum_of (takes_of (home r)) r

  -- every row has a child whose rows its position can name
  abbrev pub all_land : List ℕ → ℕ → Bool
  all_land c n = every (λ r. ltb (home r) 32 && ltb (lands_by c r) (half 4)) n

  module _ (position : ℕ → ℕ) where
    -- and from where child k takes it
    abbrev pub takes_from : ℕ → ℕ → ℕ
    takes_from k r = cond (eqb (home r) k) (position r) 0

    -- r of n rows looked at: where each child's first stretch begins, the rows that it takes, and how far they reach; `whole`: no stretch has ended
    pub record Fallen (n r : ℕ) (whole : Bool) (begins taken ends : List ℕ) : Type 0 where
      pub long : (length begins ≡ 32) × (length taken ≡ 32) × (length ends ≡ 32)
      pub counted : (k : ℕ) → k < 32 → get_or taken k 0 ≡ sum_of (takes_of k) r
      pub furthest : (k : ℕ) → k < 32 → get_or ends k 0 ≡ furthest_of (λ q. takes_from k q + takes_of k q) r
      pub begun : (k : ℕ) → k < 32 → (get_or begins k 0 < 4294967296) × (get_or taken k 0 ≡ 0 → get_or begins k 0 ≡ 0)
      pub one : whole ≡ true → (k : ℕ) → k < 32 → (walk : ℕ → ℕ → List ℕ → Out) (c : List ℕ)
          → stretch walk (takes_from k) (takes_of k) n 0 0 0 c ≡ stretch walk (takes_from k) (takes_of k) (n - r) r (get_or begins k 0) (get_or taken k 0) c
