-- Reclaiming the unused entries of a dictionary column on lent memory (02, W9): "Write a column anew with only the entries that some valid
-- key names". Assumes nothing.
use Rattle.std.specs.Prelude.{true, cond, List, [], ◌∷◌, ℕ, replicate, eqb}
use Rattle.schema.specs.Tree.{dictionary}
use Rattle.array_data.specs.Tables.{Tables}
use Rattle.array_data.specs.lent_tables.Lent.{tables}
use Rattle.walk.specs.Log.{Out}
use Rattle.refinement.specs.plan_is_type.Planted.{join_of}
use Rattle.refinement.specs.opening.Open.{Opening}
use Rattle.anew.specs.Anew.{Asking, asking, anew}
use Rattle.anew.specs.ResultPlan.{keeps_from, plan_anew}
use Rattle.reclaim.specs.reclaim_walk.Walk.{reclaim_walk_of}

-- keys and entries come from the column's own
abbrev pub from_column : List ℕ
from_column = 1 ∷ 2 ∷ []

-- "It refuses with 10 a column that is no dictionary"
unfoldable pub reclaim_own : List ℕ → ℕ → ℕ
reclaim_own schema first = cond (eqb (dictionary schema first 0) 0) 10 0

module _ (formats schema : List ℕ) (x : Tables) (first n : ℕ) where
  -- the plan of the result: the column's type, its dictionary in parts
  unfoldable pub reclaim_plan : List ℕ
  reclaim_plan = plan_anew formats schema first n (keeps_from (tables x.lengths x.places x.body) first from_column) true 0

  -- the walk that fills it, which asks for no part
  unfoldable pub reclaim_out : Out
  reclaim_out = reclaim_walk_of (join_of x reclaim_plan [] first 0) (replicate 96 0)

  -- THE QUESTION
  abbrev pub reclaim_asked : List ℕ → List ℕ → Asking
  reclaim_asked plan counters = asking formats schema x first n (reclaim_own schema first) reclaim_plan reclaim_out plan counters

  -- THE CALL
  abbrev pub reclaiming : List ℕ → List ℕ → List ℕ → List ℕ → Opening
  reclaiming parts plan counters room = anew formats schema x first n (reclaim_own schema first) reclaim_plan reclaim_out parts plan counters room
