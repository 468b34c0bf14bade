-- The converter between widths on lent memory (02, W13): its own ground, the plan of its result, and the call. Assumes nothing.
use Rattle.std.specs.Prelude.{Bool, true, cond, List, ℕ, suc, replicate}
use Rattle.array_data.specs.Tables.{Tables}
use Rattle.array_data.specs.Typed.{tables_from}
use Rattle.array_data.specs.lent_tables.Lent.{tables}
use Rattle.array_data.specs.type_tree.Lent.{tree_of}
use Rattle.walk.specs.Log.{Out}
use Rattle.plan.specs.Plan.{filled}
use Rattle.refinement.specs.opening.Open.{Opening}
use Rattle.anew.specs.Anew.{Asking, asking, anew}
use Rattle.anew.specs.ResultPlan.{keeps_from, plan_anew}
use Rattle.width_walks.specs.target_rules.Target.{ends_at, is_target}
use Rattle.width_walks.specs.Nodes.{comes_from, tree_walk}

-- where each node of a result comes from, as words: one more than the number of the column's node; 0 for run ends
unfoldable pub from_words : (formats schema : List ℕ) (first n : ℕ) → List ℕ → List ℕ
from_words formats schema first n words = filled (λ i. i) (λ s i. cond (ends_at formats schema first i) 0 (suc i)) n words

-- the column of n nodes from node `first` on, and the target of tn nodes from node `target` on
module _ (formats schema : List ℕ) (x : Tables) (first n target tn : ℕ) where
  -- "first with 10 a target that differs in more than the widths named"
  unfoldable pub target_ground : ℕ
  target_ground = cond (is_target formats schema first n target tn) 0 10

  -- a node keeps nulls exactly where the node it comes from has one
  abbrev pub keeping : ℕ → Bool
  keeping = keeps_from (tables x.lengths x.places x.body) first (comes_from (tree_of formats schema first n))

  -- the plan of the result: the words of the target, "all entries are copied into parts"
  abbrev pub planned : List ℕ
  planned = plan_anew formats schema target tn keeping true 0

  -- the walk that fills it, and its grounds 6, 7 and 8
  abbrev pub walked : Out
  walked = tree_walk (tree_of formats schema first n) (tree_of formats schema target tn) (tables_from x first) planned (replicate 96 0)

  -- THE QUESTION: what room the result needs
  abbrev pub asked : (plan counters : List ℕ) → Asking
  asked = asking formats schema x first n target_ground planned walked

  -- THE CALL
  abbrev pub convert : (parts plan counters room : List ℕ) → Opening
  convert = anew formats schema x first n target_ground planned walked
