-- The converter between widths, as its functions make it: the grounds that are asked first, the words of the result's nodes, and the walk by a
-- plan. Assumes nothing.
use Rattle.std.specs.Prelude.{true, List, ℕ, replicate}
use Rattle.array_data.specs.Tables.{Tables}
use Rattle.array_data.specs.Typed.{tables_from}
use Rattle.array_data.specs.type_tree.Lent.{tree_of}
use Rattle.columns.specs.Grounds.{column_ground}
use Rattle.walk.specs.Log.{Out}
use Rattle.anew.specs.Anew.{or_else}
use Rattle.anew.specs.ResultPlan.{keeps_from, words_anew}
use Rattle.width_walks.specs.Nodes.{tree_walk}
use Rattle.width_walks.specs.Call.{from_words, target_ground}

-- the column of n nodes from node `first` on, and the target
module _ (formats schema : List ℕ) (x : Tables) (first n target : ℕ) where
  -- 9, 10, 12 of the column, and 10 of the target of tn nodes
  abbrev pub ground_of : ℕ → ℕ
  ground_of tn = or_else (column_ground formats schema x first n) (target_ground formats schema x first n target tn)

  -- where each of the n nodes of the result comes from
  abbrev pub came : List ℕ
  came = from_words formats schema first n (replicate 32 0)

  -- the words of the result's nodes
  abbrev pub words_of : List ℕ
  words_of = words_anew formats schema target n (keeps_from x first came) true

  -- the walk by a plan
  abbrev pub walk_by : List ℕ → Out
  walk_by plan = tree_walk (tree_of formats schema first n) (tree_of formats schema target n) (tables_from x first) plan (replicate 96 0)
