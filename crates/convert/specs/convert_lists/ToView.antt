-- THE CALL that writes a list column as a list-view (02, W4): its own ground, the plan of the result's root, and the walk that fills it. The child is the
-- column's own: its rows of the tables stand behind the root's. Assumes nothing.
use Rattle.std.specs.Prelude.{false, cond, List, [], ℕ, replicate}
use Rattle.array_data.specs.Tables.{Tables}
use Rattle.array_data.specs.lent_tables.Lent.{tables}
use Rattle.walk.specs.State.{bytes_of}
use Rattle.walk.specs.Log.{Out}
use Rattle.leaf_walk.specs.Join.{join}
use Rattle.refinement.specs.opening.Open.{Opening}
use Rattle.anew.specs.Anew.{Asking, asking, anew}
use Rattle.anew.specs.ResultPlan.{keeps_from, plan_anew}
use Rattle.convert.specs.convert_lists.Turned.{all_nodes, to_view}
use Rattle.convert.specs.convert_lists.Viewing.{view_walk}

module _ (formats schema : List ℕ) (x : Tables) (first n target tn : ℕ) where
  -- "refuses with 10 any other column", and another target
  abbrev pub view_own : ℕ
  view_own = cond (to_view formats schema first n target tn) 0 10

  -- the root alone has parts: "keeps the child, named in the source body without a part"
  abbrev pub view_plan : List ℕ
  view_plan = plan_anew formats schema target 1 (keeps_from (tables x.lengths x.places x.body) first all_nodes) false 0

  -- no walk reads the parts
  abbrev pub view_filled : Out
  view_filled = view_walk (join view_plan [] x.lengths x.places x.body first 0) (bytes_of view_plan 0) (replicate 96 0)

  -- THE QUESTION
  abbrev pub ask_view : (plan counters : List ℕ) → Asking
  ask_view = asking formats schema x first n view_own view_plan view_filled

  -- THE CALL
  abbrev pub make_view : (parts plan counters room : List ℕ) → Opening
  make_view = anew formats schema x first n view_own view_plan view_filled
