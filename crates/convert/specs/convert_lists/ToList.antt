-- THE CALL that writes a list-view column as a list (02, W4): its own ground, the plan of the result, and the walk that fills it.
-- Assumes nothing.
use Rattle.std.specs.Prelude.{false, cond, List, [], ◌∷◌, ℕ, replicate}
use Rattle.array_data.specs.Tables.{Tables}
use Rattle.array_data.specs.lent_tables.Lent.{tables}
use Rattle.walk.specs.Log.{Out}
use Rattle.refinement.specs.orders.Order.{Lent}
use Rattle.refinement.specs.opening.Open.{Opening}
use Rattle.anew.specs.Anew.{Asking, asking, anew}
use Rattle.anew.specs.ResultPlan.{keeps_from, plan_anew}
use Rattle.convert.specs.convert_lists.Turned.{all_nodes, to_list}
use Rattle.convert.specs.convert_lists.Listing.{list_walk}

-- a result's plan over the tables of the n nodes from node `first` on
abbrev pub lent_with : Tables → List ℕ → List ℕ → ℕ → ℕ → Lent
lent_with x plan parts first n = record { plan = plan; parts = parts; sources = first ∷ n ∷ []; lengths = x.lengths; places = x.places; body = x.body }

module _ (formats schema : List ℕ) (x : Tables) (first n target tn : ℕ) where
  -- "refuses with 10 any other column", and another target
  abbrev pub list_own : ℕ
  list_own = cond (to_list formats schema first n target tn) 0 10

  -- each node comes from that of the same number; dictionaries below are kept
  abbrev pub list_plan : List ℕ
  list_plan = plan_anew formats schema target tn (keeps_from (tables x.lengths x.places x.body) first all_nodes) false 0

  -- no walk reads the parts
  abbrev pub list_filled : Out
  list_filled = list_walk (lent_with x list_plan [] first n) (replicate 96 0)

  -- THE QUESTION
  abbrev pub ask_list : (plan counters : List ℕ) → Asking
  ask_list = asking formats schema x first n list_own list_plan list_filled

  -- THE CALL
  abbrev pub make_list : (parts plan counters room : List ℕ) → Opening
  make_list = anew formats schema x first n list_own list_plan list_filled
