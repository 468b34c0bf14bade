-- Ground 13 of an opening in the model's terms: the parts hold a destination with no rows, "new_buffers for the first zero offset"
-- included, and every joined dictionary (01: "A joined dictionary has parts"; "a part can't hold its bytes after the call"). Assumes nothing.
use Rattle.std.specs.Prelude.{Bool, true, false, ◌&&◌, ◌||◌, List, ℕ, suc}
use Rattle.columnar.specs.Types.{Plain, Ty, t_plain, t_view, t_list_view, t_list, t_sparse, t_dense, t_run_end, t_dictionary}
use Rattle.columnar.specs.Plain.{PlainBody}
use Rattle.columnar.specs.Dictionary.{Dictionary}
use Rattle.columnar.specs.Reading.{Body, Column}
use Rattle.columnar.specs.Test.{each}
use Rattle.model.specs.Try.{Try, done, stop, then, guard}
use Rattle.model.specs.Opening.{keeps, shared}
use Rattle.model.specs.Mutable.{Mutable, start_node}
use Rattle.model.specs.Primitive.{plain_start}
use Rattle.model.specs.Transform.{Destination, joined_from, open_data, start}
use Rattle.refinement.specs.walk_is_model.Holds.{child_of}
use Rattle.refinement.specs.orders.Fits.{fits}

-- the entries of all sources joined, before they are finished (model/specs/Transform.antt: `theDictionary`)
abbrev pub joined_all : (p : Plain) → ℕ → (ℕ → Dictionary (PlainBody p)) → Try (Mutable (PlainBody p))
joined_all p m ds = joined_from p (λ j. (ds j).values) m (start_node (keeps false m (λ j. (ds j).values)) (plain_start p))

module _ (plan parts : List ℕ) where
  -- the parts of node i hold the joined entries
  abbrev pub fits_joined : (p : Plain) → ℕ → Try (Mutable (PlainBody p)) → Bool
  fits_joined p i (done e) = fits plan parts (t_plain p) i e
  fits_joined p i (stop g) = false

  -- every dictionary from node i on: "Only if all neighbouring sources share is source 0's dictionary kept", which has no part
  abbrev pub entries_fit : (t : Ty) → ℕ → ℕ → (ℕ → Body t) → Bool
  entries_fit (t_plain p) i m ss = true
  entries_fit t_view i m ss = true
  entries_fit (t_list_view w t) i m ss = entries_fit t (suc i) m (λ j. (ss j).child.body)
  entries_fit (t_list w t) i m ss = entries_fit t (suc i) m (λ j. (ss j).child.body)
  entries_fit (t_sparse ids nullable f) i m ss = each (λ e. entries_fit (f e) (child_of plan i e) m (λ j. ((ss j).children e).body)) ids
  entries_fit (t_dense ids nullable f) i m ss = each (λ e. entries_fit (f e) (child_of plan i e) m (λ j. ((ss j).children e).body)) ids
  entries_fit (t_run_end w t) i m ss = entries_fit t (suc (suc i)) m (λ j. (ss j).values.body)
  entries_fit (t_dictionary k p) i m ss = shared m ss || fits_joined p (suc i) (joined_all p m ss)

  -- THE PARTS HOLD WHAT AN OPENING WRITES from node i on
  abbrev pub open_fits : (t : Ty) → ℕ → ℕ → (ℕ → Body t) → Destination t → Bool
  open_fits t i m ss d = fits plan parts t i d && entries_fit t i m ss

  -- "then per dictionary in tree order 6 (joining), 8, and 13 last"
  abbrev pub open_in : Bool → (t : Ty) → Bool → ℕ → (ℕ → Column t) → Try (Destination t)
  open_in gaps t keep m ss =
      then (open_data t m (λ j. (ss j).body)) (λ y. guard (open_fits t 0 m (λ j. (ss j).body) (start gaps t keep m ss)) 13 (done (start gaps t keep m ss)))
