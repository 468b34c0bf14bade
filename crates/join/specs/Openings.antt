-- The answer of an opening whose sources are taken and whose parts lie well (01: "then per dictionary in tree order 6 (joining), 8, and 13 last"): in one pass
-- over the type, the first refusal, or whether the parts hold every dictionary that is joined. Assumes nothing.
use Rattle.std.specs.Prelude.{Bool, true, false, cond, ◌&&◌, List, [], ◌∷◌, ℕ, suc}
use Rattle.columnar.specs.Types.{Number, Plain, Ty, t_plain, t_view, t_list_view, t_list, t_sparse, t_dense, t_run_end, t_dictionary}
use Rattle.columnar.specs.Plain.{PlainBody}
use Rattle.columnar.specs.Dictionary.{Dictionary}
use Rattle.columnar.specs.Reading.{Body}
use Rattle.model.specs.Try.{Try, done, then, guard}
use Rattle.model.specs.Opening.{keeps, shared, entries_fit, all_keys_fit}
use Rattle.model.specs.Mutable.{start_node}
use Rattle.model.specs.Primitive.{plain_start}
use Rattle.model.specs.Transform.{joined_from}
use Rattle.refinement.specs.walk_is_model.Holds.{child_of}
use Rattle.refinement.specs.orders.Fits.{fits}

module _ (plan parts : List ℕ) (m : ℕ) where
  -- a dictionary whose entries are node i: "Only if all neighbouring sources share is source 0's dictionary kept", which has no part; "A joined dictionary has parts"
  abbrev pub dictionary_opens : Number → (p : Plain) → ℕ → (ℕ → Dictionary (PlainBody p)) → Try Bool
  dictionary_opens k p i ds =
      let entries = joined_from p (λ j. (ds j).values) m (start_node (keeps false m (λ j. (ds j).values)) (plain_start p)) in
      guard (entries_fit m ds) 6 (then (cond (shared m ds) (done true) (then entries (λ e. done (fits plan parts (t_plain p) i e)))) (λ b. guard (all_keys_fit k m m ds) 8 (done b)))

  -- each in order
  abbrev pub all_open : (ℕ → Try Bool) → List ℕ → Try Bool
  all_open g [] = done true
  all_open g (c ∷ cs) = then (g c) (λ b. then (all_open g cs) (λ v. done (b && v)))

  -- from node i on
  abbrev pub data_opens : (t : Ty) → ℕ → (ℕ → Body t) → Try Bool
  data_opens (t_plain p) i ss = done true
  data_opens t_view i ss = done true
  data_opens (t_list_view w t) i ss = data_opens t (suc i) (λ j. (ss j).child.body)
  data_opens (t_list w t) i ss = data_opens t (suc i) (λ j. (ss j).child.body)
  data_opens (t_sparse ids nullable f) i ss = all_open (λ c. data_opens (f c) (child_of plan i c) (λ j. ((ss j).children c).body)) ids
  data_opens (t_dense ids nullable f) i ss = all_open (λ c. data_opens (f c) (child_of plan i c) (λ j. ((ss j).children c).body)) ids
  data_opens (t_run_end w t) i ss = data_opens t (suc (suc i)) (λ j. (ss j).values.body)
  data_opens (t_dictionary k p) i ss = dictionary_opens k p (suc i) ss
