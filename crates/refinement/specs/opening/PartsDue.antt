-- How many parts a destination has, by its type alone (01: "one part per buffer", "a node's validity if it keeps nulls, then its buffers in the
-- format's order. View data buffers and a kept dictionary .. have no part .. A joined dictionary has parts"; "Unions and run-end nodes hold no
-- validity and have no part for it"). Assumes nothing.
use Rattle.std.specs.Prelude.{Bool, true, false, cond, ◌&&◌, List, [], ◌∷◌, ℕ, ◌+◌}
use Rattle.columnar.specs.Types.{Plain, fixed, string, Ty, t_plain, t_view, t_list_view, t_list, t_sparse, t_dense, t_run_end, t_dictionary}
use Rattle.columnar.specs.Reading.{Body, Column, masks}
use Rattle.model.specs.Opening.{keeps, shared}

abbrev pub summed : (ℕ → ℕ) → List ℕ → ℕ
summed f [] = 0
summed f (c ∷ cs) = f c + summed f cs

-- a node that has validity (`masks`) and keeps nulls
abbrev pub validity_due : Bool → Bool → ℕ
validity_due masks keep = cond (masks && keep) 1 0

-- values; offsets and bytes
abbrev pub plain_due : Plain → ℕ
plain_due (fixed n) = 1
plain_due (string w) = 2

module _ (m : ℕ) where
  -- the buffers of a node that keeps nulls (u) or not, and all parts below it. "A node keeps nulls if the caller says so or any source has a
  -- null at that node; this passes to union, list-view, list and run-value children, not to run ends and dictionaries."
  abbrev pub due_below : (t : Ty) → Bool → (ℕ → Body t) → ℕ
  due_below (t_plain p) u ss = plain_due p
  due_below t_view u ss = 1
  due_below (t_list_view w t) u ss =
      2 + (validity_due (masks t) (keeps u m (λ s. (ss s).child)) + due_below t (keeps u m (λ s. (ss s).child)) (λ s. (ss s).child.body))
  due_below (t_list w t) u ss =
      1 + (validity_due (masks t) (keeps u m (λ s. (ss s).child)) + due_below t (keeps u m (λ s. (ss s).child)) (λ s. (ss s).child.body))
  due_below (t_sparse ids nullable f) u ss =
      1
      + summed (λ c. validity_due (masks (f c)) (keeps u m (λ s. (ss s).children c)) + due_below (f c) (keeps u m (λ s. (ss s).children c)) (λ s. ((ss s).children c).body))
      ids
  due_below (t_dense ids nullable f) u ss =
      2
      + summed (λ c. validity_due (masks (f c)) (keeps u m (λ s. (ss s).children c)) + due_below (f c) (keeps u m (λ s. (ss s).children c)) (λ s. ((ss s).children c).body))
      ids
  due_below (t_run_end w t) u ss =
      1 + (validity_due (masks t) (keeps u m (λ s. (ss s).values)) + due_below t (keeps u m (λ s. (ss s).values)) (λ s. (ss s).values.body))
  due_below (t_dictionary k p) u ss = 1 + cond (shared m ss) 0 (validity_due true (keeps false m (λ s. (ss s).values)) + plain_due p)

  -- THE PARTS OF A JOIN; keep: the caller asks for nulls
  abbrev pub parts_due : (t : Ty) → Bool → (ℕ → Column t) → ℕ
  parts_due t keep ss = validity_due (masks t) (keeps keep m ss) + due_below t (keeps keep m ss) (λ s. (ss s).body)
