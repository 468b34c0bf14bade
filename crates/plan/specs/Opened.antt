-- What the opening of the model settles (model/specs/Transform.antt: `start`, `theDictionary`, `keysExtend`, `viewExtend`), by the words
-- of a plan: who keeps nulls, which dictionaries are joined, and what is added to keys and buffer numbers. Assumes nothing.
use Rattle.std.specs.Prelude.{◌≡◌, Bool, false, not, ℕ, suc, ◌<◌, length}
use mathlib.Core.List.{List, Memᴰ}
use Rattle.columnar.specs.Types.{Ty, t_plain, t_view, t_list_view, t_list, t_sparse, t_dense, t_run_end, t_dictionary}
use Rattle.columnar.specs.Array.{Array}
use Rattle.columnar.specs.Reading.{Body}
use Rattle.model.specs.Opening.{keeps, shared, start_of_keys}
use Rattle.model.specs.Primitive.{buffers_before}
use Rattle.array_data.specs.Typed.{Tree, node_of}
use Rattle.plan.specs.dictionaries.Sources.{capped}
use Rattle.walk.specs.State.{word, keeps_of, base_of}
use Rattle.plan.specs.Plan.{flag}

-- m sources; `find` has the children of unions
module _ (plan : List ℕ) (find : ℕ → List ℕ → ℕ → ℕ) (m : ℕ) where
  -- below node i, whose columns are the ss and which keeps nulls (u) or not: "this passes to union, list-view and run-value children, not to
  -- run ends and dictionaries"; "A view's buffer index rises by the number of data buffers in earlier sources"; "Only if all neighbouring
  -- sources share is source 0's dictionary kept; else all are joined"
  abbrev pub OpenedBelow : (t : Ty) → ℕ → Bool → (ℕ → Body t) → Type 0
  OpenedBelow (t_plain p) i u ss = Unit {0}
  OpenedBelow t_view i u ss = (s : ℕ) → s < m → base_of plan s i ≡ length (buffers_before ss s)
  OpenedBelow (t_list_view w t) i u ss =
      (keeps_of plan (suc i) ≡ flag (keeps u m (λ s. (ss s).child))) × OpenedBelow t (suc i) (keeps u m (λ s. (ss s).child)) (λ s. (ss s).child.body)
  OpenedBelow (t_list w t) i u ss =
      (keeps_of plan (suc i) ≡ flag (keeps u m (λ s. (ss s).child))) × OpenedBelow t (suc i) (keeps u m (λ s. (ss s).child)) (λ s. (ss s).child.body)
  OpenedBelow (t_sparse ids nullable f) i u ss =
      (c : ℕ)
      → Memᴰ c ids
      → (keeps_of plan (find i ids c) ≡ flag (keeps u m (λ s. (ss s).children c)))
      × OpenedBelow (f c) (find i ids c) (keeps u m (λ s. (ss s).children c)) (λ s. ((ss s).children c).body)
  OpenedBelow (t_dense ids nullable f) i u ss =
      (c : ℕ)
      → Memᴰ c ids
      → (keeps_of plan (find i ids c) ≡ flag (keeps u m (λ s. (ss s).children c)))
      × OpenedBelow (f c) (find i ids c) (keeps u m (λ s. (ss s).children c)) (λ s. ((ss s).children c).body)
  OpenedBelow (t_run_end w t) i u ss =
      (keeps_of plan (suc i) ≡ 0)
      × (keeps_of plan (suc (suc i)) ≡ flag (keeps u m (λ s. (ss s).values)))
      × OpenedBelow t (suc (suc i)) (keeps u m (λ s. (ss s).values)) (λ s. (ss s).values.body)
  OpenedBelow (t_dictionary k p) i u ss =
      (keeps_of plan (suc i) ≡ flag (keeps false m (λ s. (ss s).values)))
      × (word plan i 7 ≡ flag (not (shared m ss)))
      × ((s : ℕ) → s < m → base_of plan s i ≡ capped (start_of_keys m ss s))

-- THE OPENING, where the caller asks for nulls or not
abbrev pub Opened : List ℕ → Tree → ℕ → (t : Ty) → Bool → (ℕ → Array (Body t)) → Type 0
Opened plan tree m t keep ss = (keeps_of plan 0 ≡ flag (keeps keep m ss)) × OpenedBelow plan (node_of tree) m t 0 (keeps keep m ss) (λ s. (ss s).body)
