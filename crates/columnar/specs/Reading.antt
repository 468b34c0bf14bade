-- How a row is read, and what a source must obey, for every type: one clause a kind. Assumes nothing.
use Rattle.std.specs.Prelude.{Bool, true, false, List, ℕ}
use Rattle.columnar.specs.Row.{Row, seg}
use Rattle.columnar.specs.Types.{Plain, Ty, t_plain, t_view, t_list_view, t_list, t_sparse, t_dense, t_run_end, t_dictionary}
use Rattle.columnar.specs.Array.{Array, read_with, Obeys}
use Rattle.columnar.specs.Plain.{PlainBody, plain_at, PlainRule}
use Rattle.columnar.specs.View.{Views, view_at, ViewRule}
use Rattle.columnar.specs.ListView.{ListView, list_view_at, ListViewRule}
use Rattle.columnar.specs.List.{Listed, list_at, ListRule}
use Rattle.columnar.specs.Union.{Sparse, Dense, sparse_at, dense_at, SparseRule, DenseRule}
use Rattle.columnar.specs.RunEnd.{RunEnd, run_end_at, RunEndRule}
use Rattle.columnar.specs.Dictionary.{Dictionary, dictionary_at, DictionaryRule}

abbrev pub Body : Ty → Type 0
Body (t_plain p) = PlainBody p
Body t_view = Views
Body (t_list_view w t) = ListView (Body t)
Body (t_list w t) = Listed (Body t)
Body (t_sparse ids nullable f) = Sparse (λ c. Body (f c))
Body (t_dense ids nullable f) = Dense (λ c. Body (f c))
Body (t_run_end w t) = RunEnd (Body t)
Body (t_dictionary k p) = Dictionary (PlainBody p)

abbrev pub Column : Ty → Type 0
Column t = Array (Body t)

-- what slot i of the buffers holds, its validity aside
abbrev pub slot_at : (t : Ty) → Body t → ℕ → Row
slot_at (t_plain p) = plain_at p
slot_at t_view = view_at
slot_at (t_list_view w t) = list_view_at w (slot_at t)
slot_at (t_list w t) = list_at w (slot_at t)
slot_at (t_sparse ids nullable f) = sparse_at (λ c. slot_at (f c))
slot_at (t_dense ids nullable f) = dense_at (λ c. slot_at (f c))
slot_at (t_run_end w t) = run_end_at w (slot_at t)
slot_at (t_dictionary k p) = dictionary_at k p

-- ROW i OF A COLUMN
abbrev pub read : (t : Ty) → Column t → ℕ → Row
read t = read_with (slot_at t)

-- all its rows
abbrev pub read_all : (t : Ty) → Column t → List Row
read_all t x = seg (read t x) 0 x.len

-- "no validity buffer on a union or run-end node"
abbrev pub masks : Ty → Bool
masks (t_plain p) = true
masks t_view = true
masks (t_list_view w t) = true
masks (t_list w t) = true
masks (t_sparse ids nullable f) = false
masks (t_dense ids nullable f) = false
masks (t_run_end w t) = false
masks (t_dictionary k p) = true

abbrev pub SlotRule : (t : Ty) → (ℕ → Bool) → Body t → ℕ → ℕ → Type 0
SlotRule (t_plain p) = PlainRule p
SlotRule t_view = ViewRule
SlotRule (t_list_view w t) = ListViewRule w (Obeys (masks t) (SlotRule t))
SlotRule (t_list w t) = ListRule w (Obeys (masks t) (SlotRule t))
SlotRule (t_sparse ids nullable f) = SparseRule ids (λ c. Obeys (masks (f c)) (SlotRule (f c)))
SlotRule (t_dense ids nullable f) = DenseRule ids (λ c. Obeys (masks (f c)) (SlotRule (f c)))
SlotRule (t_run_end w t) = RunEndRule w (Obeys (masks t) (SlotRule t))
SlotRule (t_dictionary k p) = DictionaryRule k (Obeys true (PlainRule p))

-- A SOURCE OBEYS THE RULES
abbrev pub Source : (t : Ty) → Column t → Type 0
Source t = Obeys (masks t) (SlotRule t)
