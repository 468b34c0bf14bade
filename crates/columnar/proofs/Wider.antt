-- A column stored wider has the same rows and null counts, and obeys the rules of a source again. Assumes nothing.
use mathlib.Core.Path.{◌≡◌}
use mathlib.Core.Logic.{◌↔◌}
use Prim.Native.Nat.{ℕ, suc, ◌<◌}
use native.Mathlib.Nat.{zero-add}
use native.Mathlib.Omega.{arith}
use Rattle.columnar.specs.Types.{Number, Plain, Ty, t_dictionary}
use Rattle.columnar.specs.Array.{null_count_of}
use Rattle.columnar.specs.Reading.{Column, slot_at, read, read_all, masks, SlotRule, Source}
use Rattle.columnar.specs.Wider.{Wider, w_plain, w_view, w_list_view, w_list, w_sparse, w_dense, w_run_end, w_dictionary, KeyWider, PlainWider, Same, Stored, Shares, SharedAlike, Again}
use Rattle.columnar.proofs.Kept.{seg_same, nulls_kept, Widens, read_kept, obeys_kept}
use Rattle.columnar.proofs.WiderKinds.{plain_widens, view_widens, list_view_widens, list_widens, sparse_widens, dense_widens, run_end_widens, dictionary_widens}

-- every type, any depth
pub widens : {t t' : Ty} (d : Wider t t') → Widens (masks t) (masks t') (slot_at t) (slot_at t') (SlotRule t) (SlotRule t') (Same d)
widens (w_plain d) = plain_widens d
widens w_view = view_widens
widens (w_list_view w w' h d) = list_view_widens w w' h (widens d)
widens (w_list w w' h d) = list_widens w w' h (widens d)
widens (w_sparse ids e d) = sparse_widens ids (λ c m. widens (d c m))
widens (w_dense ids e d) = dense_widens ids (λ c m. widens (d c m))
widens (w_run_end w w' h d) = run_end_widens w w' h (widens d)
widens (w_dictionary k k' h d) = dictionary_widens k k' h d

module _ {t t' : Ty} (d : Wider t t') {x : Column t} {x' : Column t'} (h : Stored d x x') where
  -- EVERY ROW READS THE SAME
  pub reads_same : Source t x → (i : ℕ) → i < x.len → read t x i ≡ read t' x' i
  reads_same s = read_kept (widens d) h s

  pub rows_same : Source t x → read_all t x ≡ read_all t' x'
  rows_same s = rw (← h.same_len) (seg_same (read t x) (read t' x') 0 x.len (λ i q. rw zero-add (reads_same s i q)))

  -- THE WIDE COLUMN IS A SOURCE
  pub source_wider : Source t x → Source t' x'
  source_wider s = obeys_kept (widens d) h s

  -- AS MANY NULLS, AND SO A NULL IN BOTH OR IN NEITHER. At a child: `nulls-kept`.
  pub nulls_same : null_count_of x ≡ null_count_of x'
  nulls_same = nulls_kept h

-- ---- n sources

module _ {t t' : Ty} (d : Wider t t') (n : ℕ) (ss : ℕ → Column t) (ss' : ℕ → Column t') (h : Again d n ss ss') where
  pub again_rows : (i : ℕ) → i < n → Source t (ss i) → read_all t (ss i) ≡ read_all t' (ss' i)
  again_rows i q s = rows_same d (h.each i q) s

  pub again_sources : ((i : ℕ) → i < n → Source t (ss i)) → (i : ℕ) → i < n → Source t' (ss' i)
  again_sources s i q = source_wider d (h.each i q) (s i q)

-- "Only if all neighbouring sources share": in both or in neither
pub neighbours_same : (k k' : Number) {p p' : Plain} (h : KeyWider k k') (d : PlainWider p p') (n : ℕ)
    (ss : ℕ → Column (t_dictionary k p)) (ss' : ℕ → Column (t_dictionary k' p')) → SharedAlike (w_dictionary k k' h d) n ss ss'
    → ((i : ℕ) → suc i < n → Shares (ss i).body (ss (suc i)).body) ↔ ((i : ℕ) → suc i < n → Shares (ss' i).body (ss' (suc i)).body)
neighbours_same k k' h d n ss ss' a =
    ((λ f i q. (a i (suc i) (omega arith) q).0 (f i q)), (λ f i q. (a i (suc i) (omega arith) q).1 (f i q)))
