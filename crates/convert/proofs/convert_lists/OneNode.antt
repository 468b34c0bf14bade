-- The child's type as either tree gives it: both read the same tables alike. They differ only in what they say of union ids that are not declared.
-- Assumes nothing.
use mathlib.Core.Path.{◌≡◌, refl, sym, ap, subst, ◌∙◌}
use mathlib.Core.List.{List, Memᴰ}
use mathlib.Core.Bool.{Bool}
use Prim.Native.Nat.{ℕ, zero, suc, ◌+◌, ◌-◌, ◌<◌}
use native.Mathlib.Nat.{zero-add}
use native.Mathlib.Omega.{arith}
use lib.ListN.{get_or}
use Rattle.columnar.specs.Row.{list, rows, union}
use Rattle.columnar.specs.Types.{Number, int, w1, Plain, fixed, string, Ty, t_plain, t_view, t_list_view, t_list, t_sparse, t_dense, t_run_end, t_dictionary}
use Rattle.columnar.specs.Array.{item, ok, sight}
use Rattle.columnar.specs.RunEnd.{end_of, first_above}
use Rattle.columnar.specs.Reading.{slot_at, read, read_all, Source}
use Rattle.columnar.proofs.FirstAbove.{first_below}
use Rattle.columnar.proofs.Kept.{seg_same}
use Rattle.columnar.proofs.WiderKinds.{row_within}
use Rattle.array_data.specs.Tables.{Tables, length_of, offset_of, valid_of, first_buffer, second_buffer, array_with}
use Rattle.array_data.proofs.type_tree.ByKind.{plain_as, ty_as, type_by_lem}
use Rattle.array_data.specs.NodeKinds.{NodeKind, fixed_node, string_node, view_node, list_view_node, list_node, sparse_node, dense_node, run_end_node, dictionary_node}
use Rattle.array_data.specs.Typed.{Tree, field_of, node_of, MeansPlain, Means, body_of, column_of, kind_in}
use Rattle.array_data.specs.type_tree.Lent.{ty_of}
use Rattle.convert.proofs.convert_lists.Subtree.{Alike, kid_same}

-- ---- two types of one node

pub data Likewise : Ty → Ty → Type 0 where
  of_plain_lem : (p : Plain) → Likewise (t_plain p) (t_plain p)
  of_view : Likewise t_view t_view
  of_list_view : (w : ℕ) {t u : Ty} → Likewise t u → Likewise (t_list_view w t) (t_list_view w u)
  of_list : (w : ℕ) {t u : Ty} → Likewise t u → Likewise (t_list w t) (t_list w u)
  of_sparse : (ids : List ℕ) {a b : ℕ → Bool} {f g : ℕ → Ty} → ((c : ℕ) → Memᴰ c ids → Likewise (f c) (g c)) → Likewise (t_sparse ids a f) (t_sparse ids b g)
  of_dense : (ids : List ℕ) {a b : ℕ → Bool} {f g : ℕ → Ty} → ((c : ℕ) → Memᴰ c ids → Likewise (f c) (g c)) → Likewise (t_dense ids a f) (t_dense ids b g)
  of_run_end : (w : ℕ) {t u : Ty} → Likewise t u → Likewise (t_run_end w t) (t_run_end w u)
  of_dictionary : (k : Number) (p : Plain) → Likewise (t_dictionary k p) (t_dictionary k p)

-- ---- they are the types of a node below the root of two trees that agree

module _ (there here : Tree) (a : Alike there here) where
  plain_inside : (p : Plain) (i : ℕ) → MeansPlain there p i → i < there.count
  plain_inside (fixed m) i h = h.0
  plain_inside (string w) i h = h.0

  pub likewise : (f i : ℕ) → 0 < i → Means there (ty_of there f i) i → Likewise (ty_of there f i) (ty_of here f i)
  unfolding ty_of
  likewise zero i p h = of_plain_lem (fixed (int w1))
  likewise (suc f) i p h =
      subst (λ u. Likewise u (ty_of here (suc f) i)) (sym (type_by_lem there f i))
      (subst (Likewise (ty_as there (ty_of there f) (kind_in there i) i)) (sym (type_by_lem here f i))
      (go (kind_in there i) refl (subst (λ u. Means there u i) (type_by_lem there f i) h) (likewise f)))
    where
      -- the other tree's node is of the same kind
      same : (k : NodeKind) → kind_in there i ≡ k → i < there.count → (u : Ty) → Likewise u (ty_as here (ty_of here f) k i) → Likewise u (ty_as here (ty_of here f) (kind_in here i) i)
      same k e l u q = subst (λ k. Likewise u (ty_as here (ty_of here f) k i)) (sym e ∙ a.kinds i p l) q

      field : (ids : List ℕ) (c : ℕ) → Likewise (ty_of there f (node_of there i ids c)) (ty_of here f (node_of there i ids c)) → Likewise (ty_of there f (node_of there i ids c)) (ty_of here f (node_of here i ids c))
      field ids c q = subst (λ k. Likewise (ty_of there f (node_of there i ids c)) (ty_of here f k)) (kid_same there here a i (field_of ids c) p) q

      go : (k : NodeKind) → kind_in there i ≡ k → Means there (ty_as there (ty_of there f) k i) i → ((j : ℕ) → 0 < j → Means there (ty_of there f j) j → Likewise (ty_of there f j) (ty_of here f j))
          → Likewise (ty_as there (ty_of there f) k i) (ty_as here (ty_of here f) (kind_in here i) i)
      go (fixed_node m) e h r = same (fixed_node m) e h.0 _ (of_plain_lem (fixed m))
      go (string_node w) e h r = same (string_node w) e h.0 _ (of_plain_lem (string w))
      go view_node e h r = same view_node e h.0 _ of_view
      go (list_view_node w) e h r = same (list_view_node w) e h.0.0 _ (of_list_view w (r (suc i) (omega arith) h.1))
      go (list_node w) e h r = same (list_node w) e h.0.0 _ (of_list w (r (suc i) (omega arith) h.1))
      go (sparse_node ids) e h r = same (sparse_node ids) e h.0.0 _ (of_sparse ids (λ c q. field ids c (r (node_of there i ids c) (a.later i (field_of ids c) p) (h.1 c q).1)))
      go (dense_node ids) e h r = same (dense_node ids) e h.0.0 _ (of_dense ids (λ c q. field ids c (r (node_of there i ids c) (a.later i (field_of ids c) p) (h.1 c q).1)))
      go (run_end_node w) e h r = same (run_end_node w) e h.0.0 _ (of_run_end w (r (suc (suc i)) (omega arith) h.2))
      go (dictionary_node m) e h r =
          let l = plain_inside (plain_as (kind_in there (suc i))) (suc i) h.1 in
          same (dictionary_node m) e h.0.0 _
          (subst (λ k. Likewise (t_dictionary m (plain_as (kind_in there (suc i)))) (t_dictionary m (plain_as k))) (a.kinds (suc i) (omega arith) l) (of_dictionary m (plain_as (kind_in there (suc i)))))

-- ---- one table, read by both

module _ (tree : Tree) (y : Tables) where
  -- a row, where its slot is read alike
  sighted : (i r : ℕ) (t u : Ty) → slot_at t (body_of tree y t i) (offset_of y i + r) ≡ slot_at u (body_of tree y u i) (offset_of y i + r) → read t (column_of tree y t i) r ≡ read u (column_of tree y u i) r
  sighted i r t u e = ap (sight (ok (valid_of y i) (offset_of y i + r))) e

  pub likewise_read : (t u : Ty) → Likewise t u → (i : ℕ) → Source t (column_of tree y t i) → (r : ℕ) → r < length_of y i → read t (column_of tree y t i) r ≡ read u (column_of tree y u i) r
  likewise_read _ _ (of_plain_lem p) i o r l = refl
  likewise_read _ _ of_view i o r l = refl
  likewise_read _ _ (of_list_view w {t} {u} n) i o r l =
      let s = offset_of y i + r in
      let e = o.slots.entries r l in
      sighted i r (t_list_view w t) (t_list_view w u)
      (ap (λ rs. list (rows rs))
      (seg_same (read t (column_of tree y t (suc i))) (read u (column_of tree y u (suc i))) (item w (first_buffer y i) s) (item w (second_buffer y i) s)
      (λ j q. likewise_read t u n (suc i) o.slots.child_rule (item w (first_buffer y i) s + j) (omega (arith, e.within)))))
  likewise_read _ _ (of_list w {t} {u} n) i o r l =
      let s = offset_of y i + r in
      sighted i r (t_list w t) (t_list w u)
      (ap (λ rs. list (rows rs))
      (seg_same (read t (column_of tree y t (suc i))) (read u (column_of tree y u (suc i))) (item w (first_buffer y i) s) (item w (first_buffer y i) (suc s) - item w (first_buffer y i) s)
      (λ j q. likewise_read t u n (suc i) o.slots.child_rule (item w (first_buffer y i) s + j) (omega (arith, row_within w (first_buffer y i) (length_of y (suc i)) (offset_of y i) (length_of y i) o.slots.offsets_rule_lem r l)))))
  likewise_read _ _ (of_sparse ids {a} {b} {f} {g} n) i o r l =
      let s = offset_of y i + r in
      let c = get_or (first_buffer y i) s 0 in
      let m = o.slots.declared r l in
      sighted i r (t_sparse ids a f) (t_sparse ids b g) (ap (union c) (likewise_read (f c) (g c) (n c m) (node_of tree i ids c) (o.slots.child_rule c m) s (omega (arith, o.slots.long c m))))
  likewise_read _ _ (of_dense ids {a} {b} {f} {g} n) i o r l =
      let s = offset_of y i + r in
      let c = get_or (first_buffer y i) s 0 in
      let m = o.slots.declared r l in
      sighted i r (t_dense ids a f) (t_dense ids b g) (ap (union c) (likewise_read (f c) (g c) (n c m) (node_of tree i ids c) (o.slots.child_rule c m) (item 4 (second_buffer y i) s) (o.slots.within r l)))
  likewise_read _ _ (of_run_end w {t} {u} n) i o r l =
      let s = offset_of y i + r in
      let ends = array_with y (first_buffer y (suc i)) (suc i) in
      let z = first_below (end_of w ends) s (length_of y (suc i)) (omega (arith, o.slots.covers)) in
      sighted i r (t_run_end w t) (t_run_end w u)
      (likewise_read t u n (suc (suc i)) o.slots.child_rule (first_above (end_of w ends) s 0 (length_of y (suc i))) (omega (arith, z, o.slots.as_many)))
  likewise_read _ _ (of_dictionary k p) i o r l = refl

  -- ALL ROWS
  pub likewise_rows : (t u : Ty) → Likewise t u → (i : ℕ) → Source t (column_of tree y t i) → read_all t (column_of tree y t i) ≡ read_all u (column_of tree y u i)
  likewise_rows t u n i o = seg_same (read t (column_of tree y t i)) (read u (column_of tree y u i)) 0 (length_of y i) (λ j q. likewise_read t u n i o (0 + j) (rw zero-add q))
