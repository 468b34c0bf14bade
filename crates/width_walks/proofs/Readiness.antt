-- A column of lent tables is ready to be written by the plan of its target. Assumes nothing.
use mathlib.Core.Path.{◌≡◌, refl, sym, ap, subst, ◌∙◌}
use mathlib.Core.Bool.{true, false, cond}
use mathlib.Core.List.Memᴰ
use mathlib.Core.List.{List, Memᴰ}
use Prim.Native.Nat.{ℕ, zero, suc, ◌+◌, ◌≤◌, ◌<◌}
use native.Mathlib.Omega.{arith}
use lib.ListN.{get_or}
use lib.Dec.{ltb}
use Rattle.columnar.specs.Types.{Ty}
use Rattle.columnar.specs.Array.{null_count_of}
use Rattle.array_data.specs.Tables.{Tables, length_of, data_buffers, array_with}
use Rattle.array_data.specs.NodeKinds.{NodeKind, fixed_node, view_node, list_view_node, list_node, dictionary_node}
use Rattle.array_data.specs.Typed.{Tree, node_of, plain_body, body_of, column_of, tables_from, kind_in, subtree_end}
use Rattle.array_data.specs.lent_tables.Lent.{tables}
use Rattle.model.proofs.Bits.{get_d_seg}
use Rattle.walk.specs.State.{keeps_of, top}
use Rattle.refinement.specs.walk_is_model.Memory.{Memory}
use Rattle.refinement.specs.walk_is_model.Holds.{flag, child_of}
use Rattle.refinement.specs.orders.Order.{Lent}
use Rattle.anew.specs.widths.Widths.{Widths, s_plain, s_view, s_list_view, s_list, s_sparse, s_dense, s_run_end, s_dictionary}
use Rattle.anew.specs.Stood.{BuffersNamed}
use Rattle.anew.specs.ResultPlan.{keeps_from}
use Rattle.anew.proofs.Bits.{keeps_typed}
use Rattle.anew.proofs.Comes.{new_keeps}
use Rattle.width_walks.specs.Ready.{ReadyNode, ReadyBody, Ready}
use Rattle.width_walks.specs.Nodes.{is_run, ends_in, comes_from}
use Rattle.columnar.specs.Wider.{Declared}
use Rattle.columnar.proofs.WiderKinds.{declares}
use Rattle.width_walks.proofs.Subtrees.{laid_up}
use Rattle.width_walks.proofs.Laid.{LaidFields, no_field, a_field, Laid}

-- ---- where a node comes from

pub came : (t : Tree) (i : ℕ) → i < t.count → get_or (comes_from t) i 0 ≡ cond (ends_in t i) 0 (suc i)
unfolding comes_from
came t i l = get_d_seg (λ i. cond (ends_in t i) 0 (suc i)) 0 t.count i 0 l ∙ ap (λ z. cond (ends_in t z) 0 (suc z)) (let e : 0 + i ≡ i = omega arith in e)

-- IT KEEPS NULLS EXACTLY WHERE THAT HAS ONE
pub keeps_own : {B : Type 0} (t : Tree) (x : Tables) (first i : ℕ) (b : B) → i < t.count → ends_in t i ≡ false
    → keeps_from (tables x.lengths x.places x.body) first (comes_from t) i ≡ ltb 0 (null_count_of (array_with (tables_from x first) b i))
keeps_own t x first i b l e = keeps_typed x first (comes_from t) i i (came t i l ∙ ap (λ z. cond z 0 (suc i)) e) b

-- run ends keep none
pub keeps_ends : (t : Tree) (x : Tables) (first i : ℕ) → i < t.count → ends_in t i ≡ true → keeps_from x first (comes_from t) i ≡ false
keeps_ends t x first i l e = new_keeps x first (comes_from t) i (came t i l ∙ ap (λ z. cond z 0 (suc i)) e)

-- ---- every node of a type

module _ (t t' : Tree) (y : Tables) (x : Lent) (buffers : List ℕ)
    (keeps : (i : ℕ) → i < subtree_end t 0 → ends_in t i ≡ false → keeps_of x.plan i ≡ flag (ltb 0 (null_count_of {B = Unit {0}} (array_with y tt i))))
    (small : (i : ℕ) → i < subtree_end t 0 → length_of y i ≤ top)
    (named : (i : ℕ) → i < subtree_end t 0 → kind_in t i ≡ view_node → (c : List ℕ) (μ : Memory) → BuffersNamed x buffers c μ i (data_buffers y i)) where
  node_ready : {B : Type 0} (i : ℕ) (inner : B → Type 0) (b : B) → i < subtree_end t 0 → ((j : ℕ) → suc j ≡ i → is_run (kind_in t j) ≡ false) → inner b → ReadyNode x buffers i inner (array_with y b i)
  node_ready i inner b l free h = record { keeps = keeps i l (not_after i free); small = small i l; body_ready = h }
    where
      not_after : (i : ℕ) → ((j : ℕ) → suc j ≡ i → is_run (kind_in t j) ≡ false) → ends_in t i ≡ false
      not_after zero free = refl
      not_after (suc i) free = free i refl

  free_of : (i : ℕ) (k : NodeKind) → kind_in t i ≡ k → is_run k ≡ false → (j : ℕ) → suc j ≡ suc i → is_run (kind_in t j) ≡ false
  free_of i k e q j z = ap (λ y. is_run (kind_in t y)) (let w : j ≡ i = omega arith in w) ∙ ap is_run e ∙ q

  fields_ready : (f : ℕ → Ty) (i : ℕ) (ids : List ℕ) (kid : ℕ → ℕ → Type 0) (e : ℕ) {cs : List ℕ} {k : ℕ} → e ≤ subtree_end t 0 → ((c : ℕ) → Memᴰ c cs → Memᴰ c ids) → LaidFields t t' x.plan i ids kid e cs k
      → ((c k : ℕ) → Memᴰ c ids → kid c k → subtree_end t k ≤ subtree_end t 0 → ReadyBody x buffers (f c) k (body_of t y (f c) k))
      → (c : ℕ) → Memᴰ c cs → ReadyNode x buffers (child_of x.plan i c) (ReadyBody x buffers (f c) (child_of x.plan i c)) (array_with y (body_of t y (f c) (node_of t i ids c)) (node_of t i ids c))
  fields_ready f i ids kid e low sub (no_field k q) law c m = absurd (Memᴰ.not-nil m)
  fields_ready f i ids kid e low sub (a_field d ds k h p n a b free g) law c (Memᴰ.head q) =
      let s : child_of x.plan i c ≡ k = ap (child_of x.plan i) q ∙ p in
      let r : node_of t i ids c ≡ k = ap (node_of t i ids) q ∙ n in
      subst (λ z. ReadyNode x buffers z (ReadyBody x buffers (f c) z) (array_with y (body_of t y (f c) (node_of t i ids c)) (node_of t i ids c))) (sym s)
      (subst (λ z. ReadyNode x buffers k (ReadyBody x buffers (f c) k) (array_with y (body_of t y (f c) z) z)) (sym r)
      (node_ready k (ReadyBody x buffers (f c) k) (body_of t y (f c) k) (omega (arith, a, b)) free (law c k (sub c (Memᴰ.head q)) (subst (λ z. kid z k) (sym q) h) (omega (arith, b)))))
  fields_ready f i ids kid e low sub (a_field d ds k h p n a b free g) law c (Memᴰ.tail q) = fields_ready f i ids kid e low (λ c m. sub c (Memᴰ.tail m)) g law c q

  body_ready : (u u' : Ty) (d : Widths u u') (i : ℕ) → Laid t t' x.plan d i → subtree_end t i ≤ subtree_end t 0 → ReadyBody x buffers u i (body_of t y u i)
  body_ready u u' (s_plain p p' d) i l e = tt
  body_ready u u' s_view i l e = named i (omega (arith, e, l.1)) l.0.here
  body_ready u u' (s_list_view w w' v v' d) i l e =
      node_ready (suc i) (ReadyBody x buffers v (suc i)) (body_of t y v (suc i)) (let z = laid_up t t' y x.plan v v' d (suc i) l.2 in omega (arith, l.1)) (free_of i (list_view_node w) l.0.here refl)
      (body_ready v v' d (suc i) l.2 (omega (arith, l.1)))
  body_ready u u' (s_list w w' v v' d) i l e =
      node_ready (suc i) (ReadyBody x buffers v (suc i)) (body_of t y v (suc i)) (let z = laid_up t t' y x.plan v v' d (suc i) l.2 in omega (arith, l.1)) (free_of i (list_node w) l.0.here refl)
      (body_ready v v' d (suc i) l.2 (omega (arith, l.1)))
  body_ready u u' (s_sparse ids nullable nullable' f f' q d) i l e =
      fields_ready f i ids (λ c k. (m : Declared ids c) → Laid t t' x.plan (d c m) k) (subtree_end t i) e (λ c m. m) l.2 (λ c k m h low. body_ready (f c) (f' c) (d c (declares c ids m)) k (h (declares c ids m)) low)
  body_ready u u' (s_dense ids nullable nullable' f f' q d) i l e =
      fields_ready f i ids (λ c k. (m : Declared ids c) → Laid t t' x.plan (d c m) k) (subtree_end t i) e (λ c m. m) l.2 (λ c k m h low. body_ready (f c) (f' c) (d c (declares c ids m)) k (h (declares c ids m)) low)
  body_ready u u' (s_run_end w w' v v' d) i l e =
      node_ready (suc (suc i)) (ReadyBody x buffers v (suc (suc i))) (body_of t y v (suc (suc i))) (let z = laid_up t t' y x.plan v v' d (suc (suc i)) l.3 in omega (arith, l.2))
      (free_of (suc i) (fixed_node l.1.0) l.1.1 refl) (body_ready v v' d (suc (suc i)) l.3 (omega (arith, l.2)))
  body_ready u u' (s_dictionary k k' p p' z z' d) i l e = node_ready (suc i) (λ v. Unit {0}) (plain_body t y p (suc i)) (omega (arith, l.2)) (free_of i (dictionary_node k) l.0.here refl) tt

  -- THE WHOLE COLUMN
  pub ready : (u u' : Ty) (d : Widths u u') → Laid t t' x.plan d 0 → Ready x buffers u 0 (column_of t y u 0)
  ready u u' d l = node_ready 0 (ReadyBody x buffers u 0) (body_of t y u 0) (laid_up t t' y x.plan u u' d 0 l) (λ j z. absurd (omega arith)) (body_ready u u' d 0 l (omega arith))
