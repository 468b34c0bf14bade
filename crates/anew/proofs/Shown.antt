-- THE FINISHED TABLES of a column that stands describe it, node by node, with its null counts. Assumes nothing.
use mathlib.Core.Path.{◌≡◌, sym, ap, ap₂, subst, ◌∙◌}
use mathlib.Core.Bool.{Bool, true, false}
use mathlib.Core.Option.{Option, none, some}
use mathlib.Core.List.{List, [], ◌∷◌, Memᴰ}
use Prim.Native.Nat.{ℕ, zero, suc, ◌≤◌, ◌<◌}
use native.Mathlib.Omega.{arith}
use lib.ListN.{get_or}
use lib.Dec.{ltb}
use Rattle.columnar.specs.Types.{Plain, fixed, string, Ty, t_plain, t_view, t_list_view, t_list, t_sparse, t_dense, t_run_end, t_dictionary}
use Rattle.columnar.specs.Array.{Array, ok, nulls_in}
use Rattle.columnar.specs.Plain.{PlainBody}
use Rattle.columnar.specs.View.{Views}
use Rattle.columnar.specs.Reading.{Column, masks}
use Rattle.schema.specs.formats.Code.{is_union}
use Rattle.array_data.specs.Tables.{Tables, first_buffer, second_buffer}
use Rattle.array_data.specs.Typed.{Tree, node_of, Is, MeansPlain, Means}
use Rattle.model.specs.Mutable.{Mutable}
use Rattle.model.proofs.Law.{BitsFor}
use Rattle.walk.specs.State.{code_of, dictionary_of, end_of, rows, place}
use Rattle.refinement.specs.walk_is_model.Memory.{Memory}
use Rattle.refinement.specs.walk_is_model.Holds.{child_of, Worded}
use Rattle.refinement.proofs.walk_is_model.Frame.{field_of, worded_span}
use Rattle.refinement.specs.log_in_room.Reach.{typed, Free}
use Rattle.refinement.proofs.log_in_room.Closure.{closed_free}
use Rattle.refinement.proofs.log_in_room.Found.{between_wide}
use Rattle.plan.specs.parts.Parts.{nodes_of, copied, Used}
use Rattle.refinement.specs.orders.Order.{Lent, join_of}
use Rattle.refinement.specs.orders.Fits.{plain_buffers}
use Rattle.refinement.proofs.orders.Buffers.{copied_free, masks_code}
use Rattle.refinement.proofs.orders.Own.{Bounded, Own}
use Rattle.refinement.specs.finishing.Finish.{null_table, sources}
use Rattle.refinement.specs.finishing.Shows.{ShowsNode, ShowsPlain, ShowsData, Shows, CountsNode, CountsData, Counts, finished_tables, Bodied}
use Rattle.refinement.proofs.finishing.Copied.{first_is, second_is, node_shows, node_counters}
use Rattle.refinement.proofs.finishing.Given.{Named, named_few}
use Rattle.refinement.proofs.finishing.KeptValues.{kept_shows, kept_counters}
use Rattle.refinement.proofs.finishing.Finished.{kept_not}
use Rattle.refinement.proofs.finishing.Names.{buffers_shown}
use Rattle.anew.specs.Stood.{BitsOf, StoodBits, BuffersNamed, StoodValues, in_parts, kept, Stood}
use Rattle.anew.proofs.Standing.{Standing, Here, in_table, union_free}
use Rattle.anew.proofs.Owned.{buffers_at, own_plain, own_at}
use Rattle.anew.proofs.Bounds.{plain_code_lem, fixed_code, parts_copied, ends_own, all_bounded}
use Rattle.array_data.proofs.Names.{union_kind}

bits_for : (m : Bool) (o : Option (List Bool)) (n : ℕ) → BitsOf m o n → BitsFor m o n
bits_for m none n h = tt
bits_for true (some l) n h = h
bits_for false (some l) n h = h

-- the data buffers of one source
pub named_one : (x : Lent) (buffers counters : List ℕ) (μ : Memory) (i : ℕ) (v : Views) → BuffersNamed x buffers counters μ i v.buffers
    → (s : ℕ) → s < 1 → Named x buffers s i v
named_one x buffers counters μ i v h zero l = record { buffers_are = h.buffers_are; inside = h.inside }
named_one x buffers counters μ i v h (suc s) l = absurd (omega arith)

pub few_one : (x : Lent) (buffers counters : List ℕ) (μ : Memory) (i : ℕ) (v : Views) → BuffersNamed x buffers counters μ i v.buffers → (s : ℕ) → s < 1 → place (join_of x s) i 8 ≤ 32
few_one x buffers counters μ i v h zero l = named_few x buffers 0 i v (named_one x buffers counters μ i v h 0 l) h.few
few_one x buffers counters μ i v h (suc s) l = absurd (omega arith)

module _ (x : Lent) (buffers : List ℕ) (tree : Tree) (root : Ty) (column : Column root) (counters room : List ℕ) (μ : Memory) (st : Standing x buffers tree root column counters room μ)
    (base : ℕ) (body : List ℕ) (bodied : Bodied body x room base) where
  abbrev plan : List ℕ
  plan = x.plan

  abbrev Y : Tables
  Y = finished_tables x buffers counters room base body

  abbrev N : List ℕ
  N = null_table x buffers counters room base

  -- node i is this array, by its tables and by its null count
  abbrev Both : {B : Type 0} → ℕ → (B → Type 0) → (B → Type 0) → Array B → Type 0
  Both i P Q a = ShowsNode Y i P a × CountsNode N i Q a

  bounded : (i b : ℕ) → Used plan i b → Bounded plan x.parts counters μ i b
  bounded = all_bounded x buffers tree root column counters μ st.of_type st.stood st.enough

  -- ---- a node in parts

  module _ (i : ℕ) (l : i < nodes_of plan) (c : copied plan i ≡ true) where
    first_at : (bs : List (List ℕ)) → Own plan x.parts counters μ i bs → first_buffer Y i ≡ get_or bs 0 []
    first_at = first_is x buffers counters room base body bodied μ st.lies st.placed bounded i l c

    second_at : (bs : List (List ℕ)) → Own plan x.parts counters μ i bs → second_buffer Y i ≡ get_or bs 1 []
    second_at = second_is x buffers counters room base body bodied μ st.lies st.placed bounded i l c

    node_both : {B : Type 0} (a : Array B) (v : Bool) → v ≡ ltb (code_of plan i) 21 → rows counters i ≡ a.len → a.off ≡ 0 → StoodBits x buffers counters μ i v a.len a.valid
        → (inner below : B → Type 0) → inner a.body → below a.body → Both i inner below a
    node_both {B} a v code r z h inner below p q =
        let d : Mutable B = record { len = a.len; null_count = 0; bits = h.bits; «data» = a.body } in
        let f = bits_for v h.bits a.len h.long in
        let s = node_shows x buffers counters room base body bodied μ st.lies st.placed bounded i l c d v code r f h.held (λ b. b) inner p in
        let n = node_counters x buffers counters room base body bodied μ st.lies st.placed bounded i l c d v code r f h.held (λ b. b) below q in (
          record { len_is = s.len_is; off_is = s.off_is ∙ sym z; valid_is = s.valid_is ∙ sym h.valid_is; body_is = p },
          record { count_is = n.count_is ∙ ap₂ (λ m o. nulls_in (ok m) o a.len) (sym h.valid_is) (sym z); below = q },
        )

    plain_at_lem : (p : Plain) (b : PlainBody p) → Own plan x.parts counters μ i (plain_buffers p b) → ShowsPlain tree Y p i b
    plain_at_lem (fixed n) b o = first_at (b ∷ []) o
    plain_at_lem (string w) b o = (first_at (b.offsets ∷ b.chars ∷ []) o, second_at (b.offsets ∷ b.chars ∷ []) o)

  -- ---- the values of a dictionary

  abbrev Values : (p : Plain) → ℕ → Array (PlainBody p) → Type 0
  Values p i = Both (suc i) (ShowsPlain tree Y p (suc i)) (λ b. Unit {0})

  values_both : (p : Plain) (i : ℕ) (a : Array (PlainBody p)) → suc i < nodes_of plan → (dictionary_of plan i ≡ 0 → ⊥) → MeansPlain tree p (suc i) → StoodValues x buffers counters μ p i a → Values p i a
  values_both p i a l dict mn (in_parts e h) =
      let c = parts_copied plan i dict e in
      let w = st.of_type.plain_words p (suc i) mn in
      node_both (suc i) l c a true (plain_code_lem plan p (suc i) w) h.rows_are h.from_zero h.bits_are (ShowsPlain tree Y p (suc i)) (λ b. Unit {0})
      (plain_at_lem (suc i) l c p a.body (own_plain x buffers counters μ p (suc i) a.len a.body w h.rows_are h.body_is)) tt
  values_both p i a l dict mn (kept e v h o q) =
      let c = kept_not plan i dict e in
      subst (Values p i) (sym q)
      (kept_shows tree x buffers counters room base body bodied (suc i) l c p v h, kept_counters tree x buffers counters room base body bodied (suc i) l c p v h)

  -- ---- every type

  abbrev Whole : (t : Ty) → ℕ → Column t → Type 0
  Whole t i = Both i (ShowsData tree Y t i) (CountsData tree N t i)

  -- the sources that the tables name buffers of
  pub one_source : sources x buffers counters room base ≡ 1
  one_source = omega (arith, st.of_type.one_source)

  whole_node : (k : ℕ) (t : Ty) (i : ℕ) (a : Column t) → Worded plan k t i → Free plan i → end_of plan i ≤ end_of plan 0 → Stood x buffers counters μ t i a
      → (Own plan x.parts counters μ i (buffers_at t a.body) → ShowsData tree Y t i a.body) → CountsData tree N t i a.body → Whole t i a
  whole_node k t i a w o l h shown counted =
      node_both i (in_table plan tree root st.of_type k t i w l) (copied_free plan i o) a (masks t) (masks_code plan k t i w) h.rows_are h.from_zero h.bits_are (ShowsData tree Y t i) (CountsData tree N t i)
      (shown (own_at x buffers counters μ k t i a.len a.body w h.rows_are h.body_is)) counted

  -- the child of a union, at the node that the tree gives
  child_whole : (i : ℕ) (b : Bool) (ids : List ℕ) (g : ℕ → Ty) → Is tree i (union_kind b ids) → (e : ℕ) → Memᴰ e ids → (a : Column (g e))
      → (Means tree (g e) (child_of plan i e) → Whole (g e) (child_of plan i e) a) → Means tree (g e) (node_of tree i ids e) → Whole (g e) (node_of tree i ids e) a
  child_whole i b ids g h e q a f mn =
      let z = st.of_type.kids i b ids h e q in
      subst (λ n. Whole (g e) n a) z (f (subst (Means tree (g e)) (sym z) mn))

  whole : (k : ℕ) (t : Ty) (i : ℕ) (a : Column t) → Worded plan k t i → Free plan i → end_of plan i ≤ end_of plan 0 → Means tree t i → Stood x buffers counters μ t i a → Whole t i a
  whole (suc k) (t_plain p) i a w o l mn h =
      whole_node (suc k) (t_plain p) i a w o l h (λ own. plain_at_lem i (in_table plan tree root st.of_type (suc k) (t_plain p) i w l) (copied_free plan i o) p a.body own) tt
  whole (suc k) t_view i a w o l mn h =
      let n = in_table plan tree root st.of_type (suc k) t_view i w l in
      let c = copied_free plan i o in
      whole_node (suc k) t_view i a w o l h
      (λ own. (first_at i n c (a.body.views ∷ []) own, buffers_shown x buffers counters room base body bodied 1 one_source i n c w.2 (λ j. a.body) (named_one x buffers counters μ i a.body h.body_is.1) (few_one x buffers counters μ i a.body h.body_is.1))) tt
  whole (suc k) (t_list_view v t) i a w o l mn h =
      let z : end_of plan i ≡ end_of plan (suc i) = w.1 in
      let n = in_table plan tree root st.of_type (suc k) (t_list_view v t) i w l in
      let c = copied_free plan i o in
      let free = ((closed_free plan 0 (end_of plan 0) st.of_type.laid.tabled).item i (typed (suc k) (t_list_view v t) w (omega arith) l, o) (between_wide 17 18 17 20 (code_of plan i) (omega arith) (omega arith) w.2)).1 in
      let r = whole k t (suc i) a.body.child w.4 free (omega arith) mn.1 h.body_is.2 in
      let bs = a.body.offsets ∷ a.body.sizes ∷ [] in
      whole_node (suc k) (t_list_view v t) i a w o l h (λ own. (first_at i n c bs own, second_at i n c bs own, r.0)) r.1
  whole (suc k) (t_list v t) i a w o l mn h =
      let z : end_of plan i ≡ end_of plan (suc i) = w.1 in
      let n = in_table plan tree root st.of_type (suc k) (t_list v t) i w l in
      let c = copied_free plan i o in
      let free = ((closed_free plan 0 (end_of plan 0) st.of_type.laid.tabled).item i (typed (suc k) (t_list v t) w (omega arith) l, o) (between_wide 19 20 17 20 (code_of plan i) (omega arith) (omega arith) w.2)).1 in
      let r = whole k t (suc i) a.body.child w.4 free (omega arith) mn.1 h.body_is.1 in
      whole_node (suc k) (t_list v t) i a w o l h (λ own. (first_at i n c (a.body.offsets ∷ []) own, r.0)) r.1
  whole (suc k) (t_sparse ids nullable g) i a w o l mn h =
      let u : is_union (code_of plan i) ≡ true = ap is_union w.1 in
      let n = in_table plan tree root st.of_type (suc k) (t_sparse ids nullable g) i w l in
      let c = copied_free plan i o in
      let here : Here plan tree root st.of_type i = (typed (suc k) (t_sparse ids nullable g) w (omega arith) l, o) in
      let r : (e : ℕ) → Memᴰ e ids → Whole (g e) (node_of tree i ids e) (a.body.children e) =
      λ e q. child_whole i true ids g mn.0 e q _
      (λ cm. let y = field_of plan (λ z. Worded plan k (g z)) nullable (end_of plan i) ids (suc i) 32 e w.4 (omega (arith, w.2)) q in
      whole k (g e) (child_of plan i e) (a.body.children e) y.is_kid (union_free plan tree root st.of_type k g nullable ids i w.2 w.4 u here e q) (omega (arith, y.ends)) cm (h.body_is.1 e q))
      (mn.1 e q).1 in
      whole_node (suc k) (t_sparse ids nullable g) i a w o l h (λ own. (first_at i n c (a.body.ids ∷ []) own, λ e q. (r e q).0)) (λ e q. (r e q).1)
  whole (suc k) (t_dense ids nullable g) i a w o l mn h =
      let u : is_union (code_of plan i) ≡ true = ap is_union w.1 in
      let n = in_table plan tree root st.of_type (suc k) (t_dense ids nullable g) i w l in
      let c = copied_free plan i o in
      let here : Here plan tree root st.of_type i = (typed (suc k) (t_dense ids nullable g) w (omega arith) l, o) in
      let r : (e : ℕ) → Memᴰ e ids → Whole (g e) (node_of tree i ids e) (a.body.children e) =
      λ e q. child_whole i false ids g mn.0 e q _
      (λ cm. let y = field_of plan (λ z. Worded plan k (g z)) nullable (end_of plan i) ids (suc i) 32 e w.4 (omega (arith, w.2)) q in
      whole k (g e) (child_of plan i e) (a.body.children e) y.is_kid (union_free plan tree root st.of_type k g nullable ids i w.2 w.4 u here e q) (omega (arith, y.ends)) cm (h.body_is.2 e q))
      (mn.1 e q).1 in
      let bs = a.body.ids ∷ a.body.positions ∷ [] in
      whole_node (suc k) (t_dense ids nullable g) i a w o l h (λ own. (first_at i n c bs own, second_at i n c bs own, λ e q. (r e q).0)) (λ e q. (r e q).1)
  whole (suc k) (t_run_end v t) i a w o l mn h =
      let z : end_of plan i ≡ end_of plan (suc (suc i)) = w.1 in
      let s = worded_span plan k t (suc (suc i)) w.4 in
      let closed = closed_free plan 0 (end_of plan 0) st.of_type.laid.tabled in
      let here : Here plan tree root st.of_type i = (typed (suc k) (t_run_end v t) w (omega arith) l, o) in
      let free = (closed.values i here w.2).1 in
      let c = copied_free plan (suc i) (closed.ends i here w.2).1 in
      let n : suc i < nodes_of plan = omega (arith, st.of_type.all_nodes_lem) in
      let f = (st.of_type.laid.run_ends_lem i (omega arith) w.2).0 in
      let e = h.body_is.0 in
      let ends : Both (suc i) (λ s. first_buffer Y (suc i) ≡ s) (λ s. Unit {0}) a.body.ends =
      node_both (suc i) n c a.body.ends true (fixed_code plan (suc i) f) e.rows_are e.from_zero e.bits_are (λ s. first_buffer Y (suc i) ≡ s) (λ s. Unit {0})
      (first_at (suc i) n c (a.body.ends.body ∷ []) (ends_own x buffers counters μ v (suc i) a.body.ends f w.3 e)) tt in
      let r = whole k t (suc (suc i)) a.body.values w.4 free (omega arith) mn.2 h.body_is.1 in
      whole_node (suc k) (t_run_end v t) i a w o l h (λ own. (ends.0, r.0)) (ends.1, r.1)
  whole (suc k) (t_dictionary q p) i a w o l mn h =
      let n = in_table plan tree root st.of_type (suc k) (t_dictionary q p) i w l in
      let c = copied_free plan i o in
      let z = st.of_type.laid.tabled.keys_end i (omega (arith, st.of_type.all_nodes_lem)) w.2 in
      let v = values_both p i a.body.values (omega (arith, st.of_type.all_nodes_lem)) w.2 mn.1 h.body_is.1 in
      whole_node (suc k) (t_dictionary q p) i a w o l h (λ own. (first_at i n c (a.body.keys ∷ []) own, v.0)) v.1
  whole zero t i a w o l mn h = elim w [ ]

  all_whole : Whole root 0 column
  all_whole = whole 8 root 0 column st.of_type.worded tt (omega arith) st.of_type.means st.stood

  -- THE FINISHED TABLES DESCRIBE THE COLUMN, byte for byte
  pub stood_shows : Shows tree Y root 0 column
  stood_shows = all_whole.0

  -- .. AND ITS NULL COUNTS at every node: "null counts taken from its bits"
  pub stood_nulls : Counts tree N root 0 column
  stood_nulls = all_whole.1
