-- THE FINISHED TABLES describe the model's finished array, node by node, with its null counts. Assumes nothing.
use mathlib.Core.Path.{◌≡◌, refl, sym, ap, subst, ◌∙◌}
use mathlib.Core.Bool.{Bool, true, false}
use mathlib.Core.List.{List, [], ◌∷◌, Memᴰ}
use Prim.Native.Nat.{ℕ, zero, suc, ◌≤◌, ◌<◌}
use native.Mathlib.Omega.{arith}
use lib.ListN.{length, get_or}
use lib.Dec.{ltb}
use borrow.Author.Tests.{lt-ltb, ne_eqb}
use Rattle.columnar.specs.Types.{Plain, fixed, string, Ty, t_plain, t_view, t_list_view, t_list, t_sparse, t_dense, t_run_end, t_dictionary}
use Rattle.columnar.specs.Formed.{FormedPlain, Formed}
use Rattle.columnar.specs.Array.{Array, ok, null_count_of, Obeys}
use Rattle.columnar.specs.Plain.{PlainBody, PlainRule}
use Rattle.columnar.specs.Dictionary.{Dictionary}
use Rattle.columnar.specs.Reading.{Column, masks, Source}
use Rattle.schema.specs.formats.Code.{is_union}
use Rattle.array_data.specs.Tables.{Tables, first_buffer, second_buffer}
use Rattle.array_data.specs.Typed.{Tree, node_of, Is, Means}
use Rattle.model.specs.Try.{done, then, after}
use Rattle.model.specs.Opening.{present, keeps, shared}
use Rattle.model.specs.Mutable.{Mutable, start_node, freeze_node}
use Rattle.model.specs.Primitive.{plain_start}
use Rattle.model.specs.Transform.{Destination, joined_from, the_dictionary, freeze_data, into_builder}
use Rattle.model.proofs.Law.{BitsFor, FineNode}
use Rattle.model.proofs.Nodes.{FineOf}
use Rattle.model.proofs.Joined.{joined}
use Rattle.model.proofs.Start.{no_null_in, none_has}
use Rattle.walk.specs.State.{word, code_of, dictionary_of, end_of, rows, bytes}
use Rattle.refinement.specs.walk_is_model.Memory.{Memory}
use Rattle.refinement.specs.walk_is_model.Holds.{child_of, Fields, Worded, HoldsBits, Holds}
use Rattle.refinement.proofs.walk_is_model.Frame.{field_of, worded_span}
use Rattle.refinement.specs.log_in_room.Reach.{Typed, typed, Free}
use Rattle.refinement.proofs.log_in_room.Closure.{closed_free}
use Rattle.refinement.proofs.log_in_room.Found.{between_both, between_wide, child_first, child_with_lem}
use Rattle.plan.specs.parts.Parts.{nodes_of, copied}
use Rattle.refinement.specs.orders.Order.{Lent}
use Rattle.refinement.specs.orders.Fits.{plain_buffers, buffers_of}
use Rattle.refinement.proofs.orders.Buffers.{copied_free, fixed_one, needed_fixed, masks_code}
use Rattle.refinement.proofs.orders.Own.{Own, one_own, own_of, times}
use Rattle.refinement.proofs.opening.Zeros.{values_copied}
use Rattle.refinement.proofs.opening.Fitting.{sound_fine}
use Rattle.refinement.specs.finishing.Finish.{null_table, sources}
use Rattle.refinement.specs.finishing.Shows.{ShowsNode, ShowsPlain, ShowsData, Shows, CountsNode, CountsData, Counts, finished_tables, Bodied}
use Rattle.refinement.proofs.finishing.Copied.{first_is, second_is, node_shows, node_counters}
use Rattle.refinement.proofs.finishing.Given.{named_few, Valued, Stands, Given, stands}
use Rattle.refinement.proofs.finishing.KeptValues.{kept_shows, kept_counters}
use Rattle.refinement.proofs.finishing.Names.{buffers_shown}
use Rattle.array_data.proofs.Names.{union_kind}

-- a kept dictionary has no parts
pub kept_not : (plan : List ℕ) (i : ℕ) → (dictionary_of plan i ≡ 0 → ⊥) → word plan i 7 ≡ 0 → copied plan (suc i) ≡ false
unfolding copied
kept_not plan i dict e = rw (ne_eqb (dictionary_of plan i) 0 dict, e)

module _ (x : Lent) (buffers : List ℕ) (tree : Tree) (root : Ty) (m : ℕ) (columns : ℕ → Column root) (dest : Destination root) (counters room : List ℕ) (μ : Memory)
    (given : Given x buffers tree root m columns dest counters room μ) where
  -- a node that a walk comes to
  abbrev pub Here : ℕ → Type 0
  Here i = Typed x.plan 0 (end_of x.plan 0) i × Free x.plan i

  pub in_table : (k : ℕ) (t : Ty) (i : ℕ) → Worded x.plan k t i → end_of x.plan i ≤ end_of x.plan 0 → i < nodes_of x.plan
  in_table k t i w l = omega (arith, worded_span x.plan k t i w, given.all_nodes_lem)

  pub union_free : (k : ℕ) (g : ℕ → Ty) (nullable : ℕ → Bool) (ids : List ℕ) (i : ℕ) → length ids ≤ 16 → Fields x.plan (λ z. Worded x.plan k (g z)) nullable (end_of x.plan i) ids (suc i)
      → is_union (code_of x.plan i) ≡ true → Here i → (v : ℕ) → Memᴰ v ids → Free x.plan (child_of x.plan i v)
  union_free k g nullable ids i few f u here v q =
      let y = field_of x.plan (λ z. Worded x.plan k (g z)) nullable (end_of x.plan i) ids (suc i) 32 v f (omega arith) q in
      let small : child_of x.plan i v < 32 = omega (arith, y.span, y.ends) in
      ((closed_free x.plan 0 (end_of x.plan 0) given.laid.tabled).child i (child_of x.plan i v) here u (child_with_lem x.plan i v 32 (suc i) (child_first x.plan i) small)).1

module _ (x : Lent) (buffers : List ℕ) (tree : Tree) (root : Ty) (m : ℕ) (columns : ℕ → Column root) (dest : Destination root) (counters room : List ℕ) (μ : Memory)
    (given : Given x buffers tree root m columns dest counters room μ) (base : ℕ) (body : List ℕ) (bodied : Bodied body x room base) where
  abbrev Y : Tables
  Y = finished_tables x buffers counters room base body

  abbrev N : List ℕ
  N = null_table x buffers counters room base

  -- node i is this array, by its tables and by its null count
  abbrev Both : {B : Type 0} → ℕ → (B → Type 0) → (B → Type 0) → Array B → Type 0
  Both i P Q a = ShowsNode Y i P a × CountsNode N i Q a

  abbrev FineAt : (t : Ty) → (ℕ → Column t) → Destination t → Type 0
  FineAt t ss d = FineNode (masks t) (FineOf t m (λ j. (ss j).body)) m ss d

  -- ---- a copied node

  module _ (i : ℕ) (l : i < nodes_of x.plan) (c : copied x.plan i ≡ true) where
    first_at : (bs : List (List ℕ)) → Own x.plan x.parts counters μ i bs → first_buffer Y i ≡ get_or bs 0 []
    first_at = first_is x buffers counters room base body bodied μ given.lies given.placed given.bounded i l c

    second_at : (bs : List (List ℕ)) → Own x.plan x.parts counters μ i bs → second_buffer Y i ≡ get_or bs 1 []
    second_at = second_is x buffers counters room base body bodied μ given.lies given.placed given.bounded i l c

    node_both : {P D : Type 0} (d : Mutable D) (v : Bool) → v ≡ ltb (code_of x.plan i) 21 → rows counters i ≡ d.len → BitsFor v d.bits d.len → HoldsBits x.plan i v d.bits μ
        → (freeze : D → P) (inner below : P → Type 0) → inner (freeze d.«data») → below (freeze d.«data») → Both i inner below (freeze_node v freeze d)
    node_both d v code r f h freeze inner below p q = (
      node_shows x buffers counters room base body bodied μ given.lies given.placed given.bounded i l c d v code r f h freeze inner p,
      node_counters x buffers counters room base body bodied μ given.lies given.placed given.bounded i l c d v code r f h freeze below q,
    )

    plain_at_lem : (p : Plain) (b : PlainBody p) → Own x.plan x.parts counters μ i (plain_buffers p b) → ShowsPlain tree Y p i b
    plain_at_lem (fixed n) b o = first_at (b ∷ []) o
    plain_at_lem (string w) b o = (first_at (b.offsets ∷ b.chars ∷ []) o, second_at (b.offsets ∷ b.chars ∷ []) o)

  -- ---- the values of a dictionary

  module _ (p : Plain) (i : ℕ) (ds : ℕ → Dictionary (PlainBody p)) (l : suc i < nodes_of x.plan) (dict : dictionary_of x.plan i ≡ 0 → ⊥) (f : FormedPlain p)
      (obey : (j : ℕ) → j < m → Obeys true (PlainRule p) (ds j).values) (h : Valued x m counters μ p i ds) where
    abbrev Values : Array (PlainBody p) → Type 0
    Values = Both (suc i) (ShowsPlain tree Y p (suc i)) (λ b. Unit {0})

    kept_values : shared m ds ≡ true → Values (present (ds 0).values)
    kept_values s =
        let c = kept_not x.plan i dict (h.joined_word_lem ∙ rw s) in
        (kept_shows tree x buffers counters room base body bodied (suc i) l c p (ds 0).values (h.kept s), kept_counters tree x buffers counters room base body bodied (suc i) l c p (ds 0).values (h.kept s))

    joined_values : shared m ds ≡ false → (e : Mutable (PlainBody p)) → joined_from p (λ j. (ds j).values) m (start_node (keeps false m (λ j. (ds j).values)) (plain_start p)) ≡ done e
        → Holds x.plan (t_plain p) (suc i) e counters μ → Values (freeze_node true (λ b. b) e)
    joined_values s e q held =
        let c = values_copied x.plan i (shared m ds) dict h.joined_word_lem s in
        let j = joined p m ds obey m (omega arith) e q in
        let own = own_of x.plan x.parts counters μ 1 (t_plain p) (suc i) m (λ j. (ds j).values.body) (λ z. true) e.«data» e.len h.words held.rows_are (sound_fine p (λ z. true) e.«data» e.len f j.sound) held.data_are in
        node_both (suc i) l c e true (masks_code x.plan 1 (t_plain p) (suc i) h.words) held.rows_are j.bits_are held.bits_are (λ b. b) (ShowsPlain tree Y p (suc i)) (λ b. Unit {0})
        (plain_at_lem (suc i) l c p e.«data» own) tt

    values_both : Values (after (the_dictionary p m ds) (ds 0).values)
    values_both = go (shared m ds) refl
      where
        begin : Mutable (PlainBody p)
        begin = start_node (keeps false m (λ j. (ds j).values)) (plain_start p)

        go : (b : Bool) → shared m ds ≡ b
            → Values (after (elim b [ true ↦ done (present (ds 0).values) | false ↦ then (joined_from p (λ j. (ds j).values) m begin) (λ e. done (freeze_node true (λ b. b) e)) ]) (ds 0).values)
        go true s = kept_values s
        go false s =
            let r = h.joins s in
            subst (λ t. Values (after (then t (λ e. done (freeze_node true (λ b. b) e))) (ds 0).values)) (sym r.1) (joined_values s r.0 r.1 r.2)

  -- ---- every type

  abbrev Whole : (t : Ty) → ℕ → Column t → Type 0
  Whole t i = Both i (ShowsData tree Y t i) (CountsData tree N t i)

  -- the sources that the tables name buffers of
  pub all_sources : sources x buffers counters room base ≡ m
  all_sources = omega (arith, given.count_is, given.few)

  whole_node : (k : ℕ) (t : Ty) (i : ℕ) (ss : ℕ → Column t) (d : Destination t) → Worded x.plan k t i → Free x.plan i → end_of x.plan i ≤ end_of x.plan 0 → FineAt t ss d
      → Holds x.plan t i d counters μ
      → (Own x.plan x.parts counters μ i (buffers_of t d.«data») → ShowsData tree Y t i (freeze_data t m (λ j. (ss j).body) d.«data»))
      → CountsData tree N t i (freeze_data t m (λ j. (ss j).body) d.«data») → Whole t i (into_builder t m ss d)
  whole_node k t i ss d w o l f h shown counted =
      node_both i (in_table x buffers tree root m columns dest counters room μ given k t i w l) (copied_free x.plan i o) d (masks t) (masks_code x.plan k t i w) h.rows_are f.bits_are h.bits_are (freeze_data t m (λ j. (ss j).body))
      (ShowsData tree Y t i) (CountsData tree N t i)
      (shown (own_of x.plan x.parts counters μ k t i m (λ j. (ss j).body) _ d.«data» d.len w h.rows_are f.data_fine h.data_are))
      counted

  -- the child of a union, at the node that the tree gives
  child_whole : (i : ℕ) (b : Bool) (ids : List ℕ) (g : ℕ → Ty) → Is tree i (union_kind b ids) → (e : ℕ) → Memᴰ e ids → (a : Column (g e))
      → (Means tree (g e) (child_of x.plan i e) → Whole (g e) (child_of x.plan i e) a) → Means tree (g e) (node_of tree i ids e) → Whole (g e) (node_of tree i ids e) a
  child_whole i b ids g h e q a f mn =
      let z = given.kids i b ids h e q in
      subst (λ n. Whole (g e) n a) z (f (subst (Means tree (g e)) (sym z) mn))

  whole : (k : ℕ) (t : Ty) (i : ℕ) (ss : ℕ → Column t) (d : Destination t) → Worded x.plan k t i → Formed t → Free x.plan i → end_of x.plan i ≤ end_of x.plan 0 → Means tree t i
      → FineAt t ss d → Holds x.plan t i d counters μ → Stands x buffers m counters μ t i (λ j. (ss j).body) → ((j : ℕ) → j < m → Source t (ss j)) → Whole t i (into_builder t m ss d)
  whole (suc k) (t_plain p) i ss d w fm o l mn f h st ob =
      whole_node (suc k) (t_plain p) i ss d w o l f h (λ own. plain_at_lem i (in_table x buffers tree root m columns dest counters room μ given (suc k) (t_plain p) i w l) (copied_free x.plan i o) p d.«data» own) tt
  whole (suc k) t_view i ss d w fm o l mn f h st ob =
      let n = in_table x buffers tree root m columns dest counters room μ given (suc k) t_view i w l in
      let c = copied_free x.plan i o in
      whole_node (suc k) t_view i ss d w o l f h
      (λ own. (first_at i n c (d.«data» ∷ []) own, buffers_shown x buffers counters room base body bodied m all_sources i n c w.2 (λ j. (ss j).body) (λ s q. (st s q).0) (λ s q. named_few x buffers s i (ss s).body (st s q).0 (st s q).1))) tt
  whole (suc k) (t_list_view v t) i ss d w fm o l mn f h st ob =
      let z : end_of x.plan i ≡ end_of x.plan (suc i) = w.1 in
      let n = in_table x buffers tree root m columns dest counters room μ given (suc k) (t_list_view v t) i w l in
      let c = copied_free x.plan i o in
      let free = ((closed_free x.plan 0 (end_of x.plan 0) given.laid.tabled).item i (typed (suc k) (t_list_view v t) w (omega arith) l, o) (between_wide 17 18 17 20 (code_of x.plan i) (omega arith) (omega arith) w.2)).1 in
      let r = whole k t (suc i) (λ j. (ss j).body.child) d.«data».child w.4 fm.1 free (omega arith) mn.1 f.data_fine.child_fine h.data_are.2 st (λ j q. (ob j q).slots.child_rule) in
      let bs = d.«data».buffer1 ∷ d.«data».buffer2 ∷ [] in
      whole_node (suc k) (t_list_view v t) i ss d w o l f h (λ own. (first_at i n c bs own, second_at i n c bs own, r.0)) r.1
  whole (suc k) (t_list v t) i ss d w fm o l mn f h st ob =
      let z : end_of x.plan i ≡ end_of x.plan (suc i) = w.1 in
      let n = in_table x buffers tree root m columns dest counters room μ given (suc k) (t_list v t) i w l in
      let c = copied_free x.plan i o in
      let free = ((closed_free x.plan 0 (end_of x.plan 0) given.laid.tabled).item i (typed (suc k) (t_list v t) w (omega arith) l, o) (between_wide 19 20 17 20 (code_of x.plan i) (omega arith) (omega arith) w.2)).1 in
      let r = whole k t (suc i) (λ j. (ss j).body.child) d.«data».child w.4 fm.1 free (omega arith) mn.1 f.data_fine.child_fine h.data_are.1 st (λ j q. (ob j q).slots.child_rule) in
      let bs = d.«data».buffer1 ∷ [] in
      whole_node (suc k) (t_list v t) i ss d w o l f h (λ own. (first_at i n c bs own, r.0)) r.1
  whole (suc k) (t_sparse ids nullable g) i ss d w fm o l mn f h st ob =
      let u : is_union (code_of x.plan i) ≡ true = ap is_union w.1 in
      let n = in_table x buffers tree root m columns dest counters room μ given (suc k) (t_sparse ids nullable g) i w l in
      let c = copied_free x.plan i o in
      let here : Here x buffers tree root m columns dest counters room μ given i = (typed (suc k) (t_sparse ids nullable g) w (omega arith) l, o) in
      let r : (e : ℕ) → Memᴰ e ids → Whole (g e) (node_of tree i ids e) (into_builder (g e) m (λ j. (ss j).body.children e) (d.«data».children e)) =
      λ e q. child_whole i true ids g mn.0 e q _
      (λ cm. let y = field_of x.plan (λ z. Worded x.plan k (g z)) nullable (end_of x.plan i) ids (suc i) 32 e w.4 (omega (arith, w.2)) q in
      whole k (g e) (child_of x.plan i e) (λ j. (ss j).body.children e) (d.«data».children e) y.is_kid (fm.1 e q) (union_free x buffers tree root m columns dest counters room μ given k g nullable ids i w.2 w.4 u here e q) (omega (arith, y.ends)) cm
      (f.data_fine.kids_fine e q) (h.data_are.1 e q) (st e q) (λ j p. (ob j p).slots.child_rule e q))
      (mn.1 e q).1 in
      whole_node (suc k) (t_sparse ids nullable g) i ss d w o l f h (λ own. (first_at i n c (d.«data».buffer1 ∷ []) own, λ e q. (r e q).0)) (λ e q. (r e q).1)
  whole (suc k) (t_dense ids nullable g) i ss d w fm o l mn f h st ob =
      let u : is_union (code_of x.plan i) ≡ true = ap is_union w.1 in
      let n = in_table x buffers tree root m columns dest counters room μ given (suc k) (t_dense ids nullable g) i w l in
      let c = copied_free x.plan i o in
      let here : Here x buffers tree root m columns dest counters room μ given i = (typed (suc k) (t_dense ids nullable g) w (omega arith) l, o) in
      let r : (e : ℕ) → Memᴰ e ids → Whole (g e) (node_of tree i ids e) (into_builder (g e) m (λ j. (ss j).body.children e) (d.«data».children e)) =
      λ e q. child_whole i false ids g mn.0 e q _
      (λ cm. let y = field_of x.plan (λ z. Worded x.plan k (g z)) nullable (end_of x.plan i) ids (suc i) 32 e w.4 (omega (arith, w.2)) q in
      whole k (g e) (child_of x.plan i e) (λ j. (ss j).body.children e) (d.«data».children e) y.is_kid (fm.1 e q) (union_free x buffers tree root m columns dest counters room μ given k g nullable ids i w.2 w.4 u here e q) (omega (arith, y.ends)) cm
      (f.data_fine.kids_fine e q) (h.data_are.2 e q) (st e q) (λ j p. (ob j p).slots.child_rule e q))
      (mn.1 e q).1 in
      let bs = d.«data».buffer1 ∷ d.«data».buffer2 ∷ [] in
      whole_node (suc k) (t_dense ids nullable g) i ss d w o l f h (λ own. (first_at i n c bs own, second_at i n c bs own, λ e q. (r e q).0)) (λ e q. (r e q).1)
  whole (suc k) (t_run_end v t) i ss d w fm o l mn f h st ob =
      let z : end_of x.plan i ≡ end_of x.plan (suc (suc i)) = w.1 in
      let s = worded_span x.plan k t (suc (suc i)) w.4 in
      let closed = closed_free x.plan 0 (end_of x.plan 0) given.laid.tabled in
      let here : Here x buffers tree root m columns dest counters room μ given i = (typed (suc k) (t_run_end v t) w (omega arith) l, o) in
      let free = (closed.values i here w.2).1 in
      let c = copied_free x.plan (suc i) (closed.ends i here w.2).1 in
      let n : suc i < nodes_of x.plan = omega (arith, given.all_nodes_lem) in
      let e = given.laid.run_ends_lem i (omega arith) w.2 in
      let y = between_both 1 10 (code_of x.plan (suc i)) e.0 in
      let ends = d.«data».ends in
      let own : Own x.plan x.parts counters μ (suc i) (ends.«data» ∷ []) =
      one_own x.plan x.parts counters μ (suc i) ends.«data» (fixed_one (code_of x.plan (suc i)) e.0)
      (needed_fixed (code_of x.plan (suc i)) (rows counters (suc i)) (bytes counters (suc i)) e.0 ∙ times x.plan x.parts counters μ h.data_are.0 w.3 ∙ sym f.data_fine.ends_are) h.data_are.1 in
      let a : Both (suc i) (λ s. first_buffer Y (suc i) ≡ s) (λ s. Unit {0}) (freeze_node true (λ b. b) ends) =
      node_both (suc i) n c ends true (sym (lt-ltb (code_of x.plan (suc i)) 21 (omega (arith, y.1)))) h.data_are.0
      (subst (λ b. BitsFor true b ends.len) (sym f.data_fine.no_bits) tt) (subst (λ b. HoldsBits x.plan (suc i) true b μ) (sym f.data_fine.no_bits) e.1) (λ b. b)
      (λ s. first_buffer Y (suc i) ≡ s) (λ s. Unit {0}) (first_at (suc i) n c (ends.«data» ∷ []) own) tt in
      let r = whole k t (suc (suc i)) (λ j. (ss j).body.values) d.«data».values w.4 fm.1 free (omega arith) mn.2 f.data_fine.values_fine h.data_are.2 st (λ j q. (ob j q).slots.child_rule) in
      whole_node (suc k) (t_run_end v t) i ss d w o l f h (λ own. (a.0, r.0)) (a.1, r.1)
  whole (suc k) (t_dictionary q p) i ss d w fm o l mn f h st ob =
      let n = in_table x buffers tree root m columns dest counters room μ given (suc k) (t_dictionary q p) i w l in
      let c = copied_free x.plan i o in
      let z = given.laid.tabled.keys_end i (omega (arith, given.all_nodes_lem)) w.2 in
      let v = values_both p i (λ j. (ss j).body) (omega (arith, given.all_nodes_lem)) w.2 fm.1 (λ j q. (ob j q).slots.child_rule) st in
      whole_node (suc k) (t_dictionary q p) i ss d w o l f h (λ own. (first_at i n c (d.«data» ∷ []) own, v.0)) v.1
  whole zero t i ss d w fm o l mn f h st ob = elim w [ ]

  all_whole : Whole root 0 (into_builder root m columns dest)
  all_whole = whole 8 root 0 columns dest given.worded given.formed tt (omega arith) given.means given.fine given.holds (stands x buffers tree root m columns dest counters room μ given) given.obey

  -- THE FINISHED TABLES DESCRIBE THE MODEL'S FINISHED ARRAY
  pub finished_shows : Shows tree Y root 0 (into_builder root m columns dest)
  finished_shows = all_whole.0

  -- .. AND ITS NULL COUNTS, at every node
  pub null_is : Counts tree N root 0 (into_builder root m columns dest)
  null_is = all_whole.1

  pub root_nulls_lem : get_or N 0 0 ≡ null_count_of (into_builder root m columns dest)
  root_nulls_lem = null_is.count_is
