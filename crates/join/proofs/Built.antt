-- Tables that describe a finished column, with its null counts, are made of the destination as the Rust's `into_builder` does it, and counters that hold the
-- destination are its own. Assumes nothing.
use mathlib.Core.Path.{◌≡◌, refl, sym, ap, ap₂, subst, ◌∙◌}
use mathlib.Core.Bool.{Bool, true, false}
use mathlib.Core.List.{List, [], ◌∷◌, Memᴰ}
use Prim.Native.Nat.{ℕ, suc}
use lib.ListN.{length, take}
use Rattle.columnar.specs.Types.{Plain, fixed, string, Ty, t_plain, t_view, t_list_view, t_list, t_sparse, t_dense, t_run_end, t_dictionary}
use Rattle.columnar.specs.Array.{Array, null_count_of}
use Rattle.columnar.specs.Plain.{PlainBody}
use Rattle.columnar.specs.Dictionary.{Dictionary}
use Rattle.columnar.specs.Reading.{Body, Column, masks}
use Rattle.model.specs.Try.{Try, done, then, after}
use Rattle.model.specs.Opening.{keeps, shared, present}
use Rattle.model.specs.Mutable.{Mutable, start_node, freeze_node}
use Rattle.model.specs.Primitive.{plain_start}
use Rattle.model.specs.Transform.{Grown, Destination, freeze_data, joined_from, the_dictionary, into_builder}
use Rattle.model.specs.Counters.{ByCounter, Bare, ByCounters, FinishedBy}
use Rattle.array_data.specs.Tables.{Tables, first_buffer, second_buffer}
use Rattle.array_data.specs.Typed.{Tree, node_of, Is, Means}
use Rattle.array_data.proofs.Names.{union_kind}
use Rattle.refinement.specs.walk_is_model.Memory.{Memory}
use Rattle.refinement.specs.walk_is_model.Holds.{HoldsNode, HoldsData, Holds, child_of}
use Rattle.refinement.specs.finishing.Shows.{ShowsNode, ShowsPlain, ShowsData, Shows, CountsNode, CountsData, Counts}
use Rattle.refinement.specs.orders.Fits.{plain_buffers, buffers_of}
use Rattle.join.specs.Built.{NodeIs, Made, BuiltNode, BuiltValues, BuiltData, Built}

module _ (tree : Tree) (y : Tables) (counts : List ℕ) where
  -- the buffers that are shown of node i
  abbrev Own : ℕ → List (List ℕ) → Type 0
  Own i bs = take (length bs) (first_buffer y i ∷ second_buffer y i ∷ []) ≡ bs

  one : (i : ℕ) {b : List ℕ} → first_buffer y i ≡ b → Own i (b ∷ [])
  one i e = ap (λ s. s ∷ []) e

  two : (i : ℕ) {b c : List ℕ} → first_buffer y i ≡ b → second_buffer y i ≡ c → Own i (b ∷ c ∷ [])
  two i e f = ap₂ (λ s u. s ∷ u ∷ []) e f

  own_plain : (p : Plain) (i : ℕ) (d : PlainBody p) → ShowsPlain tree y p i d → Own i (plain_buffers p d)
  own_plain (fixed n) i d s = one i s
  own_plain (string w) i d s = two i s.0 s.1

  module _ (counters : List ℕ) (m : ℕ) where
    made : {P D : Type 0} (i : ℕ) (w : Bool) (f : D → P) (shows below : P → Type 0) (by : D → P → Type 0) (own : D → List (List ℕ))
        → ((d : D) → shows (f d) → Own i (own d)) → (d : Mutable D) → ShowsNode y i shows (freeze_node w f d) → CountsNode counts i below (freeze_node w f d)
        → ByCounter w by d (freeze_node w f d) → Made tree y counts counters m i w own d
    made i w f shows below by own g d s c b =
        record {
          len_is = s.len_is;
          off_is = s.off_is;
          valid_is = s.valid_is ∙ b.valid_is;
          count_is = c.count_is ∙ b.count_is;
          bits_are = rw (s.valid_is, s.off_is, s.len_is) c.count_is;
          buffers_are = g d.«data» s.body_is;
        }

    module _ (p : Plain) (i : ℕ) (ds : ℕ → Dictionary (PlainBody p)) where
      abbrev begin : Mutable (PlainBody p)
      begin = start_node (keeps false m (λ j. (ds j).values)) (plain_start p)

      abbrev first : Array (PlainBody p)
      first = present (ds 0).values

      abbrev values : Bool → Try (Mutable (PlainBody p)) → Array (PlainBody p)
      values b t = after (elim b [ true ↦ done (present (ds 0).values) | false ↦ then t (λ e. done (freeze_node true (λ b. b) e)) ]) (ds 0).values

      -- the array that is shown, kept or joined
      dictionary : ShowsNode y i (ShowsPlain tree y p i) (after (the_dictionary p m ds) (ds 0).values) → CountsNode counts i (λ s. Unit {0}) (after (the_dictionary p m ds) (ds 0).values)
          → (shared m ds ≡ false → (e : Mutable (PlainBody p)) → joined_from p (λ j. (ds j).values) m begin ≡ done e → ByCounter true Bare e (after (the_dictionary p m ds) (ds 0).values))
          → BuiltValues tree y counts counters m p i ds
      dictionary s c b = (kept, joined)
        where
          kept : shared m ds ≡ true → NodeIs y counts i first.len first.off first.valid (null_count_of first) (plain_buffers p first.body)
          kept e =
              let is : after (the_dictionary p m ds) (ds 0).values ≡ present (ds 0).values = ap (λ z. values z (joined_from p (λ j. (ds j).values) m begin)) e in
              let u = subst (ShowsNode y i (ShowsPlain tree y p i)) is s in
              let v = subst (CountsNode counts i (λ (s : PlainBody p). Unit {0})) is c in
              record {
                len_is = u.len_is;
                off_is = u.off_is;
                valid_is = u.valid_is;
                count_is = v.count_is;
                bits_are = rw (u.valid_is, u.off_is, u.len_is) v.count_is;
                buffers_are = own_plain p i (ds 0).values.body u.body_is;
              }

          joined : shared m ds ≡ false → (e : Mutable (PlainBody p)) → joined_from p (λ j. (ds j).values) m begin ≡ done e → Made tree y counts counters m i true (plain_buffers p) e
          joined f e h =
              let is : after (the_dictionary p m ds) (ds 0).values ≡ freeze_node true (λ b. b) e = ap₂ values f h in
              made i true (λ b. b) (ShowsPlain tree y p i) (λ s. Unit {0}) Bare (plain_buffers p) (own_plain p i) e (subst (ShowsNode y i (ShowsPlain tree y p i)) is s)
              (subst (CountsNode counts i (λ (s : PlainBody p). Unit {0})) is c) (subst (ByCounter true Bare e) is (b f e h))

    own_data : (t : Ty) (i : ℕ) (ss : ℕ → Body t) (d : Grown t) → ShowsData tree y t i (freeze_data t m ss d) → Own i (buffers_of t d)
    own_data (t_plain p) i ss d s = own_plain p i d s
    own_data t_view i ss d s = one i s.0
    own_data (t_list_view w t) i ss d s = two i s.0 s.1
    own_data (t_list w t) i ss d s = one i s.0
    own_data (t_sparse ids nullable f) i ss d s = one i s.0
    own_data (t_dense ids nullable f) i ss d s = two i s.0 s.1
    own_data (t_run_end w t) i ss d s = refl
    own_data (t_dictionary k p) i ss d s = one i s.0

    -- counters and memory hold the destination; the plan's children are the tree's
    module _ (plan : List ℕ) (μ : Memory) (kids : (i : ℕ) (b : Bool) (ids : List ℕ) → Is tree i (union_kind b ids) → (e : ℕ) → Memᴰ e ids → child_of plan i e ≡ node_of tree i ids e) where
      -- a node, where what is below it is known
      child : (t : Ty) (i : ℕ) (ss : ℕ → Body t)
          → ((d : Grown t) → ShowsData tree y t i (freeze_data t m ss d) → CountsData tree counts t i (freeze_data t m ss d) → ByCounters t m ss d (freeze_data t m ss d) → HoldsData plan t i d counters μ
          → BuiltData tree y counts counters m t i ss d)
          → (d : Mutable (Grown t)) → ShowsNode y i (ShowsData tree y t i) (freeze_node (masks t) (freeze_data t m ss) d)
          → CountsNode counts i (CountsData tree counts t i) (freeze_node (masks t) (freeze_data t m ss) d) → ByCounter (masks t) (ByCounters t m ss) d (freeze_node (masks t) (freeze_data t m ss) d)
          → Holds plan t i d counters μ → BuiltNode tree y counts counters m i (masks t) (buffers_of t) (BuiltData tree y counts counters m t i ss) d
      child t i ss f d s c b h = (
        h.rows_are,
        h.nulls_are,
        made i (masks t) (freeze_data t m ss) (ShowsData tree y t i) (CountsData tree counts t i) (ByCounters t m ss) (buffers_of t) (own_data t i ss) d s c b,
        f d.«data» s.body_is c.below b.below h.data_are,
      )

      -- what the plan says of a union's child, said of the tree's node
      there : (i : ℕ) (b : Bool) (ids : List ℕ) (f : ℕ → Ty) → Is tree i (union_kind b ids) → (c : ℕ) → Memᴰ c ids → (d : Destination (f c)) → Holds plan (f c) (child_of plan i c) d counters μ
          → Holds plan (f c) (node_of tree i ids c) d counters μ
      there i b ids f k c q d h = subst (λ j. Holds plan (f c) j d counters μ) (kids i b ids k c q) h

      below : (t : Ty) (i : ℕ) (ss : ℕ → Body t) → Means tree t i → (d : Grown t) → ShowsData tree y t i (freeze_data t m ss d) → CountsData tree counts t i (freeze_data t m ss d)
          → ByCounters t m ss d (freeze_data t m ss d) → HoldsData plan t i d counters μ → BuiltData tree y counts counters m t i ss d
      below (t_plain (fixed k)) i ss mn d s n b h = tt
      below (t_plain (string w)) i ss mn d s n b h = h.2
      below t_view i ss mn d s n b h = s.1
      below (t_list_view w t) i ss mn d s n b h = child t (suc i) (λ j. (ss j).child.body) (below t (suc i) (λ j. (ss j).child.body) mn.1) d.child s.2 n b h.2
      below (t_list w t) i ss mn d s n b h = child t (suc i) (λ j. (ss j).child.body) (below t (suc i) (λ j. (ss j).child.body) mn.1) d.child s.1 n b h.1
      below (t_sparse ids nullable f) i ss mn d s n b h = λ c q.
          child (f c) (node_of tree i ids c) (λ j. ((ss j).children c).body) (below (f c) (node_of tree i ids c) (λ j. ((ss j).children c).body) (mn.1 c q).1) (d.children c) (s.1 c q) (n c q) (b c q)
          (there i true ids f mn.0 c q (d.children c) (h.1 c q))
      below (t_dense ids nullable f) i ss mn d s n b h = λ c q.
          child (f c) (node_of tree i ids c) (λ j. ((ss j).children c).body) (below (f c) (node_of tree i ids c) (λ j. ((ss j).children c).body) (mn.1 c q).1) (d.children c) (s.2 c q) (n c q) (b c q)
          (there i false ids f mn.0 c q (d.children c) (h.2 c q))
      below (t_run_end w t) i ss mn d s n b h = (
        h.0,
        made (suc i) true (λ e. e) (λ e. first_buffer y (suc i) ≡ e) (λ e. Unit {0}) Bare (λ e. e ∷ []) (λ e u. one (suc i) u) d.ends s.0 n.0 b.0,
        h.3,
        child t (suc (suc i)) (λ j. (ss j).values.body) (below t (suc (suc i)) (λ j. (ss j).values.body) mn.2) d.values s.1 n.1 b.1 h.2,
      )
      below (t_dictionary k p) i ss mn d s n b h = dictionary p (suc i) ss s.1 n b

      pub built : (t : Ty) (i : ℕ) (ss : ℕ → Column t) → Means tree t i → (d : Destination t) → Shows tree y t i (into_builder t m ss d) → Counts tree counts t i (into_builder t m ss d)
          → FinishedBy t m ss d (into_builder t m ss d) → Holds plan t i d counters μ → Built tree y counts counters m t i ss d
      built t i ss mn d s c b h = child t i (λ j. (ss j).body) (below t i (λ j. (ss j).body) mn) d s c b h
