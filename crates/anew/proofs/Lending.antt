-- A finished column that stands is accepted where it is lent again: none of the grounds 9, 10 and 12 stands. Assumes nothing.
use mathlib.Core.Path.{◌≡◌, refl, sym, ap, ap₂, subst, ◌∙◌}
use mathlib.Core.Logic.{◌⊎◌, inl, inr}
use mathlib.Core.Bool.{Bool, true, false, not, cond, ◌&&◌, ◌||◌, false≢true}
use mathlib.Core.List.{List, ◌++◌}
use Prim.Native.Nat.{ℕ, zero, suc, ◌+◌, ◌*◌, ◌≤◌, ◌<◌, ◌^◌, min}
use native.Mathlib.Omega.{arith}
use lib.ListN.{length, drop, replicate}
use lib.Dec.{T, leb, ltb}
use lib.Ieee.Bits.{is_true}
use borrow.Author.Tests.{lt-ltb, le-leb, ltb-true}
use Rattle.columnar.specs.Types.{Plain, fixed, string, Ty, t_plain, t_view, t_list_view, t_list, t_sparse, t_dense, t_run_end, t_dictionary}
use Rattle.columnar.specs.Array.{Array}
use Rattle.columnar.specs.Plain.{PlainBody}
use Rattle.columnar.specs.Reading.{Column}
use Rattle.columnar.proofs.Test.{every_out}
use Rattle.schema.specs.formats.Code.{is_fixed, is_view}
use Rattle.schema.specs.Tree.{ceilings, typed}
use Rattle.schema.specs.Tree as trees
use Rattle.schema.proofs.Laws.{every_all}
use Rattle.array_data.specs.Tables.{Tables, length_of, offset_of, place}
use Rattle.array_data.specs.Typed.{Tree, MeansPlain, tables_from, source_rule}
use Rattle.array_data.specs.type_tree.Lent.{tree_of}
use Rattle.array_data.specs.lent_tables.Lent.{mask_of}
use Rattle.array_data.proofs.type_tree.Ids.{both}
use Rattle.plan.proofs.dictionaries.Laws.{length_from, offset_from, place_from}
use Rattle.walk.specs.State.{code_of, dictionary_of, far}
use Rattle.refinement.specs.walk_is_model.Memory.{Memory}
use Rattle.refinement.specs.walk_is_model.Holds.{WordedPlain, Worded}
use Rattle.refinement.proofs.log_in_room.Found.{between_both}
use Rattle.columns.specs.Grounds.{count_fits, ceiling, small_body, few_buffers, node_fits, within_ceilings, obeys, column_ground}
use Rattle.plan.specs.parts.Parts.{nodes_of, copied}
use Rattle.refinement.specs.orders.Order.{Lent, join_of}
use Rattle.refinement.proofs.orders.Buffers.{copied_free}
use Rattle.refinement.specs.finishing.Finish.{kept_node, kept_tables, kept_in, sources, data_count, buffers_of, buffers_before, copied_place, kept_place, place_at}
use Rattle.refinement.specs.finishing.Shows.{finished_tables, Bodied}
use Rattle.refinement.proofs.finishing.Lookups.{length_at_lem, offset_at_lem, place_at_lem}
use Rattle.refinement.proofs.finishing.Finished.{kept_not}
use Rattle.anew.specs.Stood.{StoodValues, in_parts, kept, Stood}
use Rattle.anew.proofs.Standing.{Standing, every_node}
use Rattle.anew.proofs.Bounds.{parts_copied}
use Rattle.anew.proofs.Shown.{few_one, one_source}
use Rattle.anew.proofs.Accepting.{all_kept_lem}
use Rattle.anew.proofs.Sizes.{lengths_fit}

-- ---- a column of an admitted type that obeys, whose nodes start at 0 or have a sum within the ceiling, and few data buffers

module _ (formats schema : List ℕ) (z : Tables) (first n : ℕ) (short : length z.body ≤ ceiling) (low : ceilings formats schema first n ≡ true) (of_type : typed formats schema first n ≡ true)
    (rule : T (source_rule (tree_of formats schema first n) (tables_from z first)))
    (start : (i : ℕ) → i < n → (offset_of (tables_from z first) i ≡ 0) ⊎ (offset_of (tables_from z first) i + length_of (tables_from z first) i < 2 ^ 63))
    (few : (i : ℕ) → i < n → place (tables_from z first) i 8 ≤ 32) where
  sum_fits : (i : ℕ) → i < n → (offset_of (tables_from z first) i ≡ 0) ⊎ (offset_of (tables_from z first) i + length_of (tables_from z first) i < 2 ^ 63) → offset_of (tables_from z first) i + length_of (tables_from z first) i < 2 ^ 63
  sum_fits i l (inl e) = omega (arith, lengths_fit formats schema first n (tables_from z first) short rule of_type i l e, e)
  sum_fits i l (inr h) = h

  node_fits_lem : (i : ℕ) → i < n → node_fits formats schema z first i ≡ true
  unfolding node_fits count_fits few_buffers
  node_fits_lem i l =
      let a = sum_fits i l (start i l) in
      let b : offset_of z (first + i) + length_of z (first + i) < 2 ^ 63 = omega (arith, a, length_from z first i, offset_from z first i) in
      rw (lt-ltb (offset_of z (first + i) + length_of z (first + i)) (2 ^ 63) b) (go (is_view (trees.code_of formats schema first i)))
    where
      go : (v : Bool) → not v || leb (place z (first + i) 8) 32 ≡ true
      go true = le-leb (place z (first + i) 8) 32 (omega (arith, few i l, place_from z first i 8))
      go false = refl

  -- IT IS ACCEPTED
  pub accepted_again : column_ground formats schema z first n ≡ 0
  unfolding column_ground small_body within_ceilings obeys
  accepted_again = rw (le-leb (length z.body) ceiling short, low, every_all (node_fits formats schema z first) n node_fits_lem, of_type, is_true (source_rule (tree_of formats schema first n) (tables_from z first)) rule)

or_right : (a b : Bool) → a ≡ false → a || b ≡ true → b ≡ true
or_right true b e h = absurd (false≢true (sym e))
or_right false b e h = h

holds : {b : Bool} → b ≡ true → T b
holds e = subst T (sym e) tt

-- ---- a node of a plan that is a view's

plain_not : (plan : List ℕ) (p : Plain) (i : ℕ) → WordedPlain plan p i → is_view (code_of plan i) ≡ true → ⊥
plain_not plan (fixed n) i w v = omega (arith, (between_both 1 10 (code_of plan i) w.0).1, (between_both 15 16 (code_of plan i) v).0)
plain_not plan (string b) i w v = omega (arith, (between_both 11 14 (code_of plan i) w.0).1, (between_both 15 16 (code_of plan i) v).0)

-- ---- the finished tables

module _ (x : Lent) (buffers : List ℕ) (tree : Tree) (root : Ty) (column : Column root) (counters room : List ℕ) (μ : Memory) (st : Standing x buffers tree root column counters room μ)
    (base : ℕ) (body : List ℕ) (bodied : Bodied body x room base) where
  abbrev plan : List ℕ
  plan = x.plan

  abbrev Y : Tables
  Y = finished_tables x buffers counters room base body

  -- a node starts at 0, or is kept where its sum is within the ceiling
  pub starts_low : (i : ℕ) → i < nodes_of plan → (offset_of Y i ≡ 0) ⊎ (offset_of Y i + length_of Y i < 2 ^ 63)
  unfolding kept_in
  starts_low i l =
      go (copied plan i) refl
      (is_true _ (every_out (kept_in x buffers counters room base) (nodes_of plan) (holds (all_kept_lem x buffers tree root column counters room μ st base)) i l))
    where
      go : (b : Bool) → copied plan i ≡ b → kept_in x buffers counters room base i ≡ true → (offset_of Y i ≡ 0) ⊎ (offset_of Y i + length_of Y i < 2 ^ 63)
      go true c k = inl (offset_at_lem x buffers counters room base body i l ∙ ap (λ b. cond b 0 (Rattle.walk.specs.State.offset_of (join_of x 0) i)) c)
      go false c k =
          let o = Rattle.walk.specs.State.offset_of (join_of x 0) i in
          let n = Rattle.walk.specs.State.length_of (join_of x 0) i in
          let a : offset_of Y i ≡ o = offset_at_lem x buffers counters room base body i l ∙ ap (λ b. cond b 0 o) c in
          let b : length_of Y i ≡ n = length_at_lem x buffers counters room base body i l ∙ ap (λ b. cond b (Rattle.walk.specs.State.rows counters i) n) c in
          let h : ltb (o + n) far && mask_of (kept_tables x buffers counters room base) (kept_node x buffers counters room base i) true ≡ true = or_right (copied plan i) _ c k in
          inr (omega (arith, a, b, ltb-true (o + n) far (both (ltb (o + n) far) _ h).0))

  -- a node in parts names as many data buffers as its plan's code has it
  place_eight : (i : ℕ) → i < nodes_of plan → copied plan i ≡ true → place Y i 8 ≡ cond (is_view (code_of plan i)) (buffers_of x buffers counters room base i (sources x buffers counters room base)) 0
  unfolding place_at copied_place
  place_eight i l c = place_at_lem x buffers counters room base body i l 8 (omega arith) ∙ ap (λ b. cond b (copied_place x buffers counters room base i 8) (kept_place x buffers counters room base i 8)) c

  no_view : (i : ℕ) → i < nodes_of plan → copied plan i ≡ true → (is_view (code_of plan i) ≡ true → ⊥) → place Y i 8 ≤ 32
  no_view i l c h = go (is_view (code_of plan i)) refl
    where
      go : (b : Bool) → is_view (code_of plan i) ≡ b → place Y i 8 ≤ 32
      go true e = absurd (h e)
      go false e = let z : place Y i 8 ≡ 0 = place_eight i l c ∙ ap (λ b. cond b (buffers_of x buffers counters room base i (sources x buffers counters room base)) 0) e in omega arith

  one_few : (i : ℕ) → Rattle.walk.specs.State.place (join_of x 0) i 8 ≤ 32 → (n : ℕ) → n ≡ 1 → buffers_of x buffers counters room base i n ≤ 32
  unfolding buffers_of
  one_few i h n e = subst (λ s. buffers_of x buffers counters room base i s ≤ 32) (sym e) (omega arith)

  a_view : (i : ℕ) → i < nodes_of plan → copied plan i ≡ true → Rattle.walk.specs.State.place (join_of x 0) i 8 ≤ 32 → place Y i 8 ≤ 32
  a_view i l c h = rw (place_eight i l c) (go (is_view (code_of plan i)))
    where
      go : (b : Bool) → cond b (buffers_of x buffers counters room base i (sources x buffers counters room base)) 0 ≤ 32
      go true = one_few i h (sources x buffers counters room base) (one_source x buffers tree root column counters room μ st base body bodied)
      go false = omega arith

  own_few : (k : ℕ) (t : Ty) (i : ℕ) (a : Column t) → Worded plan k t i → i < nodes_of plan → copied plan i ≡ true → Stood x buffers counters μ t i a → place Y i 8 ≤ 32
  own_few (suc k) (t_plain p) i a w l c h = no_view i l c (plain_not plan p i w.3)
  own_few (suc k) t_view i a w l c h = a_view i l c (few_one x buffers counters μ i a.body h.body_is.1 0 (omega arith))
  own_few (suc k) (t_list_view v t) i a w l c h = no_view i l c (λ e. omega (arith, (between_both 17 18 (code_of plan i) w.2).0, (between_both 15 16 (code_of plan i) e).1))
  own_few (suc k) (t_list v t) i a w l c h = no_view i l c (λ e. omega (arith, (between_both 19 20 (code_of plan i) w.2).0, (between_both 15 16 (code_of plan i) e).1))
  own_few (suc k) (t_sparse ids nullable f) i a w l c h = no_view i l c (λ e. omega (arith, w.1, (between_both 15 16 (code_of plan i) e).1))
  own_few (suc k) (t_dense ids nullable f) i a w l c h = no_view i l c (λ e. omega (arith, w.1, (between_both 15 16 (code_of plan i) e).1))
  own_few (suc k) (t_run_end v t) i a w l c h = no_view i l c (λ e. omega (arith, w.2, (between_both 15 16 (code_of plan i) e).1))
  own_few (suc k) (t_dictionary n p) i a w l c h = no_view i l c (λ e. omega (arith, (between_both 1 10 (code_of plan i) w.3).1, (between_both 15 16 (code_of plan i) e).0))
  own_few zero t i a w l c h = elim w [ ]

  values_few : (p : Plain) (i : ℕ) (a : Array (PlainBody p)) → suc i < nodes_of plan → (dictionary_of plan i ≡ 0 → ⊥) → MeansPlain tree p (suc i) → StoodValues x buffers counters μ p i a → place Y (suc i) 8 ≤ 32
  unfolding place_at kept_place
  values_few p i a l dict mn (in_parts e h) = no_view (suc i) l (parts_copied plan i dict e) (plain_not plan p (suc i) (st.of_type.plain_words p (suc i) mn))
  values_few p i a l dict mn (kept e v h o q) =
      let c = kept_not plan i dict e in
      let z : place Y (suc i) 8 ≡ 0
      = place_at_lem x buffers counters room base body (suc i) l 8 (omega arith) ∙ ap (λ b. cond b (copied_place x buffers counters room base (suc i) 8) (kept_place x buffers counters room base (suc i) 8)) c in
      omega arith

  -- no node names more than 32 data buffers
  pub names_few : (i : ℕ) → i < nodes_of plan → place Y i 8 ≤ 32
  names_few =
      every_node x buffers tree root column counters μ st.of_type st.stood (λ j. place Y j 8 ≤ 32) (λ k t i a w l o mn h. own_few k t i a w l (copied_free plan i o) h)
      (λ w i a l o f e mn h. no_view i l (copied_free plan i o) (λ v. omega (arith, (between_both 1 10 (code_of plan i) f).1, (between_both 15 16 (code_of plan i) v).0)))
      (λ p i a l dict mn h. values_few p i a l dict mn h)

-- ---- tables that hold others from a node on

-- tables with nothing at their first k nodes, and then these: any can be lent so
pub shifted : ℕ → Tables → Tables
shifted k y = record { lengths = replicate (2 * k) 0 ++ y.lengths; places = replicate (9 * k) 0 ++ y.places; buffers = y.buffers; body = y.body }

skipped : (m : ℕ) (l : List ℕ) → drop m (replicate m 0 ++ l) ≡ l
skipped zero l = refl
skipped (suc m) l = skipped m l

pub shifted_there : (k : ℕ) (y : Tables) → tables_from (shifted k y) k ≡ y
unfolding shifted
shifted_there k y = ap₂ (λ a b. record { lengths = a; places = b; buffers = y.buffers; body = y.body }) (skipped (2 * k) y.lengths) (skipped (9 * k) y.places)
