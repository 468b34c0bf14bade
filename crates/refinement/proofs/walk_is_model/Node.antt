-- A node: where its data goes with the model's, so does the node with its validity, its rows and its nulls. Assumes nothing.
use mathlib.Core.Path.{◌≡◌, refl, sym, ap, subst, ◌∙◌}
use mathlib.Core.Bool.{Bool, true, false, cond, ◌&&◌, false≢true}
use mathlib.Core.Option.{Option, none, some}
use mathlib.Core.List.{List, []}
use Prim.Native.Nat.{ℕ, zero, suc, ◌+◌, ◌≤◌, ◌<◌}
use native.Mathlib.Nat.{add_assoc}
use native.Mathlib.Omega.{arith}
use lib.ListN.{length, replicate}
use lib.Dec.{leb, ltb, eqb}
use borrow.Author.Tests.{lt-ltb, le-ltb, eq-eqb, ne_eqb, leb-true, eqb-true}
use Rattle.columnar.specs.Row.{seg}
use Rattle.columnar.specs.Types.{Plain, fixed, string, Ty, t_plain, t_view, t_list_view, t_list, t_sparse, t_dense, t_run_end, t_dictionary}
use Rattle.columnar.specs.Array.{Array, ok, Mask}
use Rattle.columnar.specs.Reading.{Column, masks, Source}
use Rattle.schema.specs.formats.Code.{between, is_fixed, is_string, is_view, is_list_view}
use Rattle.model.specs.Mutable.{Mutable, zeros, grow, extend_node, nulls_node}
use Rattle.model.specs.Transform.{Grown, Destination, extend_data}
use Rattle.model.proofs.Law.{Fine, BitsFor, FineNode, KeepNode}
use Rattle.model.proofs.Bits.{length_seg}
use Rattle.model.proofs.Nodes.{kind_of, KeepOf}
use Rattle.walk.specs.State.{Join, code_of, end_of, rows, nulls, bytes, top, add_rows, far, offset_of, slot_of}
use Rattle.walk.specs.Log.{Out, done, next}
use Rattle.walk.specs.Leaves.{copy_mask, null_mask, count_nulls}
use Rattle.walk.specs.Copy.{Walk, masked, copy_data, copy_slots, copy_node, copy_walk}
use Rattle.walk.specs.Nulls.{null_data, null_node, null_walk}
use Rattle.refinement.specs.walk_is_model.Memory.{Memory}
use Rattle.refinement.specs.walk_is_model.Holds.{WordedPlain, Worded, HoldsBits, HoldsData, Holds}
use Rattle.refinement.specs.walk_is_model.Lent.{LentValid}
use Rattle.refinement.proofs.walk_is_model.Kids.{worded_small}
use Rattle.refinement.proofs.walk_is_model.Goes.{Goes, Quiet, goes_done, goes_need, goes_found, goes_then, goes_quiet}
use Rattle.refinement.proofs.walk_is_model.Frame.{SameAt, same_then, Kept, kept_refl, worded_span, bits_held, data_held}
use Rattle.refinement.proofs.walk_is_model.Counters.{grown_is, rows_added, rows_other, nulls_of_rows, bytes_of_rows, long_rows}
use Rattle.refinement.proofs.walk_is_model.Mask.{Masked, zeros_few, copy_mask_lem, copy_none, null_mask_lem, count_nulls_lem}
use Rattle.refinement.proofs.walk_is_model.Owed.{DataKept, Given, Copies, CopiesData, Fills, FillsData}
use Rattle.model.proofs.Names.{nulls_data, counted}

-- ---- what the words of a node say

both : (a b : Bool) → a && b ≡ true → (a ≡ true) × (b ≡ true)
both true b h = (refl, h)
both false b h = absurd (false≢true h)

below_code : (a b n : ℕ) → b < 21 → between a b n ≡ true → ltb n 21 ≡ true
below_code a b n h e = let q = leb-true n b (both (leb a n) (leb n b) e).1 in lt-ltb n 21 (omega arith)

module _ (plan : List ℕ) where
  plain_code_lem : (p : Plain) (i : ℕ) → WordedPlain plan p i → ltb (code_of plan i) 21 ≡ true
  plain_code_lem (fixed n) i w = below_code 1 10 (code_of plan i) (omega arith) w.0
  plain_code_lem (string n) i w = below_code 11 14 (code_of plan i) (omega arith) w.0

  -- a node has validity by its code where it has by its type
  pub masked_is : (k : ℕ) (t : Ty) (i : ℕ) → Worded plan k t i → masked (code_of plan i) ≡ masks t
  masked_is (suc k) (t_plain p) i w = plain_code_lem p i w.3
  masked_is (suc k) t_view i w = below_code 15 16 (code_of plan i) (omega arith) w.2
  masked_is (suc k) (t_list_view v t) i w = below_code 17 18 (code_of plan i) (omega arith) w.2
  masked_is (suc k) (t_list v t) i w = below_code 19 20 (code_of plan i) (omega arith) w.2
  masked_is (suc k) (t_sparse ids nullable f) i w = le-ltb (code_of plan i) 21 (omega (arith, w.1))
  masked_is (suc k) (t_dense ids nullable f) i w = le-ltb (code_of plan i) 21 (omega (arith, w.1))
  masked_is (suc k) (t_run_end v t) i w = le-ltb (code_of plan i) 21 (omega (arith, w.2))
  masked_is (suc k) (t_dictionary n p) i w = below_code 1 10 (code_of plan i) (omega arith) w.3
  masked_is zero t i w = elim w [ ]

counted_few : (b : Option (List Bool)) (z n : ℕ) → z ≤ n → counted b z ≤ n
counted_few none z n h = omega arith
counted_few (some l) z n h = h

-- ---- a node, after its validity and its data

module _ (plan : List ℕ) (k : ℕ) (t : Ty) (i : ℕ) (w : Worded plan k t i) (n : ℕ) (d d' : Destination t) (c c2 c3 : List ℕ) (μ ν2 ν3 : Memory)
    (long : length c ≡ 96) (fits : d.len + n ≤ top) (held : Holds plan t i d c μ) (few : d'.null_count ≤ d'.len) (len_is : d'.len ≡ d.len + n)
    (m : Masked plan i (masks t) d'.bits d'.null_count c c2 μ ν2) (q : DataKept i (end_of plan i) c2 c3 ν2 ν3) (data_is : HoldsData plan t i d'.«data» c3 ν3) where
  long3 : length c3 ≡ 96
  long3 = q.long ∙ m.long ∙ long

  added_same : (j : ℕ) → (j ≡ i → ⊥) → SameAt c3 (add_rows i n c3) ν3 ν3 j
  added_same j h =
      record { rows_same = rows_other c3 i n j h; nulls_same = nulls_of_rows c3 i n j; bytes_same = bytes_of_rows c3 i n j; at_same = λ b. refl; bits_same = refl }

  pub node_held : Holds plan t i d' (add_rows i n c3) ν3
  node_held =
      record {
        rows_are =
            let e : rows c3 i ≡ d.len = q.rows_own ∙ m.rows_same i ∙ held.rows_are in
            rows_added c3 long3 i (worded_small plan k t i w) n ∙ grown_is (rows c3 i) n (rw e fits) ∙ ap (λ r. r + n) e ∙ sym len_is;
        nulls_are = nulls_of_rows c3 i n i ∙ q.nulls_own ∙ m.nulls_own;
        few_nulls = few;
        bits_are = bits_held plan c2 c3 ν2 ν3 i (masks t) d'.bits q.bits_own m.bits_are;
        data_are =
            data_held plan c3 (add_rows i n c3) ν3 ν3 k t i d'.«data» w
            (record { at_same = λ b. refl; bytes_same = bytes_of_rows c3 i n i; below_same = λ j a b. added_same j (λ e. omega (arith, e)) }) data_is;
      }

  pub node_kept : Kept i (end_of plan i) c (add_rows i n c3) μ ν3
  node_kept =
      record {
        long = long_rows i n c3 ∙ q.long ∙ m.long;
        outside = λ j h.
            let ne : j ≡ i → ⊥ = λ e. h (omega (arith, e)) (omega (arith, e, worded_span plan k t i w)) in
            let s = q.outside j h in
            let a = added_same j ne in
            record {
              rows_same = a.rows_same ∙ s.rows_same ∙ m.rows_same j;
              nulls_same = a.nulls_same ∙ s.nulls_same ∙ m.nulls_else j ne;
              bytes_same = a.bytes_same ∙ s.bytes_same ∙ m.bytes_same j;
              at_same = λ b. s.at_same b ∙ m.at_same j b;
              bits_same = s.bits_same ∙ m.bits_else j ne;
            };
      }

-- ---- copies

module _ (x : Join) (i : ℕ) (small : i < 32) (c : List ℕ) (long : length c ≡ 96) (μ : Memory) where
  -- the validity step, by whether the node has one
  mask_step : (m : Bool) (valid : Option (List ℕ)) (b : Option (List Bool)) (len count slot n reach : ℕ) → LentValid x i valid → Mask m valid reach → slot + n ≤ reach
      → HoldsBits x.plan i m b μ → BitsFor m b len → rows c i ≡ len → nulls c i ≡ count → count + n ≤ top
      → Quiet μ (λ c' μ'. Masked x.plan i m (grow m (seg (ok valid) slot n) b) (count + counted b (zeros (seg (ok valid) slot n))) c c' μ μ')
      (cond m (copy_mask x i slot n c) (done c))
  mask_step true valid b len count slot n reach v mk p h f r z t = copy_mask_lem x i small c long μ valid b len count slot n reach v mk p h f r z t
  mask_step false valid b len count slot n reach v mk p h f r z t = copy_none x i small c long μ valid b count slot n reach mk h z

  null_step : (m : Bool) (b : Option (List Bool)) (len count n : ℕ) → HoldsBits x.plan i m b μ → BitsFor m b len → rows c i ≡ len → nulls c i ≡ count → count + n ≤ top
      → Quiet μ (λ c' μ'. Masked x.plan i m (grow m (replicate n false) b) (count + counted b n) c c' μ μ') (cond m (null_mask x i n c) (count_nulls x i n c))
  null_step true b len count n h f r z t = null_mask_lem x i small c long μ b len count n h f r z t
  null_step false b len count n h f r z t = count_nulls_lem x i small c long μ b count n h z t

module _ (x : Join) (k : ℕ) (t : Ty) (i m : ℕ) (ss : ℕ → Column t) (g : Given x (suc k) t i m ss) where
  abbrev src : Column t
  src = ss x.source

  slot_is : (a n : ℕ) → a + n ≤ src.len → slot_of x i a n ≡ src.off + a
  unfolding slot_of
  slot_is a n h =
      let o = g.lent.off_is in
      let s : offset_of x i + a + n < far = rw o (omega (arith, g.lent.sum)) in
      rw (lt-ltb (offset_of x i + a + n) far s) (ap (λ f. f + a) o)

  module _ (n : ℕ) (d d' : Destination t) (c c2 c3 : List ℕ) (μ ν2 ν3 : Memory) (long : length c ≡ 96) (fits : d.len + n ≤ top) (held : Holds x.plan t i d c μ)
      (few : d'.null_count ≤ d'.len) (len_is : d'.len ≡ d.len + n) (q : DataKept i (end_of x.plan i) c c2 μ ν2) (data_is : HoldsData x.plan t i d'.«data» c2 ν2)
      (mk : Masked x.plan i (masks t) d'.bits d'.null_count c2 c3 ν2 ν3) where
    masked_else : (j : ℕ) → (j ≡ i → ⊥) → SameAt c2 c3 ν2 ν3 j
    masked_else j ne =
        record { rows_same = mk.rows_same j; nulls_same = mk.nulls_else j ne; bytes_same = mk.bytes_same j; at_same = λ b. mk.at_same j b; bits_same = mk.bits_else j ne }

    added_else : (j : ℕ) → (j ≡ i → ⊥) → SameAt c3 (add_rows i n c3) ν3 ν3 j
    added_else j h =
        record { rows_same = rows_other c3 i n j h; nulls_same = nulls_of_rows c3 i n j; bytes_same = bytes_of_rows c3 i n j; at_same = λ b. refl; bits_same = refl }

    filled_held : Holds x.plan t i d' (add_rows i n c3) ν3
    filled_held =
        record {
          rows_are =
              let e : rows c3 i ≡ d.len = mk.rows_same i ∙ q.rows_own ∙ held.rows_are in
              rows_added c3 (mk.long ∙ q.long ∙ long) i (worded_small x.plan (suc k) t i g.worded) n ∙ grown_is (rows c3 i) n (rw e fits) ∙ ap (λ r. r + n) e ∙ sym len_is;
          nulls_are = nulls_of_rows c3 i n i ∙ mk.nulls_own;
          few_nulls = few;
          bits_are = mk.bits_are;
          data_are =
              data_held x.plan c2 (add_rows i n c3) ν2 ν3 (suc k) t i d'.«data» g.worded
              (record {
                at_same = λ b. mk.at_same i b;
                bytes_same = bytes_of_rows c3 i n i ∙ mk.bytes_same i;
                below_same = λ j a b. let ne : j ≡ i → ⊥ = λ e. omega (arith, e) in same_then (masked_else j ne) (added_else j ne);
              }) data_is;
        }

    filled_kept : Kept i (end_of x.plan i) c (add_rows i n c3) μ ν3
    filled_kept =
        record {
          long = long_rows i n c3 ∙ mk.long ∙ q.long;
          outside = λ j h.
              let ne : j ≡ i → ⊥ = λ e. h (omega (arith, e)) (omega (arith, e, worded_span x.plan (suc k) t i g.worded)) in
              same_then (q.outside j h) (same_then (masked_else j ne) (added_else j ne));
        }

  -- A COPY AT A NODE goes with the model's where its data does
  pub node_copies : CopiesData x (copy_walk x k) t i m ss → Copies x (copy_walk x (suc k)) t i m ss
  unfolding copy_walk copy_node copy_slots
  node_copies data-goes a n d c μ ha fine sm long h =
      let small = worded_small x.plan (suc k) t i g.worded in
      let slot = src.off + a in
      let vs = seg (ok src.valid) slot n in
      let fits = sm in
      let few : zeros vs ≤ n = subst (λ z. zeros vs ≤ z) (length_seg (ok src.valid) slot n) (zeros_few vs) in
      goes_need (ltb i 32) 12 c (lt-ltb i 32 small)
      (rw (slot_is a n ha)
      (goes_found far slot 12 c _ (omega (arith, g.lent.sum))
      (rw (masked_is x.plan (suc k) t i g.worded)
      (goes_quiet _
      (mask_step x i small c long μ (masks t) src.valid d.bits d.len d.null_count slot n (src.off + src.len)
      g.lent.valid_is (g.obey x.source g.known).mask (omega arith) h.bits_are fine.bits_are h.rows_are h.nulls_are (omega (arith, h.few_nulls)))
      (λ c2 ν2 mk.
      goes_then _ _
      (data-goes slot n d c2 ν2 (omega arith) (omega arith) fine sm (mk.long ∙ long) (mk.rows_same i ∙ h.rows_are)
      (data_held x.plan c c2 μ ν2 (suc k) t i d.«data» g.worded
      (record { at_same = λ b. mk.at_same i b; bytes_same = mk.bytes_same i; below_same = λ j p q. below mk j (λ e. omega (arith, e)) }) h.data_are))
      (λ b c3 ν3 q.
      let d' : Destination t = record { len = d.len + n; null_count = d.null_count + counted d.bits (zeros vs); bits = grow (masks t) vs d.bits; «data» = b } in
      let f : d'.null_count ≤ d'.len = let z = counted_few d.bits (zeros vs) n few in omega (arith, h.few_nulls) in
      goes_done d' _ (
        node_held x.plan (suc k) t i g.worded n d d' c c2 c3 μ ν2 ν3 long fits h f refl mk q.1 q.0,
        node_kept x.plan (suc k) t i g.worded n d d' c c2 c3 μ ν2 ν3 long fits h f refl mk q.1 q.0,
      )))))))
    where
      below : {b : Option (List Bool)} {z : ℕ} {c2 : List ℕ} {ν2 : Memory} → Masked x.plan i (masks t) b z c c2 μ ν2 → (j : ℕ) → (j ≡ i → ⊥) → SameAt c c2 μ ν2 j
      below mk j ne =
          record { rows_same = mk.rows_same j; nulls_same = mk.nulls_else j ne; bytes_same = mk.bytes_same j; at_same = λ b. mk.at_same j b; bits_same = mk.bits_else j ne }

  -- ---- nulls: the data first, then the validity

  -- AN ORDER OF NULLS AT A NODE goes with the model's where its data does
  pub node_fills : FillsData x (null_walk x k) t i m ss → Fills x (null_walk x (suc k)) t i m ss
  unfolding null_walk null_node
  node_fills data-goes zero d c μ fine keep sm long h = goes_done d c (h, kept_refl i (end_of x.plan i) c μ)
  node_fills data-goes (suc n) d c μ fine keep sm long h =
      let small = worded_small x.plan (suc k) t i g.worded in
      let fits = sm in
      rw (ne_eqb (suc n) 0 (λ e. omega (arith, e)))
      (goes_need (ltb i 32) 12 c (lt-ltb i 32 small)
      (goes_then _ _ (data-goes (suc n) d c μ (omega arith) fine keep sm long h)
      (λ b c2 ν2 q.
      rw (masked_is x.plan (suc k) t i g.worded)
      (goes_quiet _
      (null_step x i small c2 (q.1.long ∙ long) ν2 (masks t) d.bits d.len d.null_count (suc n)
      (bits_held x.plan c c2 μ ν2 i (masks t) d.bits q.1.bits_own h.bits_are) fine.bits_are (q.1.rows_own ∙ h.rows_are) (q.1.nulls_own ∙ h.nulls_are) (omega (arith, h.few_nulls)))
      (λ c3 ν3 mk.
      let d' : Destination t = record { len = d.len + suc n; null_count = d.null_count + counted d.bits (suc n); bits = grow (masks t) (replicate (suc n) false) d.bits; «data» = b } in
      let f : d'.null_count ≤ d'.len = let z = counted_few d.bits (suc n) (suc n) (omega arith) in omega (arith, h.few_nulls) in
      goes_done d' _ (
        filled_held (suc n) d d' c c2 c3 μ ν2 ν3 long fits h f refl q.1 q.0 mk,
        filled_kept (suc n) d d' c c2 c3 μ ν2 ν3 long fits h f refl q.1 q.0 mk,
      ))))))
