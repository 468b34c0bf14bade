-- Validity: the bits that a copy or an order of nulls adds at a node, and its count of nulls. Assumes nothing.
use mathlib.Core.Path.{◌≡◌, refl, sym, ap, ap₂, subst, ◌∙◌}
use mathlib.Core.Bool.{Bool, true, false, cond}
use mathlib.Core.Option.{Option, none, some}
use mathlib.Core.List.{List, [], ◌∷◌, ◌++◌, map}
use Prim.Native.Nat.{ℕ, zero, suc, ◌+◌, ◌*◌, ◌-◌, ◌≤◌, ◌<◌}
use native.Mathlib.Nat.{add-zero, add-suc, zero-add}
use native.Mathlib.Omega.{arith}
use lib.ListN.{length, take, drop, get_or, replicate, length-map, length-drop}
use lib.Seq.{drop-cons, length-take-le}
use lib.Dec.{leb, ltb, eqb}
use borrow.Author.Tests.{le-leb, eq-eqb, ne_eqb, eqb-true, eqb-false}
use Rattle.bits.specs.Bits.{bits, bits_at}
use Rattle.bits.proofs.Laws.{length_bits, below_at_lem, below_bits}
use Rattle.columnar.specs.Row.{seg}
use Rattle.columnar.specs.Array.{bit, ok, Mask}
use Rattle.row_rules.proofs.slots.Tests.{valid_part}
use Rattle.model.specs.Mutable.{zeros, grow}
use Rattle.model.proofs.Law.{BitsFor}
use Rattle.model.proofs.Bits.{length_seg, zeros_replicate}
use Rattle.walk.specs.State.{Join, keeps_of, rows, nulls, bytes, top, add_nulls, place}
use Rattle.walk.specs.Log.{Out, mask, done, wrote, need, next}
use Rattle.walk.specs.Leaves.{copy_bits, copy_mask, null_mask, count_nulls}
use Rattle.refinement.specs.walk_is_model.Memory.{Memory, mask_in}
use Rattle.refinement.specs.walk_is_model.Holds.{flag, HoldsBits}
use Rattle.refinement.specs.walk_is_model.Lent.{Part, LentValid}
use Rattle.refinement.proofs.walk_is_model.Goes.{Quiet, quiet_done, quiet_wrote, quiet_then, quiet_need}
use Rattle.refinement.proofs.walk_is_model.Counters.{grown_is, nulls_added, nulls_other, rows_of_nulls, bytes_of_nulls, long_nulls}
use Rattle.model.proofs.Names.{counted}

-- ---- bits as numbers

flag_bit : (b : ℕ) → b < 2 → flag (eqb b 1) ≡ b
flag_bit zero h = refl
flag_bit (suc zero) h = refl
flag_bit (suc (suc b)) h = absurd (omega arith)

pub flags_append : (l k : List Bool) → map flag (l ++ k) ≡ map flag l ++ map flag k
flags_append [] k = refl
flags_append (b ∷ l) k = ap (λ r. flag b ∷ r) (flags_append l k)

pub flags_zeros : (l : List Bool) → Rattle.bits.specs.Bits.zeros (map flag l) ≡ zeros l
unfolding Rattle.bits.specs.Bits.zeros
flags_zeros [] = refl
flags_zeros (true ∷ l) = ap (λ z. 0 + z) (flags_zeros l)
flags_zeros (false ∷ l) = ap (λ z. 1 + z) (flags_zeros l)

pub flags_ones : (n a : ℕ) → map flag (seg (λ i. true) a n) ≡ replicate n 1
flags_ones zero a = refl
flags_ones (suc n) a = ap (λ r. 1 ∷ r) (flags_ones n (suc a))

pub flags_none : (n : ℕ) → map flag (replicate n false) ≡ replicate n 0
flags_none zero = refl
flags_none (suc n) = ap (λ r. 0 ∷ r) (flags_none n)

pub zeros_ones : (n a : ℕ) → zeros (seg (λ i. true) a n) ≡ 0
zeros_ones zero a = refl
zeros_ones (suc n) a = zero-add _ ∙ zeros_ones n (suc a)

pub zeros_few : (l : List Bool) → zeros l ≤ length l
zeros_few [] = omega arith
zeros_few (true ∷ l) = let h = zeros_few l in omega arith
zeros_few (false ∷ l) = let h = zeros_few l in omega arith

-- the bits of a buffer that lies in the body
pub bits_of : (s : List ℕ) (start size : ℕ) → start + size ≤ length s → (n a : ℕ) → a + n ≤ 8 * size
    → bits_at (8 * start + a) n s ≡ map flag (seg (bit (take size (drop start s))) a n)
unfolding bits_at
bits_of s start size h zero a p = refl
bits_of s start size h (suc n) a p =
    let q = 8 * start + a in
    let l : q < length (bits s) = rw length_bits (omega arith) in
    let v = valid_part s start size a 1 (omega arith) 0 (omega arith) in
    let b : get_or (bits s) q 0 < 2 = below_at_lem 2 (bits s) (omega arith) (below_bits s) q in
    let e : flag (bit (take size (drop start s)) a) ≡ get_or (bits s) q 0 = rw (add-zero a) at (ap flag v) ∙ flag_bit (get_or (bits s) q 0) b in
    ap (take (suc n)) (drop-cons (bits s) q 0 l)
    ∙ ap₂ (λ y r. y ∷ r) (sym e) (rw add-suc at (bits_of s start size h n (suc a) (omega arith)))

pub part_long : {body s : List ℕ} {at size : ℕ} → Part body at size s → length s ≡ size
part_long {body} {s} {at} {size} p = ap length p.bytes_are ∙ length-take-le size (drop at body) (rw length-drop (omega (arith, p.inside)))

-- ---- a node's validity is grown

pub record Masked (plan : List ℕ) (i : ℕ) (m : Bool) (b : Option (List Bool)) (count : ℕ) (c c' : List ℕ) (μ μ' : Memory) : Type 0 where
  pub long : length c' ≡ length c
  pub rows_same : (j : ℕ) → rows c' j ≡ rows c j
  pub bytes_same : (j : ℕ) → bytes c' j ≡ bytes c j
  pub nulls_own : nulls c' i ≡ count
  pub nulls_else : (j : ℕ) → (j ≡ i → ⊥) → nulls c' j ≡ nulls c j
  pub at_same : (j b : ℕ) → μ'.at j b ≡ μ.at j b
  pub bits_else : (j : ℕ) → (j ≡ i → ⊥) → μ'.bits j ≡ μ.bits j
  pub bits_are : HoldsBits plan i m b μ'

module _ (x : Join) (i : ℕ) (small : i < 32) (c : List ℕ) (long : length c ≡ 96) (μ : Memory) where
  -- bits behind those of node i, and so many nulls more
  grown_mask : (l vs : List Bool) (count n : ℕ) → (keeps_of x.plan i ≡ 0 → ⊥) → μ.bits i ≡ map flag l → nulls c i ≡ count → count + n ≤ top
      → (c' : List ℕ) → c' ≡ add_nulls i n c → Masked x.plan i true (some (l ++ vs)) (count + n) c c' μ (mask_in i (map flag vs) μ)
  grown_mask l vs count n k e z t c' q =
      record {
        long = ap length q ∙ long_nulls i n c;
        rows_same = λ j. ap (λ d. rows d j) q ∙ rows_of_nulls c i n j;
        bytes_same = λ j. ap (λ d. bytes d j) q ∙ bytes_of_nulls c i n j;
        nulls_own = ap (λ d. nulls d i) q ∙ nulls_added c long i small n ∙ grown_is (nulls c i) n (rw z t) ∙ ap (λ d. d + n) z;
        nulls_else = λ j h. ap (λ d. nulls d j) q ∙ nulls_other c i n j h;
        at_same = λ j b. refl;
        bits_else = λ j h. rw (ne_eqb j i h);
        bits_are = (k, rw (eq-eqb i i refl, e) (sym (flags_append l vs)));
      }

  same_mask : (m : Bool) (b : Option (List Bool)) (count : ℕ) → nulls c i ≡ count → HoldsBits x.plan i m b μ → Masked x.plan i m b count c c μ μ
  same_mask m b count z h =
      record {
        long = refl;
        rows_same = λ j. refl;
        bytes_same = λ j. refl;
        nulls_own = z;
        nulls_else = λ j h. refl;
        at_same = λ j b. refl;
        bits_else = λ j h. refl;
        bits_are = h;
      }

  -- bits behind those of node i, none of them a null
  ones_mask : (l vs : List Bool) (count : ℕ) → (keeps_of x.plan i ≡ 0 → ⊥) → μ.bits i ≡ map flag l → nulls c i ≡ count
      → Masked x.plan i true (some (l ++ vs)) count c c μ (mask_in i (map flag vs) μ)
  ones_mask l vs count k e z =
      record {
        long = refl;
        rows_same = λ j. refl;
        bytes_same = λ j. refl;
        nulls_own = z;
        nulls_else = λ j h. refl;
        at_same = λ j b. refl;
        bits_else = λ j h. rw (ne_eqb j i h);
        bits_are = (k, rw (eq-eqb i i refl, e) (sym (flags_append l vs)));
      }

  -- where the bits stand: as many as the rows
  placed : (l : List Bool) → μ.bits i ≡ map flag l → (len : ℕ) → length l ≡ len → rows c i ≡ len → rows c i ≡ length (μ.bits i)
  placed l e len h r = r ∙ sym (ap length e ∙ length-map l flag ∙ h)

  -- A COPY'S BITS: those of the source's slots, and their zeros counted
  pub copy_mask_lem : (valid : Option (List ℕ)) (b : Option (List Bool)) (len count slot n reach : ℕ) → LentValid x i valid → Mask true valid reach → slot + n ≤ reach
      → HoldsBits x.plan i true b μ → BitsFor true b len → rows c i ≡ len → nulls c i ≡ count → count + n ≤ top
      → Quiet μ (λ c' μ'. Masked x.plan i true (grow true (seg (ok valid) slot n) b) (count + counted b (zeros (seg (ok valid) slot n))) c c' μ μ') (copy_mask x i slot n c)
  unfolding copy_mask copy_bits
  copy_mask_lem valid none len count slot n reach v mk p h f r z t =
      rw (eq-eqb (keeps_of x.plan i) 0 h) (quiet_done c (same_mask true none (count + 0) (z ∙ sym (add-zero count)) h))
  copy_mask_lem none (some l) len count slot n reach v mk p h f r z t =
      let g = ones_mask l (seg (λ k. true) slot n) count h.0 h.1 z in
      rw (ne_eqb (keeps_of x.plan i) 0 h.0, v)
      (quiet_wrote (mask i (rows c i) (replicate n 1)) c (placed l h.1 len f r)
      (rw (zeros_ones n slot, add-zero count, ← flags_ones n slot) g))
  copy_mask_lem (some m) (some l) len count slot n reach v mk p h f r z t =
      let vs = seg (bit m) slot n in
      let at = place x i 1 in
      let size = place x i 2 in
      let w = v.1 in
      let e : bits_at (8 * at + slot) n x.body ≡ map flag vs
      = bits_of x.body at size w.inside n slot (bound w) ∙ ap (λ s. map flag (seg (bit s) slot n)) (sym w.bytes_are) in
      let zs : Rattle.bits.specs.Bits.zeros (bits_at (8 * at + slot) n x.body) ≡ zeros vs = ap Rattle.bits.specs.Bits.zeros e ∙ flags_zeros vs in
      let few : zeros vs ≤ n = subst (λ k. zeros vs ≤ k) (length_seg (bit m) slot n) (zeros_few vs) in
      rw (ne_eqb (keeps_of x.plan i) 0 h.0, v.0)
      (quiet_need _ 12 c (le-leb (8 * at + slot + n) (8 * length x.body) (omega (arith, bound w, w.inside)))
      (quiet_then _
      (quiet_wrote {Q = λ d ν. (d ≡ c) × (ν ≡ mask_in i (map flag vs) μ)} (mask i (rows c i) (bits_at (8 * at + slot) n x.body)) c (placed l h.1 len f r) (refl, rw e))
      (λ d ν q. quiet_done _ (rw (q.0, q.1, zs) (grown_mask l vs count (zeros vs) h.0 h.1 z (omega arith) _ refl)))))
    where
      bound : Part x.body (place x i 1) (place x i 2) m → slot + n ≤ 8 * place x i 2
      bound w = let e = part_long w in let r : reach ≤ 8 * length m = mk in omega arith

  -- NULLS: zero bits, all counted
  pub null_mask_lem : (b : Option (List Bool)) (len count n : ℕ) → HoldsBits x.plan i true b μ → BitsFor true b len → rows c i ≡ len → nulls c i ≡ count → count + n ≤ top
      → Quiet μ (λ c' μ'. Masked x.plan i true (grow true (replicate n false) b) (count + counted b n) c c' μ μ') (null_mask x i n c)
  unfolding null_mask
  null_mask_lem none len count n h f r z t = rw (eq-eqb (keeps_of x.plan i) 0 h) (quiet_done c (same_mask true none (count + 0) (z ∙ sym (add-zero count)) h))
  null_mask_lem (some l) len count n h f r z t =
      rw (ne_eqb (keeps_of x.plan i) 0 h.0)
      (quiet_then _
      (quiet_wrote {Q = λ d ν. (d ≡ c) × (ν ≡ mask_in i (map flag (replicate n false)) μ)} (mask i (rows c i) (replicate n 0)) c (placed l h.1 len f r) (refl, rw (flags_none n)))
      (λ d ν q. quiet_done _ (rw (q.0, q.1) (grown_mask l (replicate n false) count n h.0 h.1 z t _ refl))))

  -- .. at a union or run-end node, which has no bits
  pub count_nulls_lem : (b : Option (List Bool)) (count n : ℕ) → HoldsBits x.plan i false b μ → nulls c i ≡ count → count + n ≤ top
      → Quiet μ (λ c' μ'. Masked x.plan i false (grow false (replicate n false) b) (count + counted b n) c c' μ μ') (count_nulls x i n c)
  unfolding count_nulls
  count_nulls_lem none count n h z t = rw (eq-eqb (keeps_of x.plan i) 0 h) (quiet_done c (same_mask false none (count + 0) (z ∙ sym (add-zero count)) h))
  count_nulls_lem (some l) count n h z t =
      rw (ne_eqb (keeps_of x.plan i) 0 h)
      (quiet_done (add_nulls i n c)
      (record {
        long = long_nulls i n c;
        rows_same = λ j. rows_of_nulls c i n j;
        bytes_same = λ j. bytes_of_nulls c i n j;
        nulls_own = nulls_added c long i small n ∙ grown_is (nulls c i) n (rw z t) ∙ ap (λ d. d + n) z;
        nulls_else = λ j g. nulls_other c i n j g;
        at_same = λ j e. refl;
        bits_else = λ j g. refl;
        bits_are = h;
      }))

  -- A COPY at a union or run-end node: nothing, since the source has no validity there
  pub copy_none : (valid : Option (List ℕ)) (b : Option (List Bool)) (count slot n reach : ℕ) → Mask false valid reach → HoldsBits x.plan i false b μ → nulls c i ≡ count
      → Quiet μ (λ c' μ'. Masked x.plan i false (grow false (seg (ok valid) slot n) b) (count + counted b (zeros (seg (ok valid) slot n))) c c' μ μ') (done c)
  copy_none none none count slot n reach mk h z = quiet_done c (same_mask false none (count + 0) (z ∙ sym (add-zero count)) h)
  copy_none none (some l) count slot n reach mk h z = quiet_done c (rw (zeros_ones n slot) (same_mask false (some l) (count + 0) (z ∙ sym (add-zero count)) h))
  copy_none (some m) b count slot n reach mk h z = absurd mk
