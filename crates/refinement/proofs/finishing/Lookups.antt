-- What the finished tables say of one node: its numbers are looked up, and its buffers lie in the room or in the sources' body.
-- Assumes nothing.
use mathlib.Core.Path.{◌≡◌, refl, sym, ap, ◌∙◌}
use mathlib.Core.Bool.{Bool, true, false}
use mathlib.Core.Option.{Option, none, some}
use mathlib.Core.List.{List, [], ◌∷◌, map}
use Prim.Native.Nat.{ℕ, zero, suc, ◌+◌, ◌*◌, ◌/◌, ◌%◌, ◌≤◌, ◌<◌}
use native.Mathlib.Nat.{zero-add}
use native.Mathlib.Omega.{arith}
use lib.ListN.{length, take, drop, get_or, length-take}
use lib.Seq.{drop-drop, ext_get_or}
use Rattle.bits.proofs.Laws.{take_mid}
use Rattle.columnar.specs.Row.{seg}
use Rattle.columnar.specs.Array.{ok, nulls_in}
use Rattle.array_data.specs.Tables.{Tables, part, length_of, offset_of, place}
use Rattle.model.specs.Mutable.{zeros, validity}
use Rattle.model.proofs.Law.{BitsFor}
use Rattle.model.proofs.Bits.{length_seg, get_d_seg, zeros_seg}
use Rattle.model.proofs.Node.{valid_bit_lem}
use Rattle.refinement.specs.walk_is_model.Holds.{flag}
use Rattle.plan.specs.parts.Parts.{nodes_of}
use Rattle.refinement.specs.orders.Order.{Lent}
use Rattle.refinement.specs.finishing.Finish.{nulls_at, length_at, offset_at, place_at, length_table, null_table, place_table}
use Rattle.refinement.specs.finishing.Shows.{finished_tables, Bodied}

-- ---- lists

-- a stretch of a list that another begins with
front_part : (r s : List ℕ) → take (length r) s ≡ r → (at size : ℕ) → at + size ≤ length r → part s at size ≡ part r at size
front_part r s e at size l = sym (take_mid at size (length r) s l long) ∙ ap (λ z. part z at size) e
  where
    long : length r ≤ length s
    long = let a : length (take (length r) s) ≡ length r = ap length e in omega (arith, length-take (length r) s)

entry : (f : ℕ → ℕ) (n q : ℕ) → q < n → get_or (seg f 0 n) q 0 ≡ f q
entry f n q l = get_d_seg f 0 n q 0 l ∙ ap f (zero-add q)

pub flag_zeros : (l : List Bool) → Rattle.bits.specs.Bits.zeros (map flag l) ≡ zeros l
unfolding Rattle.bits.specs.Bits.zeros
flag_zeros [] = refl
flag_zeros (true ∷ l) = ap (λ z. 0 + z) (flag_zeros l)
flag_zeros (false ∷ l) = ap (λ z. 1 + z) (flag_zeros l)

-- ---- zero bits of a finished node

-- how many of a node's bits are 0
abbrev pub zeros_of : Bool → Option (List Bool) → ℕ
zeros_of masks none = 0
zeros_of false (some l) = 0
zeros_of true (some l) = zeros l

no_nulls : (a n : ℕ) → nulls_in (λ i. true) a n ≡ 0
no_nulls a zero = refl
no_nulls a (suc n) = rw (no_nulls (suc a) n)

pub nulls_zeros : (masks : Bool) (b : Option (List Bool)) (n : ℕ) → BitsFor masks b n → nulls_in (ok (validity masks b)) 0 n ≡ zeros_of masks b
nulls_zeros masks none n h = no_nulls 0 n
nulls_zeros false (some l) n h = no_nulls 0 n
nulls_zeros true (some l) n h = sym (zeros_seg f 0 n) ∙ ap zeros same
  where
    f : ℕ → Bool
    f = ok (validity true (some l))

    same : seg f 0 n ≡ l
    same =
        ext_get_or false (seg f 0 n) l (length_seg f 0 n ∙ sym h)
        (λ k q. let u : k < n = omega (arith, length_seg f 0 n) in
        get_d_seg f 0 n k false u ∙ ap f (zero-add k) ∙ valid_bit_lem true (some l) n k h u)

module _ (x : Lent) (buffers counters room : List ℕ) (base : ℕ) (body : List ℕ) where
  abbrev Y : Tables
  Y = finished_tables x buffers counters room base body

  -- ---- the numbers of node i

  module _ (i : ℕ) (l : i < nodes_of x.plan) where
    pub length_at_lem : length_of Y i ≡ length_at x buffers counters room base i
    unfolding length_table
    length_at_lem =
        let q : 2 * i % 2 ≡ 0 = omega arith in
        let r : 2 * i / 2 ≡ i = omega arith in
        entry _ (2 * nodes_of x.plan) (2 * i) (omega arith) ∙ rw (q, r)

    pub offset_at_lem : offset_of Y i ≡ offset_at x buffers counters room base i
    unfolding length_table
    offset_at_lem =
        let q : (2 * i + 1) % 2 ≡ 1 = omega arith in
        let r : (2 * i + 1) / 2 ≡ i = omega arith in
        entry _ (2 * nodes_of x.plan) (2 * i + 1) (omega arith) ∙ rw (q, r)

    pub place_at_lem : (j : ℕ) → j < 9 → place Y i j ≡ place_at x buffers counters room base i j
    unfolding place_table
    place_at_lem j k =
        let q : (9 * i + j) % 9 ≡ j = omega arith in
        let r : (9 * i + j) / 9 ≡ i = omega arith in
        entry _ (9 * nodes_of x.plan) (9 * i + j) (omega arith) ∙ rw (q, r)

    pub null_at : get_or (null_table x buffers counters room base) i 0 ≡ nulls_at x buffers counters room base i
    unfolding null_table
    null_at = entry _ (nodes_of x.plan) i l

  -- ---- the two bodies

  module _ (bodied : Bodied body x room base) where
    pub source_part : (at size : ℕ) → at + size ≤ length x.body → part body at size ≡ part x.body at size
    source_part = front_part x.body body bodied.front

    pub room_part : (at size : ℕ) → at + size ≤ length room → part body (base + at) size ≡ part room at size
    room_part at size l = ap (take size) (sym (drop-drop at base body)) ∙ front_part room (drop base body) bodied.behind at size l
