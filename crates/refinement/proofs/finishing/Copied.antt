-- A node whose buffers are copied, in the finished tables: they have the room's bytes, and those are the model's. Assumes nothing.
use mathlib.Core.Path.{◌≡◌, refl, sym, ap, ◌∙◌}
use mathlib.Core.Bool.{Bool, true, false, not, cond, ◌&&◌}
use mathlib.Core.Option.{Option, none, some}
use mathlib.Core.List.{List, [], map}
use Prim.Native.Nat.{ℕ, zero, suc, ◌+◌, ◌/◌, ◌<◌}
use native.Mathlib.Omega.{arith}
use lib.ListN.{length, get_or, length-map, get_or-eq_default}
use lib.Dec.{ltb, eqb}
use borrow.Author.Tests.{ltb-true, ltb-false, eq-eqb, ne_eqb}
use Rattle.columnar.specs.Array.{ok, nulls_in}
use Rattle.array_data.specs.Tables.{Tables, part, length_of, offset_of, place, valid_of, first_buffer, second_buffer}
use Rattle.model.specs.Mutable.{Mutable, zeros, pack, validity, freeze_node}
use Rattle.model.proofs.Law.{BitsFor}
use Rattle.walk.specs.State.{code_of, keeps_of, rows}
use Rattle.walk.specs.Log.{start_of}
use Rattle.refinement.specs.walk_is_model.Memory.{Memory}
use Rattle.refinement.specs.walk_is_model.Holds.{flag, HoldsBits}
use Rattle.refinement.specs.log_in_room.Room.{Placed, Lies, Fits}
use Rattle.refinement.proofs.log_in_room.Packed.{lies_pack}
use Rattle.plan.specs.parts.Parts.{nodes_of, buffer_count, copied, validity_parts, buffer_parts, has_part, needed, Used}
use Rattle.refinement.specs.orders.Order.{Lent}
use Rattle.refinement.proofs.orders.Buffers.{bits_copied}
use Rattle.refinement.proofs.orders.Own.{Bounded, Own}
use Rattle.refinement.specs.finishing.Finish.{zeros_at, nulls_at, buffer_start, buffer_size, copied_place, place_at, null_table}
use Rattle.refinement.specs.finishing.Shows.{finished_tables, Bodied, ShowsNode, CountsNode}
use Rattle.refinement.proofs.finishing.Lookups.{flag_zeros, zeros_of, nulls_zeros, length_at_lem, offset_at_lem, place_at_lem, null_at, room_part}

-- ---- which buffers of a copied node have a part

module _ (plan : List ℕ) (i : ℕ) (c : copied plan i ≡ true) where
  buffer_in : (k : ℕ) → has_part plan i (suc k) ≡ ltb k (buffer_count (code_of plan i))
  unfolding has_part buffer_parts
  buffer_in k = rw c

  no_bits : keeps_of plan i ≡ 0 → has_part plan i 0 ≡ false
  unfolding has_part validity_parts
  no_bits e = rw (c, eq-eqb (keeps_of plan i) 0 e)

  no_mask_lem : ltb (code_of plan i) 21 ≡ false → has_part plan i 0 ≡ false
  unfolding has_part validity_parts
  no_mask_lem e = rw (c, e) (go (not (eqb (keeps_of plan i) 0)))
    where
      go : (b : Bool) → eqb (cond (b && false) 1 0) 1 ≡ false
      go true = refl
      go false = refl

module _ (x : Lent) (buffers counters room : List ℕ) (base : ℕ) (body : List ℕ) (bodied : Bodied body x room base) (μ : Memory)
    (lies : Lies x.plan x.parts (Used x.plan) room μ) (placed : Placed x.plan x.parts (Used x.plan) (length room))
    (bounded : (i b : ℕ) → Used x.plan i b → Bounded x.plan x.parts counters μ i b)
    (i : ℕ) (l : i < nodes_of x.plan) (c : copied x.plan i ≡ true) where
  abbrev Y : Tables
  Y = finished_tables x buffers counters room base body

  used : (b : ℕ) → has_part x.plan i b ≡ true → Used x.plan i b
  used b h = record { node = l; part = h }

  -- ---- its numbers

  len_is : length_of Y i ≡ rows counters i
  len_is = length_at_lem x buffers counters room base body i l ∙ rw c

  off_is : offset_of Y i ≡ 0
  off_is = offset_at_lem x buffers counters room base body i l ∙ rw c

  place_is : (j : ℕ) → j < 9 → place Y i j ≡ copied_place x buffers counters room base i j
  unfolding place_at
  place_is j k = place_at_lem x buffers counters room base body i l j k ∙ rw c

  -- ---- its buffers

  module _ (bs : List (List ℕ)) (own : Own x.plan x.parts counters μ i bs) where
    buffer_is : (k : ℕ) → part body (buffer_start x buffers counters room base i (suc k)) (buffer_size x buffers counters room base i (suc k)) ≡ get_or bs k []
    buffer_is k = go (has_part x.plan i (suc k)) refl
      where
        count : has_part x.plan i (suc k) ≡ ltb k (length bs)
        count = buffer_in x.plan i c k ∙ ap (ltb k) own.count_is

        go : (b : Bool) → has_part x.plan i (suc k) ≡ b
            → part body (cond b (base + start_of x.plan x.parts i (suc k)) 0) (cond b (needed x.plan counters i (suc k)) 0) ≡ get_or bs k []
        go true e =
            let q : k < length bs = ltb-true k (length bs) (sym count ∙ e) in
            let u = used (suc k) e in
            let n = own.needs_are k q in
            let a = own.lie k q in
            let g = rw a at (lies.bytes_lie i (suc k) u (omega arith)) in
            ap (part body (base + start_of x.plan x.parts i (suc k))) n
            ∙ room_part x buffers counters room base body bodied (start_of x.plan x.parts i (suc k)) (length (get_or bs k [])) (omega (arith, placed.inside i (suc k) u, (bounded i (suc k) u).needs))
            ∙ g
        go false e = sym (get_or-eq_default bs [] (ltb-false k (length bs) (sym count ∙ e)))

    pub first_is : first_buffer Y i ≡ get_or bs 0 []
    unfolding copied_place
    first_is = rw (place_is 3 (omega arith), place_is 4 (omega arith)) (buffer_is 0)

    pub second_is : second_buffer Y i ≡ get_or bs 1 []
    unfolding copied_place
    second_is = rw (place_is 5 (omega arith), place_is 6 (omega arith)) (buffer_is 1)

  -- ---- its validity

  module _ (n : ℕ) (rows_are : rows counters i ≡ n) where
    fitting : Fits x.plan x.parts (Used x.plan) μ
    fitting = record { bytes_fit = λ i b u p. (bounded i b u).bytes_in_lem p; bits_fit = λ i u. (bounded i 0 u).bits_in_lem refl }

    none_at : has_part x.plan i 0 ≡ false → zeros_at x buffers counters room base i ≡ 0
    unfolding zeros_at
    none_at e = rw e

    zeros_at_lem : (w : Bool) → w ≡ ltb (code_of x.plan i) 21 → (b : Option (List Bool)) → BitsFor w b n → HoldsBits x.plan i w b μ → zeros_at x buffers counters room base i ≡ zeros_of w b
    unfolding zeros_at
    zeros_at_lem w e none f h = none_at (no_bits x.plan i c h)
    zeros_at_lem false e (some s) f h = none_at (no_mask_lem x.plan i c (sym e))
    zeros_at_lem true e (some s) f h =
        let p = bits_copied x.plan i c h.0 (ltb-true (code_of x.plan i) 21 (sym e)) in
        let g = rw h.1 at (lies.bits_lie i (used 0 p)).run in
        let k : rows counters i ≡ length (map flag s) = rows_are ∙ sym f ∙ sym (length-map s flag) in
        rw (p, k, g) (flag_zeros s)

    valid_zero : zeros_at x buffers counters room base i ≡ 0 → valid_of Y i ≡ none
    unfolding copied_place
    valid_zero e = let p : place Y i 0 ≡ 0 = place_is 0 (omega arith) ∙ rw e in rw p

    valid_some : (z : ℕ) → zeros_at x buffers counters room base i ≡ suc z → valid_of Y i ≡ some (part body (base + start_of x.plan x.parts i 0) ((rows counters i + 7) / 8))
    unfolding copied_place
    valid_some z e =
        let t = ne_eqb (zeros_at x buffers counters room base i) 0 (λ q. omega (arith, q, e)) in
        let p : place Y i 0 ≡ 1 = place_is 0 (omega arith) ∙ rw t in
        let q : place Y i 1 ≡ base + start_of x.plan x.parts i 0 = place_is 1 (omega arith) ∙ rw t in
        let r : place Y i 2 ≡ (rows counters i + 7) / 8 = place_is 2 (omega arith) ∙ rw t in
        rw (p, q, r)

    valid_at_lem : (w : Bool) → w ≡ ltb (code_of x.plan i) 21 → (b : Option (List Bool)) → BitsFor w b n → HoldsBits x.plan i w b μ → valid_of Y i ≡ validity w b
    valid_at_lem w e none f h = valid_zero (zeros_at_lem w e none f h)
    valid_at_lem false e (some s) f h = valid_zero (zeros_at_lem false e (some s) f h)
    valid_at_lem true e (some s) f h = go (zeros s) refl
      where
        p : has_part x.plan i 0 ≡ true
        p = bits_copied x.plan i c h.0 (ltb-true (code_of x.plan i) 21 (sym e))

        go : (z : ℕ) → zeros s ≡ z → valid_of Y i ≡ elim z [ zero ↦ none | suc n ↦ some (pack s) ]
        go zero q = valid_zero (zeros_at_lem true e (some s) f h ∙ q)
        go (suc z) q =
            let u = used 0 p in
            let r : rows counters i ≡ length s = rows_are ∙ sym f in
            let y = (bounded i 0 u).needs in
            valid_some z (zeros_at_lem true e (some s) f h ∙ q)
            ∙ ap some
            (room_part x buffers counters room base body bodied (start_of x.plan x.parts i 0) ((rows counters i + 7) / 8) (omega (arith, placed.inside i 0 u, y))
            ∙ ap (λ k. part room (start_of x.plan x.parts i 0) ((k + 7) / 8)) r
            ∙ lies_pack x.plan x.parts (Used x.plan) room μ placed lies fitting i u s h.1)

    nulls_at_lem : (w : Bool) → w ≡ ltb (code_of x.plan i) 21 → (b : Option (List Bool)) → BitsFor w b n → HoldsBits x.plan i w b μ → get_or (null_table x buffers counters room base) i 0 ≡ nulls_in (ok (validity w b)) 0 n
    unfolding nulls_at
    nulls_at_lem w e b f h = null_at x buffers counters room base body i l ∙ rw c (zeros_at_lem w e b f h ∙ sym (nulls_zeros w b n f))

  -- ---- A COPIED NODE is the model's finished one

  module _ {P D : Type 0} (d : Mutable D) (masks : Bool) (code : masks ≡ ltb (code_of x.plan i) 21) (rows_are : rows counters i ≡ d.len)
      (f : BitsFor masks d.bits d.len) (h : HoldsBits x.plan i masks d.bits μ) (freeze : D → P) where
    pub node_shows : (inner : P → Type 0) → inner (freeze d.«data») → ShowsNode Y i inner (freeze_node masks freeze d)
    node_shows inner b =
        record { len_is = len_is ∙ rows_are; off_is = off_is; valid_is = valid_at_lem d.len rows_are masks code d.bits f h; body_is = b }

    pub node_counters : (inner : P → Type 0) → inner (freeze d.«data») → CountsNode (null_table x buffers counters room base) i inner (freeze_node masks freeze d)
    node_counters inner b = record { count_is = nulls_at_lem d.len rows_are masks code d.bits f h; below = b }
