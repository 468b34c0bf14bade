-- A copy of a list of numbers, by the ways that the code goes: tried from counters whose nulls are full, and made from those that are lent. Assumes nothing.
use mathlib.Core.Path.{◌≡◌, refl, sym, ap, ◌∙◌}
use mathlib.Core.Bool.{Bool, true, false, not, cond}
use mathlib.Core.List.{List, [], ◌∷◌}
use Prim.Native.Nat.{ℕ, suc, ◌+◌, ◌*◌, ◌-◌, ◌≤◌, ◌<◌}
use native.Mathlib.Omega.{arith}
use lib.ListN.{length, replicate, length-set}
use lib.Seq.{get_or-set_same, get_or-set_other}
use lib.Dec.{leb, eqb}
use borrow.Author.Tests.{lt-ltb, le-leb}
use Rattle.bits.specs.Bits.{bits_at, zeros}
use Rattle.utils.specs.Offsets.{moved_offsets}
use Rattle.utils.specs.Extension.{extended}
use Rattle.utils.specs.declared.Extended.{Extended}
use Rattle.utils.specs.declared.Extended.TheVariants.{Fits, Over, Falls}
use Rattle.room_writes.proofs.Bytes.{width_in_lem}
use Rattle.leaf_walk.proofs.Widths.{lists_width}
use Rattle.walk.specs.State.{Join, code_of, bytes_of, keeps_of, rows, nulls, grown, scaled, add_rows, add_nulls, place, slot_of, rows_in, far, top}
use Rattle.walk.specs.Log.{Entry, put, mask, Out, Did, apply_if, need, next, wrote, done, fail}
use Rattle.walk.specs.Leaves.{copy_bits, copy_mask}
use Rattle.walk.specs.Copy.{masked, copy_data, copy_list, copy_walk}
use Rattle.leaf_walk.specs.Join.{join}
use Rattle.leaf_walk.specs.variable_size.Lists.{tried_offsets}
use Rattle.leaf_walk.proofs.variable_size.Lists.{offsets_out, offsets_in, offsets_put}
use Rattle.nested_rows.proofs.node_data.Laws.{valid_some}
use Rattle.extend.proofs.Laws.{at_far, at_valid, at_data, at_done}
use Rattle.extend.proofs.Listed.{to_list_lem, lists_over, lists_fall, lists_go}
use Rattle.plan.specs.parts.Parts.{entry_size, parts_within, parts_hold}
use Rattle.sound.specs.trying.Alike.{Alike}
use Rattle.sound.proofs.trying.Laws.{alike_refl}
use Rattle.sound.proofs.trying.Near.{near_copy}
use Rattle.refinement.specs.orders.Order.{settled}
use Rattle.transform.specs.Answer.{lent, Answers}
use Rattle.transform.specs.leaf_rows.Leaf.{bits_in}
use Rattle.transform.proofs.Laws.{settled_no, settled_parts, settled_made}
use Rattle.transform.proofs.leaf_counters.Laws.{full, full_alike, full_top}
use Rattle.transform.proofs.leaf_rows.Laws.{dry_mask, mask_no}
use Rattle.transform.proofs.leaf_rows.Entries.{Entries, entries_are, entries_dry, entries_out}
use Rattle.transform.proofs.numbers.Laws.{fixed_low, no_offsets}
use Rattle.transform.proofs.null_ways.Laws.{NumbersAt, Lists, list_code}

-- the widths of a list's offsets
pub offset_wide : (plan : List ℕ) → Lists plan → {w : ℕ} → w ≡ bytes_of plan 0 → ((1 ≤ w) × (w ≤ 16)) × ((w ≡ 4 → ⊥) → w ≡ 8)
offset_wide plan o {w} e =
    let wide : (w ≡ 4 → ⊥) → w ≡ 8 = λ f. e ∙ lists_width (code_of plan 0) o.code (λ z. f (e ∙ z)) in
    (width_in_lem w (λ p q. wide), wide)

-- validity leaves rows and bytes
pub bits_alike : (x : Join) (i slot n : ℕ) (c : List ℕ) → Alike (copy_mask x i slot n c).counters c
unfolding copy_mask copy_bits need next wrote done fail
bits_alike x i slot n c =
    go (eqb (keeps_of x.plan i) 0) (eqb (place x i 0) 0) (leb (8 * place x i 1 + slot + n) (8 * length x.body)) (mask i (rows c i) (replicate n 1)) (mask i (rows c i) (bits_at (8 * place x i 1 + slot) n x.body)) (zeros (bits_at (8 * place x i 1 + slot) n x.body))
  where
    go : (t u v : Bool) (e f : Entry) (z : ℕ) → Alike (cond t (done c) (cond u (wrote e c) (need v 12 c (next (wrote f c) (λ c2. done (add_nulls i z c2)))))).counters c
    go true u v e f z = alike_refl c
    go false true v e f z = alike_refl c
    go false false true e f z =
        record {
          size = length-set c (3 * i + 1) (grown (nulls c i) z);
          rows_same = λ j. get_or-set_other c (3 * i + 1) (3 * j) (grown (nulls c i) z) 0 (λ (q : 3 * j ≡ 3 * i + 1). omega arith);
          bytes_same = λ j. get_or-set_other c (3 * i + 1) (3 * j + 2) (grown (nulls c i) z) 0 (λ (q : 3 * j + 2 ≡ 3 * i + 1). omega arith);
        }
    go false false false e f z = alike_refl c

-- .. as the code leaves them
pub bits_left : (x : Join) (i slot n : ℕ) (c : List ℕ) {wr : Bool} {g : ℕ} {c1 room room1 : List ℕ} → Did x.plan x.parts wr (copy_mask x i slot n c) room g c1 room1
    → (length c1 ≡ length c) × ((j : ℕ) → rows c1 j ≡ rows c j)
bits_left x i slot n c d =
    (ap length d.counters ∙ (bits_alike x i slot n c).size, λ j. ap (λ l. rows l j) d.counters ∙ (bits_alike x i slot n c).rows_same j)

-- ---- the items

module _ (x : Join) (lead k : ℕ) (c room : List ℕ) (f : NumbersAt x.plan 1) {inner : ℕ} (s : inner ≡ slot_of x 1 lead k) where
  low : (1 ≤ code_of x.plan 1) × (code_of x.plan 1 ≤ 10)
  low = fixed_low (code_of x.plan 1) f.fixed

  item_masks : masked (code_of x.plan 1) ≡ true
  item_masks = lt-ltb (code_of x.plan 1) 21 (omega (arith, low.1))

  items_far : far ≤ inner → Did x.plan x.parts false (copy_walk x 7 1 lead k c) room 12 c room
  items_far h = at_far x false 7 1 lead k c room (λ z. omega arith) (omega arith) s h

  module _ (l : inner < far) where
    items_bits : bits_in x 1 inner k ≡ false → Did x.plan x.parts false (copy_walk x 7 1 lead k c) room 12 c room
    items_bits h =
        at_valid x false 7 1 lead k c room (λ z. omega arith) (omega arith) s l (valid_some x false 1 inner k c room refl refl (ap not item_masks) (mask_no x 1 inner k c room h)) (λ z. omega arith)

    module _ (bits : bits_in x 1 inner k ≡ true) (t : nulls c 1 ≡ top) where
      abbrev valid : Did x.plan x.parts false (cond (masked (code_of x.plan 1)) (copy_mask x 1 inner k c) (done c)) room 0 c room
      valid = valid_some x false 1 inner k c room refl refl (ap not item_masks) (dry_mask x 1 inner k c room bits t)

      entries : Entries x (copy_walk x 6) 1 inner k c
      entries = entries_are x (copy_walk x 6) 1 inner k c low.0 (omega (arith, low.1)) (no_offsets (code_of x.plan 1) f.fixed).0

      items_out : rows_in x (place x 1 3) (entry_size (code_of x.plan 1)) inner k ≡ false → Did x.plan x.parts false (copy_walk x 7 1 lead k c) room 12 c room
      items_out h = at_data x false 7 1 lead k c room (λ z. omega arith) (omega arith) s l valid refl (entries_out x (copy_walk x 6) 1 inner k c room entries h) (λ z. omega arith)

      items_dry : rows_in x (place x 1 3) (entry_size (code_of x.plan 1)) inner k ≡ true → Did x.plan x.parts false (copy_walk x 7 1 lead k c) room 0 (add_rows 1 k c) room
      items_dry h = at_done x false 7 1 lead k c room (λ z. omega arith) (omega arith) s l valid refl (entries_dry x (copy_walk x 6) 1 inner k c room entries h) refl refl

    -- as the code writes them
    pub items_made : {c1 room1 room2 c2 : List ℕ} → Did x.plan x.parts true (copy_mask x 1 inner k c) room 0 c1 room1
        → Did x.plan x.parts true (copy_data x (copy_walk x 6) (code_of x.plan 1) 1 inner k c1) room1 0 c1 room2 → c2 ≡ add_rows 1 k c1
        → Did x.plan x.parts true (copy_walk x 7 1 lead k c) room 0 c2 room2
    items_made v d e = at_done x true 7 1 lead k c room (λ z. omega arith) (omega arith) s l (valid_some x true 1 inner k c room refl refl (ap not item_masks) v) refl d refl e

-- items that lie in the body
pub items_within : (x : Join) (inner k : ℕ) {v : ℕ} → v ≡ entry_size (code_of x.plan 1) → place x 1 3 + v * (inner + k) ≤ length x.body
    → rows_in x (place x 1 3) (entry_size (code_of x.plan 1)) inner k ≡ true
unfolding rows_in
items_within x inner k {v} e h = ap (λ (y : ℕ). leb (place x 1 3 + y * (inner + k)) (length x.body)) (sym e) ∙ le-leb (place x 1 3 + v * (inner + k)) (length x.body) h

-- ---- the list

module _ (x : Join) (wr : Bool) (start n : ℕ) (c room : List ℕ) (o : Lists x.plan) {slot : ℕ} (s : slot ≡ slot_of x 0 start n) (l : slot < far) {w : ℕ} (e : w ≡ bytes_of x.plan 0)
    {c1 room1 : List ℕ} (v : Did x.plan x.parts wr (copy_mask x 0 slot n c) room 0 c1 room1) where
  list_masks : masked (code_of x.plan 0) ≡ true
  list_masks = lt-ltb (code_of x.plan 0) 21 (omega (arith, (list_code x.plan o).1))

  abbrev list_valid : Did x.plan x.parts wr (cond (masked (code_of x.plan 0)) (copy_mask x 0 slot n c) (done c)) room 0 c1 room1
  list_valid = valid_some x wr 0 slot n c room refl refl (ap not list_masks) v

  list_stop : {g : ℕ} {c2 room2 : List ℕ} → Did x.plan x.parts wr (copy_list x (copy_walk x 7) w 0 slot n c1) room1 g c2 room2 → (g ≡ 0 → ⊥)
      → Did x.plan x.parts wr (copy_walk x 8 0 start n c) room g c2 room2
  list_stop d z = at_data x wr 8 0 start n c room (λ q. omega arith) (omega arith) s l list_valid refl (to_list_lem x (copy_walk x 7) wr 0 slot n c1 room1 refl refl e o.code d) z

  list_done : {c2 room2 c3 : List ℕ} → Did x.plan x.parts wr (copy_list x (copy_walk x 7) w 0 slot n c1) room1 0 c2 room2 → c3 ≡ add_rows 0 n c2
      → Did x.plan x.parts wr (copy_walk x 8 0 start n c) room 0 c3 room2
  list_done d k = at_done x wr 8 0 start n c room (λ q. omega arith) (omega arith) s l list_valid refl (to_list_lem x (copy_walk x 7) wr 0 slot n c1 room1 refl refl e o.code d) refl k

-- its offsets stand in the body and fit: they reach the items from `lead` on
module _ (x : Join) (slot n w : ℕ) (c : List ℕ) {from last lead : ℕ} (q : from ≡ place x 0 3 + w * slot) (h : from + w * (n + 1) ≤ length x.body)
    (f : extended w x.body from n (rows c 1) ≡ Fits last lead) where
  inside : true ≡ rows_in x (place x 0 3) w slot (n + 1)
  unfolding rows_in
  inside =
      let l : place x 0 3 + w * (slot + (n + 1)) ≤ length x.body = omega (arith, q, h) in
      sym (le-leb (place x 0 3 + w * (slot + (n + 1))) (length x.body) l)

  reached : (d : List ℕ) → rows d 1 ≡ rows c 1 → Fits last lead ≡ tried_offsets x w 0 slot n d
  reached d r = offsets_in x w 0 slot n d refl inside refl refl (sym r) (sym (rw q at f))

  -- AS THE CODE WRITES THEM
  pub rows_made : (start : ℕ) (room : List ℕ) → Lists x.plan → (n ≡ 0 → ⊥) → slot ≡ slot_of x 0 start n → slot < far → w ≡ bytes_of x.plan 0 → 1 ≤ w → {c1 room1 room2 c2 room3 c3 : List ℕ} {old p r o k : ℕ}
      → Did x.plan x.parts true (copy_mask x 0 slot n c) room 0 c1 room1 → old ≡ rows c 1 → p ≡ rows c1 0 → r ≡ grown p 1 → o ≡ scaled r w → length room1 < top
      → room2 ≡ apply_if x.plan x.parts true (put 0 1 o (moved_offsets w x.body from old n) ∷ []) room1 → k ≡ last - rows c 1
      → Did x.plan x.parts true (copy_walk x 7 1 lead k c1) room2 0 c2 room3 → c3 ≡ add_rows 0 n c2 → Did x.plan x.parts true (copy_walk x 8 0 start n c) room 0 c3 room3
  rows_made start room lists some s l e wide {c1} {room1} {old = old} v eo ep er es z g t d k =
      let same = (bits_left x 0 slot n c v).1 1 in
      let here = eo ∙ sym same in
      list_done x true start n c room lists s l e v
      (lists_go x (copy_walk x 7) true w 0 slot n c1 room1 some refl (omega arith) (reached c1 same)
      (offsets_put x w 0 slot n c1 refl inside true room1 refl here ep er es wide z (rw q at g)) refl here (rw (t ∙ ap (λ (y : ℕ). last - y) (sym eo)) at d))
      k

-- ---- the order

module _ (plan parts sources lengths places body : List ℕ) (first source start n : ℕ) (c room : List ℕ) (o : Lists plan) where
  abbrev x : Join
  x = join plan parts lengths places body first source

  abbrev walk : List ℕ → Out
  walk d = copy_walk x 8 0 start n d

  abbrev Settled : ℕ → List ℕ → List ℕ → Type 0
  Settled g c2 room2 = Answers (settled (lent plan parts sources lengths places body) c room (walk c)) g c2 room2

  module _ {slot : ℕ} (s : slot ≡ slot_of x 0 start n) where
    pub rows_far : far ≤ slot → Settled 12 c room
    rows_far h =
        settled_no (lent plan parts sources lengths places body) c room walk (near_copy x 8 0 start n (alike_refl c))
        (at_far x false 8 0 start n c room (λ z. omega arith) (omega arith) s h) (λ z. omega arith)

    module _ (l : slot < far) where
      masks : masked (code_of plan 0) ≡ true
      masks = lt-ltb (code_of plan 0) 21 (omega (arith, (list_code plan o).1))

      pub rows_bits : bits_in x 0 slot n ≡ false → Settled 12 c room
      rows_bits h =
          settled_no (lent plan parts sources lengths places body) c room walk (near_copy x 8 0 start n (alike_refl c))
          (at_valid x false 8 0 start n c room (λ z. omega arith) (omega arith) s l (valid_some x false 0 slot n c room refl refl (ap not masks) (mask_no x 0 slot n c room h)) (λ z. omega arith))
          (λ z. omega arith)

      module _ (bits : bits_in x 0 slot n ≡ true) (some : n ≡ 0 → ⊥) (size : length c ≡ 96) {w : ℕ} (e : w ≡ bytes_of plan 0) where
        -- the nulls of both nodes full
        abbrev filled : List ℕ
        filled = full 1 (full 0 c)

        filled_alike : Alike filled c
        filled_alike =
            let a = full_alike 1 (full 0 c) in
            let b = full_alike 0 c in
            record { size = a.size ∙ b.size; rows_same = λ j. a.rows_same j ∙ b.rows_same j; bytes_same = λ j. a.bytes_same j ∙ b.bytes_same j }

        root_top : nulls filled 0 ≡ top
        root_top = get_or-set_other (full 0 c) 4 1 top 0 (λ (q : 1 ≡ 4). omega arith) ∙ full_top 0 c (omega arith) size

        items_top : nulls filled 1 ≡ top
        items_top = full_top 1 (full 0 c) (omega arith) ((full_alike 0 c).size ∙ size)

        root_dry : Did plan parts false (copy_mask x 0 slot n filled) room 0 filled room
        root_dry = dry_mask x 0 slot n filled room bits root_top

        refuse : {g : ℕ} {c2 : List ℕ} → Did plan parts false (copy_list x (copy_walk x 7) w 0 slot n filled) room g c2 room → (g ≡ 0 → ⊥) → Settled g c room
        refuse d z =
            settled_no (lent plan parts sources lengths places body) c room walk (near_copy x 8 0 start n filled_alike) (list_stop x false start n filled room o s l e root_dry d z) z

        pub offsets_outside : {at : ℕ} {r : Bool} → at ≡ place x 0 3 → r ≡ rows_in x at w slot (n + 1) → not r ≡ true → Settled 12 c room
        unfolding apply_if
        offsets_outside k q h = refuse (lists_fall x (copy_walk x 7) false w 0 slot n filled room some refl (omega arith) (offsets_out x w 0 slot n filled k q h) refl refl) (λ z. omega arith)

        module _ {at old : ℕ} {r : Bool} {t : Extended} (k : at ≡ place x 0 3) (q : r ≡ rows_in x at w slot (n + 1)) (h : not r ≡ false) (g : old ≡ rows c 1) (f : t ≡ extended w body (at + w * slot) n old) where
          found : t ≡ tried_offsets x w 0 slot n filled
          found = offsets_in x w 0 slot n filled k q h refl (g ∙ sym (filled_alike.rows_same 1)) f

          pub offsets_over : {row needed : ℕ} → t ≡ Over row needed → Settled 6 c room
          unfolding apply_if
          offsets_over y = refuse (lists_over x (copy_walk x 7) false w 0 slot n filled room some refl (omega arith) found refl y) (λ z. omega arith)

          pub offsets_fall : t ≡ Falls → Settled 12 c room
          unfolding apply_if
          offsets_fall y = refuse (lists_fall x (copy_walk x 7) false w 0 slot n filled room some refl (omega arith) found refl y) (λ z. omega arith)

        module _ {from last lead k : ℕ} (q : from ≡ place x 0 3 + w * slot) (h : from + w * (n + 1) ≤ length body) (f : extended w body from n (rows c 1) ≡ Fits last lead) (t : k ≡ last - rows c 1) where
          -- the list's walk where its items' walk is tried
          to_items : {g : ℕ} {c2 : List ℕ} → Did plan parts false (copy_walk x 7 1 lead k filled) room g c2 room → Did plan parts false (copy_list x (copy_walk x 7) w 0 slot n filled) room g c2 room
          unfolding apply_if
          to_items d =
              lists_go x (copy_walk x 7) false w 0 slot n filled room some refl (omega arith) (reached x slot n w c q h f filled (filled_alike.rows_same 1)) refl refl
              (sym (filled_alike.rows_same 1)) (rw t at d)

          module _ {inner : ℕ} (i : inner ≡ slot_of x 1 lead k) where
            pub inner_far : far ≤ inner → Settled 12 c room
            inner_far y = refuse (to_items (items_far x lead k filled room o.items i y)) (λ z. omega arith)

            module _ (m : inner < far) where
              pub inner_bits : bits_in x 1 inner k ≡ false → Settled 12 c room
              inner_bits y = refuse (to_items (items_bits x lead k filled room o.items i m y)) (λ z. omega arith)

              module _ (b : bits_in x 1 inner k ≡ true) where
                pub inner_out : rows_in x (place x 1 3) (entry_size (code_of plan 1)) inner k ≡ false → Settled 12 c room
                inner_out y = refuse (to_items (items_out x lead k filled room o.items i m b items_top y)) (λ z. omega arith)

                module _ (y : rows_in x (place x 1 3) (entry_size (code_of plan 1)) inner k ≡ true) where
                  abbrev tried : List ℕ
                  tried = add_rows 0 n (add_rows 1 k filled)

                  dry : Did plan parts false (walk filled) room 0 tried room
                  dry = list_done x false start n filled room o s l e root_dry (to_items (items_dry x lead k filled room o.items i m b items_top y)) refl

                  filled_long : length filled ≡ 96
                  filled_long = filled_alike.size ∙ size

                  root_rows : {p r : ℕ} → p ≡ rows c 0 → r ≡ grown p n → rows tried 0 ≡ r
                  root_rows ep er =
                      get_or-set_same (add_rows 1 k filled) 0 (grown (rows (add_rows 1 k filled) 0) n) 0 (omega (arith, length-set filled 3 (grown (rows filled 1) k), filled_long))
                      ∙ ap (λ (v : ℕ). grown v n) (get_or-set_other filled 3 0 (grown (rows filled 1) k) 0 (λ (z : 0 ≡ 3). omega arith) ∙ filled_alike.rows_same 0 ∙ sym ep)
                      ∙ sym er

                  item_rows : {p r : ℕ} → p ≡ rows c 1 → r ≡ grown p k → rows tried 1 ≡ r
                  item_rows ep er =
                      get_or-set_other (add_rows 1 k filled) 0 3 (grown (rows (add_rows 1 k filled) 0) n) 0 (λ (z : 3 ≡ 0). omega arith)
                      ∙ get_or-set_same filled 3 (grown (rows filled 1) k) 0 (omega (arith, filled_long))
                      ∙ ap (λ (v : ℕ). grown v k) (filled_alike.rows_same 1 ∙ sym ep)
                      ∙ sym er

                  module _ {p r old items a : ℕ} (ep : p ≡ rows c 0) (er : r ≡ grown p n) (eo : old ≡ rows c 1) (ei : items ≡ grown old k)
                      (ask : (counters : List ℕ) → rows counters 0 ≡ r → rows counters 1 ≡ items → a ≡ cond (parts_within plan parts (length room)) (cond (parts_hold plan counters parts) 0 13) 14) where
                    asked : a ≡ cond (parts_within plan parts (length room)) (cond (parts_hold plan tried parts) 0 13) 14
                    asked = ask tried (root_rows ep er) (item_rows eo ei)

                    pub rows_refused : (a ≡ 0 → ⊥) → Settled a c room
                    rows_refused z = settled_parts (lent plan parts sources lengths places body) c room walk (near_copy x 8 0 start n filled_alike) dry refl asked z

                    pub rows_settled : {c2 room2 : List ℕ} → a ≡ 0 → Did plan parts true (walk c) room 0 c2 room2 → Settled 0 c2 room2
                    rows_settled z d = settled_made (lent plan parts sources lengths places body) c room walk (near_copy x 8 0 start n filled_alike) dry refl asked z refl d refl
