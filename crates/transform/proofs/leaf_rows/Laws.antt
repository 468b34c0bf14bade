-- A copy at a leaf, by the ways that the code goes: tried from counters whose nulls are full, and made from those that are lent. Assumes nothing.
use mathlib.Core.Path.{◌≡◌, refl, ap, ◌∙◌}
use mathlib.Core.Bool.{Bool, true, false, not, cond}
use mathlib.Core.List.{List}
use Prim.Native.Nat.{ℕ, ◌+◌, ◌*◌, ◌≤◌, ◌<◌}
use native.Mathlib.Omega.{arith}
use lib.ListN.{length}
use lib.Dec.{leb, eqb}
use borrow.Author.Tests.{lt-ltb, eq-eqb, eqb-true, eqb-false}
use Rattle.array_data.proofs.lent_tables.Laws.{is_some}
use Rattle.walk.specs.State.{Join, code_of, keeps_of, nulls, add_rows, place, slot_of, far, top}
use Rattle.walk.specs.Log.{Out, Did, apply_if, done}
use Rattle.walk.specs.Leaves.{copy_mask}
use Rattle.walk.specs.Copy.{masked, copy_data, copy_walk}
use Rattle.leaf_walk.specs.Join.{join}
use Rattle.leaf_walk.proofs.Laws.{bits_no, bits_tried, mask_off, mask_ones, mask_bits}
use Rattle.nested_rows.proofs.node_data.Laws.{valid_some}
use Rattle.extend.proofs.Laws.{at_far, at_valid, at_data, at_done}
use Rattle.plan.specs.parts.Parts.{parts_within, parts_hold}
use Rattle.sound.specs.trying.Alike.{Alike}
use Rattle.sound.proofs.trying.Laws.{alike_refl}
use Rattle.sound.proofs.trying.Near.{near_copy}
use Rattle.refinement.specs.orders.Order.{settled}
use Rattle.transform.specs.Answer.{lent, Answers}
use Rattle.transform.specs.leaf_rows.Leaf.{bits_in}
use Rattle.transform.proofs.leaf_counters.Laws.{full, full_alike, full_top}
use Rattle.transform.proofs.Laws.{settled_no, settled_parts, settled_made}

-- ---- validity

-- bits that are copied lie in the body
pub bits_tests : (x : Join) (i slot n : ℕ) {k v at : ℕ} → k ≡ keeps_of x.plan i → (k ≡ 0 → ⊥) → v ≡ place x i 0 → (v ≡ 0 → ⊥) → at ≡ place x i 1 → bits_in x i slot n ≡ true
    → leb (8 * at + slot + n) (8 * length x.body) ≡ true
bits_tests x i slot n e h f l q b = rw q (rw (is_some e h, is_some f l) at b)

module _ (x : Join) (i slot n : ℕ) (c room : List ℕ) where
  pub dry_mask : bits_in x i slot n ≡ true → nulls c i ≡ top → Did x.plan x.parts false (copy_mask x i slot n c) room 0 c room
  unfolding apply_if
  dry_mask h f = go (eqb (keeps_of x.plan i) 0) refl (eqb (place x i 0) 0) refl
    where
      go : (t : Bool) → eqb (keeps_of x.plan i) 0 ≡ t → (u : Bool) → eqb (place x i 0) 0 ≡ u → Did x.plan x.parts false (copy_mask x i slot n c) room 0 c room
      go true e u k = mask_off x i false c room slot n refl (eqb-true (keeps_of x.plan i) 0 e)
      go false e true k = mask_ones x i false c room slot n refl (eqb-false (keeps_of x.plan i) 0 e) refl (eqb-true (place x i 0) 0 k) refl refl
      go false e false k =
          let z : leb (8 * place x i 1 + slot + n) (8 * length x.body) ≡ true = rw (e, k) at h in
          mask_bits x i false c room slot n refl (eqb-false (keeps_of x.plan i) 0 e) refl (eqb-false (place x i 0) 0 k)
          (bits_tried x i false c room slot n refl refl (ap not z) refl (eq-eqb (nulls c i) top f))

  pub mask_no : bits_in x i slot n ≡ false → Did x.plan x.parts false (copy_mask x i slot n c) room 12 c room
  mask_no h = go (eqb (keeps_of x.plan i) 0) refl (eqb (place x i 0) 0) refl
    where
      go : (t : Bool) → eqb (keeps_of x.plan i) 0 ≡ t → (u : Bool) → eqb (place x i 0) 0 ≡ u → Did x.plan x.parts false (copy_mask x i slot n c) room 12 c room
      go true e u k = let y : true ≡ false = rw e at h in absurd (let z : ◌≡◌ {A = ℕ} 0 1 = cc in omega arith)
      go false e true k = let y : true ≡ false = rw (e, k) at h in absurd (let z : ◌≡◌ {A = ℕ} 0 1 = cc in omega arith)
      go false e false k =
          let z : leb (8 * place x i 1 + slot + n) (8 * length x.body) ≡ false = rw (e, k) at h in
          mask_bits x i false c room slot n refl (eqb-false (keeps_of x.plan i) 0 e) refl (eqb-false (place x i 0) 0 k) (bits_no x i false c room slot n refl refl (ap not z))

-- ---- the order

module _ (plan parts sources lengths places body : List ℕ) (first source i start n : ℕ) (c room : List ℕ) where
  abbrev walk : List ℕ → Out
  walk l = copy_walk (join plan parts lengths places body first source) 8 i start n l

  abbrev pub Settled : ℕ → List ℕ → List ℕ → Type 0
  Settled g c2 room2 = Answers (settled (lent plan parts sources lengths places body) c room (walk c)) g c2 room2

  abbrev x : Join
  x = join plan parts lengths places body first source

  refuse : {l : List ℕ} {g : ℕ} {c1 room1 : List ℕ} → Alike l c → Did plan parts false (walk l) room g c1 room1 → (g ≡ 0 → ⊥) → Settled g c room1
  refuse h d z = settled_no (lent plan parts sources lengths places body) c room walk (near_copy x 8 i start n h) d z

  module _ (low : i < 32) {slot : ℕ} (s : slot ≡ slot_of x i start n) where
    pub leaf_far : far ≤ slot → Settled 12 c room
    leaf_far h = refuse (alike_refl c) (at_far x false 8 i start n c room (λ z. omega arith) low s h) (λ z. omega arith)

    module _ (l : slot < far) (kind : code_of plan i < 17) where
      masks : masked (code_of plan i) ≡ true
      masks = lt-ltb (code_of plan i) 21 (omega arith)

      pub leaf_bits : bits_in x i slot n ≡ false → Settled 12 c room
      leaf_bits h =
          refuse (alike_refl c)
          (at_valid x false 8 i start n c room (λ z. omega arith) low s l (valid_some x false i slot n c room refl refl (ap not masks) (mask_no x i slot n c room h)) (λ z. omega arith))
          (λ z. omega arith)

      -- the validity tried, then what the data's walk says
      module _ (size : length c ≡ 96) (bits : bits_in x i slot n ≡ true) {g : ℕ} {c2 : List ℕ} (d : Did plan parts false (copy_data x (copy_walk x 7) (code_of plan i) i slot n (full i c)) room g c2 room) where
        abbrev v : Did plan parts false (cond (masked (code_of plan i)) (copy_mask x i slot n (full i c)) (done (full i c))) room 0 (full i c) room
        v = valid_some x false i slot n (full i c) room refl refl (ap not masks) (dry_mask x i slot n (full i c) room bits (full_top i c low size))

        pub leaf_data : (g ≡ 0 → ⊥) → Settled g c room
        leaf_data z = refuse (full_alike i c) (at_data x false 8 i start n (full i c) room (λ q. omega arith) low s l v refl d z) z

        module _ (z : g ≡ 0) (t : List ℕ) (h : parts_hold plan t parts ≡ parts_hold plan (add_rows i n c2) parts) {p : ℕ} (e : p ≡ cond (parts_within plan parts (length room)) (cond (parts_hold plan t parts) 0 13) 14) where
          tried : Did plan parts false (walk (full i c)) room 0 (add_rows i n c2) room
          tried = at_done x false 8 i start n (full i c) room (λ q. omega arith) low s l v refl d z refl

          asked : p ≡ cond (parts_within plan parts (length room)) (cond (parts_hold plan (add_rows i n c2) parts) 0 13) 14
          asked = e ∙ ap (λ (b : Bool). cond (parts_within plan parts (length room)) (cond b 0 13) 14) h

          pub leaf_parts : {c1 : List ℕ} → c1 ≡ c → (p ≡ 0 → ⊥) → Settled p c1 room
          leaf_parts q y = rw q (settled_parts (lent plan parts sources lengths places body) c room walk (near_copy x 8 i start n (full_alike i c)) tried refl asked y)

          pub leaf_made : {c1 c3 room1 c4 room2 c5 : List ℕ} → c1 ≡ c → p ≡ 0 → Did plan parts true (copy_mask x i slot n c1) room 0 c3 room1
              → Did plan parts true (copy_data x (copy_walk x 7) (code_of plan i) i slot n c3) room1 0 c4 room2 → c5 ≡ add_rows i n c4 → Settled 0 c5 room2
          leaf_made q y a b k =
              settled_made (lent plan parts sources lengths places body) c room walk (near_copy x 8 i start n (full_alike i c)) tried refl asked y refl
              (at_done x true 8 i start n c room (λ z2. omega arith) low s l (valid_some x true i slot n c room refl refl (ap not masks) (rw q at a)) refl b refl k)
              refl
