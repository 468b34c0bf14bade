-- A copy of a sparse union of numbers, tried and made. Assumes nothing.
use mathlib.Core.Path.{◌≡◌, refl, sym, ap, subst, ◌∙◌}
use mathlib.Core.Bool.{Bool, true, false, not, cond, ◌&&◌}
use mathlib.Core.List.{List, [], ◌∷◌}
use Prim.Native.Nat.{ℕ, zero, suc, ◌+◌, ◌*◌, ◌≤◌, ◌<◌}
use native.Mathlib.Omega.{arith}
use lib.ListN.{length, take, drop, length-set}
use lib.Seq.{get_or-set_same, get_or-set_other}
use lib.Dec.{leb, ltb, eqb}
use borrow.Author.Tests.{le-leb, leb-true, le-ltb, lt-ltb, ltb-true, eq-eqb, eqb-true, eqb-false}
use Rattle.array_data.proofs.lent_tables.Laws.{no, yes, and_left, and_right}
use Rattle.walk.specs.State.{Join, code_of, dictionary_of, rows, grown, add_rows, place, far, slot_of, rows_in, scaled, top}
use Rattle.walk.specs.Log.{Out, put, Did, apply_if, done, wrote, need}
use Rattle.walk.specs.Leaves.{copy_mask, copy_numbers}
use Rattle.walk.specs.Copy.{masked, copy_walk}
use Rattle.walk.proofs.Names.{copy_fields}
use Rattle.walk.proofs.Laws.{wrote_did, need_no, need_ok}
use Rattle.leaf_walk.specs.Join.{join}
use Rattle.leaf_walk.proofs.Laws.{wrote_at}
use Rattle.nested_rows.proofs.node_data.Laws.{valid_none, valid_some, data_numbers}
use Rattle.extend.proofs.Laws.{by, at_data, at_done, to_sparse, sparse_stop, sparse_go}
use Rattle.plan.specs.parts.Parts.{nodes_of, buffer_count, has_part, needed_by, part_within, part_holds, parts_within, parts_hold, entry_size}
use Rattle.plan.specs.grounds.Verdict.{verdict, worse_of}
use Rattle.plan.proofs.parts.Words.{has_buffers}
use Rattle.plan.proofs.grounds.Laws.{within_at, hold_at, part_none, no_mask_lem, no_buffer, node_three}
use Rattle.sound.proofs.trying.Near.{near_same}
use Rattle.refinement.specs.orders.Order.{settled}
use Rattle.transform.specs.Answer.{lent, Answers}
use Rattle.transform.specs.leaf_rows.Leaf.{bits_in}
use Rattle.transform.specs.sparse_rows.Sparse.{Sparse, field_in, fields_in}
use Rattle.transform.proofs.Laws.{settled_no, settled_parts, settled_made}
use Rattle.transform.proofs.leaf_rows.Entries.{fixed_size}
use Rattle.transform.proofs.numbers.Laws.{fixed_low, root_copied, worse_up, worse_ge}
use Rattle.transform.proofs.null_ways.Laws.{NumbersAt}
use Rattle.transform.proofs.sparse_rows.Fields.{Tried, dry_did, fields_out, fields_dry}

-- ---- which fields are asked

module _ (x : Join) (row n end k : ℕ) where
  pub fields_over : (f : ℕ) → end ≤ k → fields_in x row n end f k ≡ true
  unfolding fields_in
  fields_over zero h = refl
  fields_over (suc f) h = rw (le-ltb k end h)

  pub fields_no : {f f' : ℕ} → f ≡ suc f' → k < end → field_in x k row n ≡ false → fields_in x row n end f k ≡ false
  unfolding fields_in
  fields_no e h z = rw (e, lt-ltb k end h, z)

  pub fields_yes : {f f' k' : ℕ} → f ≡ suc f' → k' ≡ suc k → k < end → field_in x k row n ≡ true → fields_in x row n end f k ≡ fields_in x row n end f' k'
  unfolding fields_in
  fields_yes e q h z = rw (e, q, lt-ltb k end h, z)

  pub fields_split : {f f' k' : ℕ} → f ≡ suc f' → k' ≡ suc k → k < end → fields_in x row n end f k ≡ true → (field_in x k row n ≡ true) × (fields_in x row n end f' k' ≡ true)
  unfolding fields_in
  fields_split {f} {f'} {k'} e q h z =
      let y : field_in x k row n && fields_in x row n end f' (suc k) ≡ true = rw (e, lt-ltb k end h) at z in
      (and_left (field_in x k row n) (fields_in x row n end f' (suc k)) y, rw q (and_right (field_in x k row n) (fields_in x row n end f' (suc k)) y))

both_no : (a b d : Bool) → a ≡ true → b ≡ false → a && b && d ≡ false
both_no a b d e f = rw (e, f)

both_yes : (a b d : Bool) → a ≡ true → b ≡ true → a && b && d ≡ d
both_yes a b d e f = rw (e, f)

-- ---- whether a field stands in the body, by the tests in their order

module _ (x : Join) (k row n : ℕ) {slot : ℕ} (e : slot ≡ slot_of x k row n) where
  pub field_far : far ≤ slot → false ≡ field_in x k row n
  field_far h = let z : far ≤ slot_of x k row n = subst (λ v. far ≤ v) e h in rw (le-ltb (slot_of x k row n) far z)

  pub field_known : field_in x k row n ≡ true → (slot < far) × (bits_in x k slot n ≡ true) × (rows_in x (place x k 3) (entry_size (code_of x.plan k)) slot n ≡ true)
  field_known h =
      let s = slot_of x k row n in
      let r = rows_in x (place x k 3) (entry_size (code_of x.plan k)) s n in
      let both = and_left (ltb s far && bits_in x k s n) r h in
      (subst (λ v. v < far) (sym e) (ltb-true s far (and_left (ltb s far) (bits_in x k s n) both)), subst (λ v. bits_in x k v n ≡ true) (sym e) (and_right (ltb s far) (bits_in x k s n) both), subst (λ v. rows_in x (place x k 3) (entry_size (code_of x.plan k)) v n ≡ true) (sym e) (and_right (ltb s far && bits_in x k s n) r h))

  module _ (l : slot < far) where
    near : ltb (slot_of x k row n) far ≡ true
    near = lt-ltb (slot_of x k row n) far (subst (λ v. v < far) e l)

    pub field_bits : bits_in x k slot n ≡ false → false ≡ field_in x k row n
    field_bits h = let z : bits_in x k (slot_of x k row n) n ≡ false = subst (λ v. bits_in x k v n ≡ false) e h in sym (both_no (ltb (slot_of x k row n) far) (bits_in x k (slot_of x k row n) n) (rows_in x (place x k 3) (entry_size (code_of x.plan k)) (slot_of x k row n) n) near z)

    pub field_rows : bits_in x k slot n ≡ true → {at w : ℕ} {r : Bool} → at ≡ place x k 3 → w ≡ entry_size (code_of x.plan k) → r ≡ rows_in x at w slot n → r ≡ field_in x k row n
    field_rows h {at} {w} f q g =
        let z : bits_in x k (slot_of x k row n) n ≡ true = subst (λ v. bits_in x k v n ≡ true) e h in
        g ∙ ap (λ v. rows_in x v w slot n) f ∙ ap (λ v. rows_in x (place x k 3) v slot n) q ∙ ap (λ v. rows_in x (place x k 3) (entry_size (code_of x.plan k)) v n) e
        ∙ sym (both_yes (ltb (slot_of x k row n) far) (bits_in x k (slot_of x k row n) n) (rows_in x (place x k 3) (entry_size (code_of x.plan k)) (slot_of x k row n) n) near z)

pub field_place : (x : Join) (k slot n : ℕ) {w : ℕ} → w ≡ entry_size (code_of x.plan k) → rows_in x (place x k 3) (entry_size (code_of x.plan k)) slot n ≡ true
    → place x k 3 + w * (slot + n) ≤ length x.body
unfolding rows_in
field_place x k slot n e h = subst (λ v. place x k 3 + v * (slot + n) ≤ length x.body) (sym e) (leb-true (place x k 3 + entry_size (code_of x.plan k) * (slot + n)) (length x.body) h)

-- ---- entries, written

module _ (x : Join) (slot n : ℕ) {at : ℕ} {r : Bool} (e : at ≡ place x 0 3) (f : r ≡ rows_in x at 1 slot n) where
  pub rows_no : not r ≡ true → rows_in x (place x 0 3) 1 slot n ≡ false
  rows_no h = rw e at (no f h)

  pub rows_yes : not r ≡ false → rows_in x (place x 0 3) 1 slot n ≡ true
  rows_yes h = rw e at (yes f h)

pub entries_put : (x : Join) (k w slot n : ℕ) (c room : List ℕ) {at o p : ℕ} {room2 : List ℕ} → at ≡ place x k 3 → place x k 3 + w * (slot + n) ≤ length x.body → p ≡ rows c k → o ≡ scaled p w
    → length room < top → room2 ≡ apply_if x.plan x.parts true (put k 1 o (take (w * n) (drop (at + w * slot) x.body)) ∷ []) room → Did x.plan x.parts true (copy_numbers x k w slot n c) room 0 c room2
unfolding copy_numbers rows_in
entries_put x k w slot n c room e h q f l g =
    need_ok 12 c (le-leb (place x k 3 + w * (slot + n)) (length x.body) h)
    (wrote_at x.plan x.parts true k 1 (rows c k) w (take (w * n) (drop (place x k 3 + w * slot) x.body)) c room q f l (rw e at g))

-- ---- one field, written

module _ (x : Join) (k row n : ℕ) (c room : List ℕ) (low : k < 32) (f : NumbersAt x.plan k) {slot w : ℕ} (s : slot ≡ slot_of x k row n) (l : slot < far) (e : w ≡ entry_size (code_of x.plan k)) where
  pub field_did : {c1 room1 room2 c3 : List ℕ} → Did x.plan x.parts true (copy_mask x k slot n c) room 0 c1 room1 → Did x.plan x.parts true (copy_numbers x k w slot n c1) room1 0 c1 room2
      → c3 ≡ add_rows k n c1 → Did x.plan x.parts true (copy_walk x 7 k row n c) room 0 c3 room2
  field_did {c1} {room1} {room2} d g q =
      let masks : masked (code_of x.plan k) ≡ true = lt-ltb (code_of x.plan k) 21 (omega (arith, (fixed_low (code_of x.plan k) f.fixed).1)) in
      let g2 = subst (λ v. Did x.plan x.parts true (copy_numbers x k v slot n c1) room1 0 c1 room2) (e ∙ fixed_size (code_of x.plan k) f.fixed) g in
      at_done x true 7 k row n c room (λ z. omega arith) low s l (valid_some x true k slot n c room refl refl (ap not masks) d) refl
      (by (data_numbers x (copy_walk x 6) (code_of x.plan k) k slot n c1 f.fixed (eq-eqb (dictionary_of x.plan k) 0 f.plain)) g2) refl q

-- ---- the order

module _ (plan parts sources lengths places body : List ℕ) (first source start n : ℕ) (c room : List ℕ) (s : Sparse plan) where
  abbrev x : Join
  x = join plan parts lengths places body first source

  abbrev walk : List ℕ → Out
  walk l = copy_walk x 8 0 start n l

  abbrev pub Settled : ℕ → List ℕ → List ℕ → Type 0
  Settled g c2 room2 = Answers (settled (lent plan parts sources lengths places body) c room (walk c)) g c2 room2

  module _ {slot : ℕ} (q : slot ≡ slot_of x 0 start n) (l : slot < far) where
    unmasked : (wr : Bool) → Did plan parts wr (cond (masked (code_of plan 0)) (copy_mask x 0 slot n c) (done c)) room 0 c room
    unmasked wr = valid_none x wr 0 slot n c room refl refl (ap not (le-ltb (code_of plan 0) 21 (omega (arith, s.code))))

    ids_no : rows_in x (place x 0 3) 1 slot n ≡ false → Did plan parts false (copy_numbers x 0 1 slot n c) room 12 c room
    unfolding copy_numbers
    ids_no h = need_no _ h

    ids_dry : rows_in x (place x 0 3) 1 slot n ≡ true → Did plan parts false (copy_numbers x 0 1 slot n c) room 0 c room
    unfolding copy_numbers apply_if
    ids_dry h = need_ok 12 c h (wrote_did false _ c room room refl)

    pub sparse_ids : rows_in x (place x 0 3) 1 slot n ≡ false → Settled 12 c room
    sparse_ids h =
        settled_no (lent plan parts sources lengths places body) c room walk (near_same refl)
        (at_data x false 8 0 start n c room (λ z. omega arith) (omega arith) q l (unmasked false) refl
        (to_sparse x (copy_walk x 7) false 0 slot n c room refl s.code (sparse_stop x (copy_walk x 7) false 0 slot n c room (ids_no h) (λ z. omega arith))) (λ z. omega arith))
        (λ z. omega arith)

    module _ (ids : rows_in x (place x 0 3) 1 slot n ≡ true) (z : length c ≡ 96) {end a : ℕ} (e : end ≡ nodes_of plan) (b : end ≤ 32)
        (out : fields_in x slot n end 32 1 ≡ false → a ≡ 12)
        (ask : (t : List ℕ) → fields_in x slot n end 32 1 ≡ true → ((j : ℕ) → j < end → rows t j ≡ grown (rows c j) n) → a ≡ cond (parts_within plan parts (length room)) (cond (parts_hold plan t parts) 0 13) 14) where
      stopped : fields_in x slot n end 32 1 ≡ false → Did plan parts false (walk c) room 12 (copy_fields x (copy_walk x 7) slot n end 32 1 c).counters room
      stopped h =
          at_data x false 8 0 start n c room (λ y. omega arith) (omega arith) q l (unmasked false) refl
          (to_sparse x (copy_walk x 7) false 0 slot n c room refl s.code
          (sparse_go x (copy_walk x 7) false 0 slot n c room (ids_dry ids) refl (e ∙ sym s.end) refl (dry_did (copy_fields x (copy_walk x 7) slot n end 32 1 c) room (fields_out x s slot n end e b 32 1 c room (omega arith) h)))) (λ y. omega arith)

      module _ (h : fields_in x slot n end 32 1 ≡ true) where
        abbrev tried : Tried x slot n end 32 1 c room
        tried = fields_dry x s slot n end e b 32 1 c room (omega arith) (omega arith) z h

        dry : Did plan parts false (walk c) room 0 (add_rows 0 n tried.counters) room
        dry =
            at_done x false 8 0 start n c room (λ y. omega arith) (omega arith) q l (unmasked false) refl
            (to_sparse x (copy_walk x 7) false 0 slot n c room refl s.code (sparse_go x (copy_walk x 7) false 0 slot n c room (ids_dry ids) refl (e ∙ sym s.end) refl tried.did)) refl refl

        raised : (j : ℕ) → j < end → rows (add_rows 0 n tried.counters) j ≡ grown (rows c j) n
        raised j o = go (eqb j 0) refl
          where
            go : (t : Bool) → eqb j 0 ≡ t → rows (add_rows 0 n tried.counters) j ≡ grown (rows c j) n
            go true p =
                let y = eqb-true j 0 p in
                let m : rows (add_rows 0 n tried.counters) 0 ≡ grown (rows c 0) n =
                get_or-set_same tried.counters 0 (grown (rows tried.counters 0) n) 0 (omega (arith, tried.size, z)) ∙ ap (λ (v : ℕ). grown v n) (tried.before 0 (omega arith)) in
                subst (λ i. rows (add_rows 0 n tried.counters) i ≡ grown (rows c i) n) (sym y) m
            go false p =
                let y = eqb-false j 0 p in
                get_or-set_other tried.counters 0 (3 * j) (grown (rows tried.counters 0) n) 0 (λ r. y (omega (arith, r))) ∙ tried.raised j (omega (arith, y)) o

        asked : a ≡ cond (parts_within plan parts (length room)) (cond (parts_hold plan (add_rows 0 n tried.counters) parts) 0 13) 14
        asked = ask (add_rows 0 n tried.counters) h raised

        parts_no : (a ≡ 0 → ⊥) → Settled a c room
        parts_no y = settled_parts (lent plan parts sources lengths places body) c room walk (near_same refl) dry refl asked y

        made : {room1 c2 room2 c3 : List ℕ} → a ≡ 0 → Did plan parts true (copy_numbers x 0 1 slot n c) room 0 c room1 → Did plan parts true (copy_fields x (copy_walk x 7) slot n end 32 1 c) room1 0 c2 room2
            → c3 ≡ add_rows 0 n c2 → Settled 0 c3 room2
        made y d g k =
            settled_made (lent plan parts sources lengths places body) c room walk (near_same refl) dry refl asked y refl
            (at_done x true 8 0 start n c room (λ o. omega arith) (omega arith) q l (unmasked true) refl
            (to_sparse x (copy_walk x 7) true 0 slot n c room refl s.code (sparse_go x (copy_walk x 7) true 0 slot n c room d refl (e ∙ sym s.end) refl g)) refl k)
            refl

      -- refused for a field or for the parts
      pub sparse_refused : (a ≡ 0 → ⊥) → Settled a c room
      sparse_refused y = go (fields_in x slot n end 32 1) refl
        where
          go : (t : Bool) → fields_in x slot n end 32 1 ≡ t → Settled a c room
          go true h = parts_no h y
          go false h =
              let k = out h in
              rw k (settled_no (lent plan parts sources lengths places body) c room walk (near_same refl) (stopped h) (λ o. omega arith))

      pub sparse_in : a ≡ 0 → fields_in x slot n end 32 1 ≡ true
      sparse_in y = go (fields_in x slot n end 32 1) refl
        where
          go : (t : Bool) → fields_in x slot n end 32 1 ≡ t → t ≡ true
          go true h = refl
          go false h = let k : ◌≡◌ {A = ℕ} 12 0 = sym (out h) ∙ y in absurd (omega (arith, k))

      pub sparse_made : {room1 c2 room2 c3 : List ℕ} → a ≡ 0 → Did plan parts true (copy_numbers x 0 1 slot n c) room 0 c room1 → Did plan parts true (copy_fields x (copy_walk x 7) slot n end 32 1 c) room1 0 c2 room2
          → c3 ≡ add_rows 0 n c2 → Settled 0 c3 room2
      sparse_made y d g k = made (sparse_in y) y d g k

-- ---- the part of the ids

pub ids_parts : (plan counters parts : List ℕ) (m : ℕ) {g : ℕ} → code_of plan 0 ≡ 21 → g ≡ verdict (part_within plan parts m 0 1) (part_holds plan counters parts 0 1)
    → g ≡ verdict (within_at plan counters parts m 0) (hold_at plan counters parts m 0)
ids_parts plan counters parts m {g} h e =
    let buffers : buffer_count (code_of plan 0) ≡ 1 = rw h in
    let p : (b : ℕ) → has_part plan 0 b ≡ false → 0 ≡ verdict (part_within plan parts m 0 b) (part_holds plan counters parts 0 b) = λ b q. part_none plan counters parts m 0 b q in
    node_three plan counters parts m 0 (p 0 (no_mask_lem plan 0 (omega (arith, h)))) e (p 2 (no_buffer plan 0 1 (omega (arith, buffers)))) (worse_up 0 g (omega arith)) (worse_ge g 0 (omega arith))

pub has_ids : (plan : List ℕ) → code_of plan 0 ≡ 21 → has_part plan 0 1 ≡ true
has_ids plan h = let buffers : buffer_count (code_of plan 0) ≡ 1 = rw h in has_buffers plan 0 (root_copied plan) 0 (omega (arith, buffers))

pub ids_need : (plan : List ℕ) (r n size : ℕ) → code_of plan 0 ≡ 21 → leb (r * 1) size ≡ leb (needed_by (code_of plan 0) r n 1) size
ids_need plan r n size h = rw h
