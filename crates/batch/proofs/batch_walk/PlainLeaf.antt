-- A child of numbers without validity: its walk, and what the functions that ask about it answer. Assumes nothing.
use mathlib.Core.Path.{◌≡◌, refl, ap, subst, fun_ext, ◌∙◌}
use mathlib.Core.Bool.{Bool, true, false, cond, not}
use mathlib.Core.List.{List}
use Prim.Native.Nat.{ℕ, ◌≤◌, ◌<◌}
use native.Mathlib.Omega.{arith}
use lib.Dec.{leb, eqb}
use borrow.Author.Tests.{lt-ltb, le-ltb, le-leb, lt-leb, leb-true}
use Rattle.array_data.proofs.lent_tables.Laws.{no, yes, is_none, is_some}
use Rattle.schema.specs.formats.Code.{is_fixed, is_string}
use Rattle.plan.specs.parts.Parts.{nodes_of, copied}
use Rattle.walk.specs.State.{Join, code_of, dictionary_of, keeps_of, bytes_of, add_rows, place, far, slot_of, rows_in}
use Rattle.walk.specs.Log.{Out, Did, done, need, found, next}
use Rattle.walk.specs.Leaves.{copy_mask, copy_numbers}
use Rattle.walk.specs.Copy.{Walk, masked, copy_data, copy_slots, copy_node, copy_walk}
use Rattle.walk.proofs.Laws.{done_did, found_no, found_ok, next_no, next_ok}
use Rattle.leaf_walk.proofs.Laws.{entries_no}
use Rattle.room_writes.proofs.Bytes.{width_in_lem}
use Rattle.nested_rows.proofs.node_data.Laws.{fixed_wide}
use Rattle.batch.specs.Rise.{owned}
use Rattle.batch.specs.Batch.{is_leaf, steady, batch_leaf}
use Rattle.batch.proofs.Ends.{need_is}
use Rattle.batch.proofs.Stretches.{and_left, and_right}
use Rattle.batch.specs.batch_walk.Plain.{is_plain, reached}

module _ (S : List ℕ) (k : ℕ) where
  pub plain_not_fixed : {code : ℕ} {r : Bool} → code ≡ code_of S k → r ≡ is_fixed code → not r ≡ true → false ≡ is_plain S k
  plain_not_fixed e q h = let f : is_fixed (code_of S k) ≡ false = rw e at (no q h) in rw f refl

  pub plain_keyed : {code d : ℕ} {r : Bool} → code ≡ code_of S k → r ≡ is_fixed code → not r ≡ false → d ≡ dictionary_of S k → (d ≡ 0 → ⊥) → false ≡ is_plain S k
  plain_keyed e q h p g = let f : is_fixed (code_of S k) ≡ true = rw e at (yes q h) in rw (f, is_some p g) refl

  pub plain_keeps : {code d v : ℕ} {r : Bool} → code ≡ code_of S k → r ≡ is_fixed code → not r ≡ false → d ≡ dictionary_of S k → d ≡ 0 → v ≡ keeps_of S k → eqb v 0 ≡ is_plain S k
  plain_keeps e q h p g o = let f : is_fixed (code_of S k) ≡ true = rw e at (yes q h) in rw (f, is_none p g) (ap (λ z. eqb z 0) o)

  pub owned_over : {m : ℕ} → m ≡ nodes_of S → m ≤ k → false ≡ owned S k
  owned_over e h = let g : nodes_of S ≤ k = subst (λ v. v ≤ k) e h in rw (le-ltb k (nodes_of S) g) refl

  pub owned_in : {m : ℕ} {r : Bool} → m ≡ nodes_of S → k < m → r ≡ copied S k → r ≡ owned S k
  owned_in e h q = let g : k < nodes_of S = subst (λ v. k < v) e h in rw (lt-ltb k (nodes_of S) g) q

-- its entries have 1 to 8 bytes
pub plain_wide : (S : List ℕ) (k : ℕ) {w : ℕ} → w ≡ bytes_of S k → is_plain S k ≡ true → (1 ≤ w) × (w ≤ 16)
plain_wide S k {w} e h = width_in_lem w (fixed_wide S k refl e refl (and_left (is_fixed (code_of S k)) _ h))

module _ (x : Join) (k : ℕ) (plain : is_plain x.plan k ≡ true) where
  abbrev C : ℕ
  C = code_of x.plan k

  abbrev W : ℕ
  W = bytes_of x.plan k

  fixed : is_fixed C ≡ true
  fixed = and_left (is_fixed C) _ plain

  keyless : eqb (dictionary_of x.plan k) 0 ≡ true
  keyless = and_left (eqb (dictionary_of x.plan k) 0) _ (and_right (is_fixed C) _ plain)

  keeps_none : eqb (keeps_of x.plan k) 0 ≡ true
  keeps_none = and_right (eqb (dictionary_of x.plan k) 0) _ (and_right (is_fixed C) _ plain)

  high : C ≤ 10
  high = leb-true C 10 (and_right (leb 1 C) _ fixed)

  low : 1 ≤ C
  low = leb-true 1 C (and_left (leb 1 C) _ fixed)

  leaf : is_leaf C ≡ true
  leaf = rw (le-leb 1 C low, le-leb C 16 (let h = high in omega arith)) refl

  no_string : is_string C ≡ false
  no_string = rw (lt-leb 11 C (let h = high in omega arith)) refl

  masks : masked C ≡ true
  masks = lt-ltb C 21 (let h = high in omega arith)

  is_steady : (a n : ℕ) → steady x k a n ≡ true
  unfolding steady
  is_steady a n = rw no_string refl

  data_is : (child : Walk) (slot n : ℕ) (c : List ℕ) → copy_data x child C k slot n c ≡ copy_numbers x k W slot n c
  unfolding copy_data
  data_is child slot n c = rw (fixed, keyless) refl

  mask_is : (slot n : ℕ) (c : List ℕ) → cond (masked C) (copy_mask x k slot n c) (done c) ≡ done c
  unfolding copy_mask
  mask_is slot n c = rw (masks, keeps_none) refl

  done_next : (c : List ℕ) (f : List ℕ → Out) → next (done c) f ≡ f c
  unfolding next done
  done_next c f = refl

  slots_is : (child : Walk) (n : ℕ) (c : List ℕ) (slot : ℕ) → copy_slots x child k slot n c ≡ next (copy_numbers x k W slot n c) (λ c2. done (add_rows k n c2))
  unfolding copy_slots
  slots_is child n c slot =
      ap (λ o. next o (λ c2. next (copy_data x child C k slot n c2) (λ c3. done (add_rows k n c3)))) (mask_is slot n c)
      ∙ done_next c (λ c2. next (copy_data x child C k slot n c2) (λ c3. done (add_rows k n c3)))
      ∙ ap (λ o. next o (λ c3. done (add_rows k n c3))) (data_is child slot n c)

  abbrev Plainly : ℕ → ℕ → List ℕ → Out
  Plainly a n c = found far (slot_of x k a n) 12 c (λ slot. next (copy_numbers x k W slot n c) (λ c2. done (add_rows k n c2)))

  walk_is : k < 32 → (a n : ℕ) (c : List ℕ) → copy_walk x 1 k a n c ≡ Plainly a n c
  unfolding copy_walk copy_node
  walk_is small a n c =
      need_is 12 c (found far (slot_of x k a n) 12 c (λ slot. copy_slots x (copy_walk x 0) k slot n c)) (lt-ltb k 32 small)
      ∙ ap (found far (slot_of x k a n) 12 c) (fun_ext (λ slot. slots_is (copy_walk x 0) n c slot))

  pub plain_is : k < 32 → (a n : ℕ) (c : List ℕ) → batch_leaf x k a n c ≡ Plainly a n c
  unfolding batch_leaf
  plain_is small a n c =
      need_is 12 c (need (steady x k a n) 12 c (copy_walk x 1 k a n c)) leaf ∙ need_is 12 c (copy_walk x 1 k a n c) (is_steady a n) ∙ walk_is small a n c

  module _ (small : k < 32) (a n : ℕ) (wr : Bool) (c room : List ℕ) {s : ℕ} (e : s ≡ slot_of x k a n) where
    pub plain_far : far ≤ s → Did x.plan x.parts wr (batch_leaf x k a n c) room 12 c room
    plain_far h = rw (plain_is small a n c) (found_no _ e h)

    pub plain_short : s < far → {w at : ℕ} {r : Bool} → w ≡ W → at ≡ place x k 3 → r ≡ rows_in x at w s n → not r ≡ true → Did x.plan x.parts wr (batch_leaf x k a n c) room 12 c room
    unfolding copy_numbers
    plain_short h {w} {at} {r} f p q l =
        let y : r ≡ rows_in x at W s n = rw f at q in
        rw (plain_is small a n c) (found_ok 12 c _ e h (next_no _ (entries_no x k wr c room W s n _ p y l) (λ z. omega arith)))

    pub plain_done : s < far → {c2 room2 : List ℕ} → Did x.plan x.parts wr (copy_numbers x k W s n c) room 0 c room2 → c2 ≡ add_rows k n c
        → Did x.plan x.parts wr (batch_leaf x k a n c) room 0 c2 room2
    plain_done h {c2} {room2} d q = rw (plain_is small a n c) (found_ok 12 c _ e h (next_ok _ d refl (rw q (done_did wr _ room2))))

-- ---- how far a child reaches

module _ (x : Join) (k w end : ℕ) {s : ℕ} (e : s ≡ slot_of x k end 0) where
  pub reached_far : far ≤ s → false ≡ reached x k w end
  unfolding reached
  reached_far h = let g : far ≤ slot_of x k end 0 = subst (λ v. far ≤ v) e h in rw (le-ltb (slot_of x k end 0) far g) refl

  pub reached_near : s < far → {at : ℕ} {r : Bool} → at ≡ place x k 3 → r ≡ rows_in x at w s 0 → r ≡ reached x k w end
  unfolding reached
  reached_near h p q = let g : slot_of x k end 0 < far = subst (λ v. v < far) e h in rw (lt-ltb (slot_of x k end 0) far g) (rw (p, e) at q)
