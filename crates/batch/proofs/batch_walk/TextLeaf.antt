-- A child of byte strings without validity: its walk, and what the functions that ask about it answer. Assumes nothing.
use mathlib.Core.Path.{◌≡◌, refl, sym, ap, subst, fun_ext, ◌∙◌}
use mathlib.Core.Bool.{Bool, true, false, cond, not}
use mathlib.Core.List.{List}
use Prim.Native.Nat.{ℕ, suc, ◌+◌, ◌*◌, ◌≤◌, ◌<◌}
use native.Mathlib.Numerals.{add-one}
use native.Mathlib.Omega.{arith}
use lib.Dec.{leb, ltb, eqb}
use borrow.Author.Tests.{lt-ltb, le-leb, lt-leb, leb-true}
use Rattle.array_data.proofs.lent_tables.Laws.{no, yes}
use Rattle.number.specs.Number.{entry}
use Rattle.schema.specs.formats.Code.{is_fixed, is_string}
use Rattle.walk.specs.State.{Join, code_of, keeps_of, bytes_of, bytes, add_rows, place, offset_of, far, slot_of, rows_in}
use Rattle.walk.specs.Log.{Out, Did, fail, done, need, found, next}
use Rattle.walk.specs.Leaves.{copy_mask, put_extended, copy_string}
use Rattle.walk.specs.Copy.{Walk, masked, copy_data, copy_slots, copy_node, copy_walk}
use Rattle.walk.proofs.Laws.{done_did, need_no, need_ok, found_no, found_ok, next_no, next_ok}
use Rattle.utils.specs.Extension.{extended}
use Rattle.leaf_walk.proofs.variable_size.Laws.{copy_none, copy_out, copy_in}
use Rattle.nested_rows.proofs.node_data.Laws.{string_wide}
use Rattle.batch.specs.Stretch.{never_falls}
use Rattle.batch.specs.Batch.{is_leaf, steady, batch_leaf}
use Rattle.batch.proofs.Ends.{need_is}
use Rattle.batch.proofs.Stretches.{and_left, and_right}
use Rattle.batch.proofs.Strings.{rises}
use Rattle.batch.specs.batch_walk.Plain.{is_plain, is_text, is_flat, steady_string}

-- ---- what a type says

module _ (S : List ℕ) (k : ℕ) where
  pub text_not : {code : ℕ} {r : Bool} → code ≡ code_of S k → r ≡ is_string code → not r ≡ true → false ≡ is_text S k
  text_not e q h = let f : is_string (code_of S k) ≡ false = rw e at (no q h) in rw f refl

  pub text_keeps : {code v : ℕ} {r : Bool} → code ≡ code_of S k → r ≡ is_string code → not r ≡ false → v ≡ keeps_of S k → eqb v 0 ≡ is_text S k
  text_keeps e q h o = let f : is_string (code_of S k) ≡ true = rw e at (yes q h) in rw f (ap (λ z. eqb z 0) o)

  pub flat_text : {t : Bool} → t ≡ is_text S k → t ≡ true → true ≡ is_flat S k
  flat_text e h = let f : is_text S k ≡ true = sym e ∙ h in rw f refl

  pub flat_plain : {t p : Bool} → t ≡ is_text S k → t ≡ false → p ≡ is_plain S k → p ≡ is_flat S k
  flat_plain e h q = let f : is_text S k ≡ false = sym e ∙ h in rw f q

  -- a node that is not of byte strings is of numbers
  pub flat_rest : {t : Bool} → is_flat S k ≡ true → t ≡ is_text S k → t ≡ false → is_plain S k ≡ true
  flat_rest is e h = let f : is_text S k ≡ false = sym e ∙ h in rw f at is

-- its offsets have 4 or 8 bytes
pub text_wide : (S : List ℕ) (k : ℕ) {w : ℕ} → w ≡ bytes_of S k → is_text S k ≡ true → (w ≡ 4 → ⊥) → w ≡ 8
text_wide S k e h = string_wide S k refl e refl (and_left (is_string (code_of S k)) _ h)

-- ---- offsets that never fall

module _ (w : ℕ) (s : List ℕ) (from : ℕ) where
  pub falls_none : true ≡ never_falls w s from 0
  unfolding never_falls
  falls_none = refl

  pub falls_more : (r : ℕ) {a b : ℕ} → true ≡ never_falls w s from r → a ≡ entry w s from r → b ≡ entry w s from (r + 1) → a ≤ b → true ≡ never_falls w s from (r + 1)
  unfolding never_falls
  falls_more r h e f l = rw (add-one r) (rw (← h, le-leb (entry w s from r) (entry w s from (suc r)) (rw (e, f, add-one r) at l)) refl)

  pub falls_now : (r n : ℕ) {a b : ℕ} → r < n → a ≡ entry w s from r → b ≡ entry w s from (r + 1) → b < a → false ≡ never_falls w s from n
  falls_now r n {a} {b} h e f l = go (never_falls w s from n) refl
    where
      go : (t : Bool) → never_falls w s from n ≡ t → false ≡ t
      go true q = let z = rises w s from n q r (r + 1) (omega arith) (omega arith) in absurd (omega arith)
      go false q = refl

-- ---- n rows of it

module _ (x : Join) (k : ℕ) (wr : Bool) (c room : List ℕ) (w slot n : ℕ) where
  pub steady_none : n ≡ 0 → Did x.plan x.parts wr (steady_string x k w slot n c) room 0 c room
  unfolding never_falls
  steady_none h = need_ok 12 c (rw h refl) (copy_none x k wr c room w slot n h)

  -- the offsets do not stand in the body
  pub steady_out : {at : ℕ} {r : Bool} → (n ≡ 0 → ⊥) → at ≡ place x k 3 → r ≡ rows_in x at w slot (n + 1) → not r ≡ true
      → Did x.plan x.parts wr (steady_string x k w slot n c) room 12 c room
  steady_out h e q l = go (never_falls w x.body (place x k 3 + w * slot) n) refl
    where
      go : (t : Bool) → never_falls w x.body (place x k 3 + w * slot) n ≡ t → Did x.plan x.parts wr (steady_string x k w slot n c) room 12 c room
      go true f = need_ok 12 c f (copy_out x k wr c room w slot n h e q l)
      go false f = need_no _ f

  module _ {at from : ℕ} {t : Bool} (e : at ≡ place x k 3) (f : from ≡ at + w * slot) (g : t ≡ never_falls w x.body from n) where
    pub steady_falls : not t ≡ true → Did x.plan x.parts wr (steady_string x k w slot n c) room 12 c room
    steady_falls h = need_no _ (rw (f, e) at (no g h))

    pub steady_in : {r : Bool} {m : ℕ} {c2 room2 : List ℕ} → (n ≡ 0 → ⊥) → r ≡ rows_in x at w slot (n + 1) → not r ≡ false → not t ≡ false
        → Did x.plan x.parts wr (put_extended x k w from n (extended w x.body from n (bytes c k)) c) room m c2 room2
        → Did x.plan x.parts wr (steady_string x k w slot n c) room m c2 room2
    steady_in h q l s d = need_ok 12 c (rw (f, e) at (yes g s)) (copy_in x k wr c room w slot n h e q l (rw f at d))

-- ---- behind a test that is the same

module _ {plan parts : List ℕ} {wr : Bool} {room : List ℕ} (c : List ℕ) {o o2 : Out} {g : ℕ} {c1 room1 : List ℕ} where
  behind_no : (b : Bool) → (Did plan parts wr o room g c1 room1 → Did plan parts wr o2 room g c1 room1)
      → Did plan parts wr (need b 12 c o) room g c1 room1 → Did plan parts wr (need b 12 c o2) room g c1 room1
  unfolding need
  behind_no true f d = f d
  behind_no false f d = d

  behind_yes : (b : Bool) {c2 : List ℕ} → g ≡ 0 → (Did plan parts wr o room g c1 room1 → Did plan parts wr o2 room 0 c2 room1)
      → Did plan parts wr (need b 12 c o) room g c1 room1 → Did plan parts wr (need b 12 c o2) room 0 c2 room1
  unfolding need fail
  behind_yes true h f d = f d
  behind_yes false h f d = let z : g ≡ 12 = d.answer in absurd (omega arith)

-- ---- its walk

module _ (x : Join) (k : ℕ) (text : is_text x.plan k ≡ true) where
  abbrev C : ℕ
  C = code_of x.plan k

  abbrev W : ℕ
  W = bytes_of x.plan k

  string : is_string C ≡ true
  string = and_left (is_string C) _ text

  keeps_none : eqb (keeps_of x.plan k) 0 ≡ true
  keeps_none = and_right (is_string C) _ text

  high : C ≤ 14
  high = leb-true C 14 (and_right (leb 11 C) _ string)

  low : 11 ≤ C
  low = leb-true 11 C (and_left (leb 11 C) _ string)

  leaf : is_leaf C ≡ true
  leaf = rw (le-leb 1 C (let h = low in omega arith), le-leb C 16 (let h = high in omega arith)) refl

  no_number : is_fixed C ≡ false
  no_number = rw (le-leb 1 C (let h = low in omega arith), lt-leb C 10 (let h = low in omega arith)) refl

  masks : masked C ≡ true
  masks = lt-ltb C 21 (let h = high in omega arith)

  -- the offsets of the rows from a on
  abbrev Rises : ℕ → ℕ → Bool
  Rises a n = never_falls W x.body (place x k 3 + W * (offset_of x k + a)) n

  steady_is : (a n : ℕ) → steady x k a n ≡ Rises a n
  unfolding steady
  steady_is a n = rw string refl

  data_is : (child : Walk) (slot n : ℕ) (c : List ℕ) → copy_data x child C k slot n c ≡ copy_string x k W slot n c
  unfolding copy_data
  data_is child slot n c = rw (no_number, string) refl

  mask_is : (slot n : ℕ) (c : List ℕ) → cond (masked C) (copy_mask x k slot n c) (done c) ≡ done c
  unfolding copy_mask
  mask_is slot n c = rw (masks, keeps_none) refl

  done_next : (c : List ℕ) (f : List ℕ → Out) → next (done c) f ≡ f c
  unfolding next done
  done_next c f = refl

  slots_is : (child : Walk) (n : ℕ) (c : List ℕ) (slot : ℕ) → copy_slots x child k slot n c ≡ next (copy_string x k W slot n c) (λ c2. done (add_rows k n c2))
  unfolding copy_slots
  slots_is child n c slot =
      ap (λ o. next o (λ c2. next (copy_data x child C k slot n c2) (λ c3. done (add_rows k n c3)))) (mask_is slot n c)
      ∙ done_next c (λ c2. next (copy_data x child C k slot n c2) (λ c3. done (add_rows k n c3)))
      ∙ ap (λ o. next o (λ c3. done (add_rows k n c3))) (data_is child slot n c)

  abbrev pub Rows : ℕ → ℕ → List ℕ → Out
  Rows a n c = found far (slot_of x k a n) 12 c (λ slot. next (copy_string x k W slot n c) (λ c2. done (add_rows k n c2)))

  walk_is : k < 32 → (a n : ℕ) (c : List ℕ) → copy_walk x 1 k a n c ≡ Rows a n c
  unfolding copy_walk copy_node
  walk_is small a n c =
      need_is 12 c (found far (slot_of x k a n) 12 c (λ slot. copy_slots x (copy_walk x 0) k slot n c)) (lt-ltb k 32 small)
      ∙ ap (found far (slot_of x k a n) 12 c) (fun_ext (λ slot. slots_is (copy_walk x 0) n c slot))

  pub text_is : k < 32 → (a n : ℕ) (c : List ℕ) → batch_leaf x k a n c ≡ need (Rises a n) 12 c (Rows a n c)
  unfolding batch_leaf
  text_is small a n c =
      need_is 12 c (need (steady x k a n) 12 c (copy_walk x 1 k a n c)) leaf
      ∙ ap (λ t. need t 12 c (copy_walk x 1 k a n c)) (steady_is a n)
      ∙ ap (need (Rises a n) 12 c) (walk_is small a n c)

  -- a slot that is one is the offset and the row
  pub slot_is : (a n : ℕ) {s : ℕ} → s ≡ slot_of x k a n → s < far → s ≡ offset_of x k + a
  unfolding slot_of
  slot_is a n {s} e h = go (ltb (offset_of x k + a + n) far) e
    where
      go : (t : Bool) → s ≡ cond t (offset_of x k + a) far → s ≡ offset_of x k + a
      go true q = q
      go false q = absurd (omega arith)

  module _ (small : k < 32) (a n : ℕ) (wr : Bool) (c room : List ℕ) {s : ℕ} (e : s ≡ slot_of x k a n) where
    pub text_far : far ≤ s → Did x.plan x.parts wr (batch_leaf x k a n c) room 12 c room
    text_far h = rw (text_is small a n c) (go (Rises a n) refl)
      where
        go : (t : Bool) → Rises a n ≡ t → Did x.plan x.parts wr (need (Rises a n) 12 c (Rows a n c)) room 12 c room
        go true f = need_ok 12 c f (found_no _ e h)
        go false f = need_no _ f

    module _ (near : s < far) {w g : ℕ} {c1 room1 : List ℕ} (wide : w ≡ W) (d : Did x.plan x.parts wr (steady_string x k w s n c) room g c1 room1) where
      told : Did x.plan x.parts wr (need (Rises a n) 12 c (copy_string x k W s n c)) room g c1 room1
      told =
          subst (λ v. Did x.plan x.parts wr (need (never_falls W x.body (place x k 3 + W * v) n) 12 c (copy_string x k W s n c)) room g c1 room1) (slot_is a n e near)
          (subst (λ v. Did x.plan x.parts wr (steady_string x k v s n c) room g c1 room1) wide d)

      pub text_no : (g ≡ 0 → ⊥) → Did x.plan x.parts wr (batch_leaf x k a n c) room g c1 room1
      text_no h = rw (text_is small a n c) (behind_no c (Rises a n) (λ q. found_ok 12 c _ e near (next_no _ q h)) told)

      pub text_yes : g ≡ 0 → {c2 : List ℕ} → c2 ≡ add_rows k n c1 → Did x.plan x.parts wr (batch_leaf x k a n c) room 0 c2 room1
      text_yes h q = rw (text_is small a n c) (behind_yes c (Rises a n) h (λ o. found_ok 12 c _ e near (next_ok _ o h (rw q (done_did wr _ room1)))) told)
