-- Byte strings that nothing refuses: what is known of them, and what putting them does. Assumes nothing.
use mathlib.Core.Path.{◌≡◌, refl, sym, ap, subst, ◌∙◌}
use mathlib.Core.Bool.{Bool, true, false}
use mathlib.Core.List.{List, [], ◌∷◌}
use Prim.Native.Nat.{ℕ, suc, ◌+◌, ◌*◌, ◌-◌, ◌≤◌, ◌<◌}
use native.Mathlib.Nat.{mul-add, sub-zero}
use native.Mathlib.Numerals.{add-one}
use native.Mathlib.Omega.{arith}
use lib.ListN.{length, take, drop}
use lib.Dec.{eqb}
use borrow.Author.Tests.{le-leb, leb-true, eqb-true, eqb-false, ne_eqb}
use Rattle.number.specs.Number.{entry}
use Rattle.utils.specs.Offsets.{moved_offsets}
use Rattle.walk.specs.State.{Join, bytes_of, rows, bytes, add_rows, set_bytes, grown, scaled, top, place, offset_of, far, slot_of, rows_in}
use Rattle.walk.specs.Log.{Out, Did, put, apply_if, need, found, next, done}
use Rattle.walk.specs.Leaves.{copy_string}
use Rattle.walk.proofs.Laws.{need_ok}
use Rattle.walk.proofs.Offsets.{string_is}
use Rattle.leaf_walk.proofs.variable_size.Laws.{string_yes}
use Rattle.batch.specs.Stretch.{never_falls, stretch, stretches}
use Rattle.batch.specs.Batch.{batch_leaf}
use Rattle.batch.specs.batch_walk.Plain.{is_text}
use Rattle.batch.specs.batch_walk.Side.{side_of}
use Rattle.batch.specs.batch_walk.Texts.{Fitting}
use Rattle.batch.proofs.Ends.{need_was, need_is, found_was, found_is, next_first, next_last, leaves_own}
use Rattle.batch.proofs.Strings.{off, Fit, extended_fits, string_was}
use Rattle.batch.proofs.batch_walk.TextLeaf.{text_is, slot_is, text_yes}
use Rattle.batch.proofs.batch_walk.Sides.{stretch_cut}

-- ---- n rows

-- the same by numbers that are those places
pub fits_at : (w : ℕ) (body : List ℕ) (slot n b : ℕ) {at chars p q : ℕ} → at ≡ p → chars ≡ q → Fitting w body p q slot n b → Fitting w body at chars slot n b
fits_at w body slot n b {at} {chars} {p} {q} e f h = subst (λ v. Fitting w body v chars slot n b) (sym e) (subst (λ v. Fitting w body p v slot n b) (sym f) h)

module _ (x : Join) (k w slot n : ℕ) where
  fit_is : (b : ℕ) → Fitting w x.body (place x k 3) (place x k 5) slot n b → Fit x k w slot n b
  unfolding rows_in
  fit_is b h =
      let e : w * (slot + suc n) ≡ w * slot + w * suc n = mul-add w slot (suc n) in
      let g : place x k 3 + w * slot + w * suc n ≤ length x.body = rw (add-one n) at h.0 in
      let o : place x k 3 + w * (slot + suc n) ≤ length x.body = omega arith in
      record { offsets = le-leb _ _ o; up = h.1; small = h.2; last = h.3; chars = h.4 }

  is_fit : (b : ℕ) → Fit x k w slot n b → Fitting w x.body (place x k 3) (place x k 5) slot n b
  unfolding rows_in
  is_fit b h =
      let e : w * (slot + suc n) ≡ w * slot + w * suc n = mul-add w slot (suc n) in
      let o : place x k 3 + w * (slot + suc n) ≤ length x.body = leb-true _ _ h.offsets in
      let g : place x k 3 + w * slot + w * suc n ≤ length x.body = omega arith in
      (rw (add-one n) g, h.up, h.small, h.last, h.chars)

  pub put_did : (wr : Bool) (c room : List ℕ) {at chars lead end old p q o : ℕ} {room1 room2 c2 : List ℕ} → (n ≡ 0 → ⊥) → Fitting w x.body (place x k 3) (place x k 5) slot n (bytes c k)
      → at ≡ place x k 3 → chars ≡ place x k 5 → lead ≡ entry w x.body (at + w * slot) 0 → end ≡ entry w x.body (at + w * slot) n → old ≡ bytes c k → p ≡ rows c k → q ≡ grown p 1 → o ≡ scaled q w
      → 1 ≤ w → length room < top → room1 ≡ apply_if x.plan x.parts wr (put k 1 o (moved_offsets w x.body (at + w * slot) old n) ∷ []) room
      → room2 ≡ apply_if x.plan x.parts wr (put k 2 old (take (end - lead) (drop (chars + lead) x.body)) ∷ []) room1 → c2 ≡ set_bytes k (old + (end - lead)) c
      → Did x.plan x.parts wr (copy_string x k w slot n c) room 0 c2 room2
  put_did wr c room {at} {chars} {lead} {end} {old} {p} {q} {o} {room1} {room2} {c2} z h e f l d i r s t u m a b g =
      let from : at + w * slot ≡ place x k 3 + w * slot = ap (λ v. v + w * slot) e in
      let l2 : lead ≡ off x k w slot 0 = l ∙ ap (λ v. entry w x.body v 0) from in
      let d2 : end ≡ off x k w slot n = d ∙ ap (λ v. entry w x.body v n) from in
      let more : end - lead ≡ off x k w slot n - off x k w slot 0 = ap (λ v. v - lead) d2 ∙ ap (λ v. off x k w slot n - v) l2 in
      let last : old + (end - lead) ≡ bytes c k + (off x k w slot n - off x k w slot 0) = ap (λ v. v + (end - lead)) i ∙ ap (λ v. bytes c k + v) more in
      let back : end - lead ≡ old + (end - lead) - old = omega arith in
      let fit = fit_is (bytes c k) h in
      let y : chars + lead + (old + (end - lead) - old) ≤ length x.body = omega (arith, h.4) in
      let did : Did x.plan x.parts wr (copy_string x k w slot n c) room 0 c2 room2 =
      rw (string_is x k w slot n c, ne_eqb n 0 z, extended_fits x k w slot n (bytes c k) fit)
      (need_ok 12 c fit.offsets
      (rw (← last, ← l2)
      (string_yes x k wr c room w (place x k 3 + w * slot) n (old + (end - lead)) lead f i (sym (le-leb _ _ y)) refl r s t u m
      (a ∙ ap (λ v. apply_if x.plan x.parts wr (put k 1 o (moved_offsets w x.body v old n) ∷ []) room) from)
      (b ∙ ap (λ v. apply_if x.plan x.parts wr (put k 2 old (take v (drop (chars + lead) x.body)) ∷ []) room1) back) g))) in
      did

-- ---- a stretch

module _ (x : Join) (k : ℕ) (text : is_text x.plan k ≡ true) (small : k < 32) (a n : ℕ) (c : List ℕ) (h : (batch_leaf x k a n c).ans ≡ 0) {s : ℕ} (e : s ≡ slot_of x k a n) where
  abbrev W : ℕ
  W = bytes_of x.plan k

  walked : (need (never_falls W x.body (place x k 3 + W * (offset_of x k + a)) n) 12 c (found far (slot_of x k a n) 12 c (λ slot. next (copy_string x k W slot n c) (λ c2. done (add_rows k n c2))))).ans ≡ 0
  walked = rw (text_is x k text small a n c) at h

  rising : never_falls W x.body (place x k 3 + W * (offset_of x k + a)) n ≡ true
  rising = need_was _ 12 c _ (omega arith) walked

  found_it : (found far (slot_of x k a n) 12 c (λ slot. next (copy_string x k W slot n c) (λ c2. done (add_rows k n c2)))).ans ≡ 0
  found_it = ap (λ o. o.ans) (sym (need_is 12 c _ rising)) ∙ walked

  pub put_near : s < far
  put_near = rw e (found_was far (slot_of x k a n) 12 c _ (omega arith) found_it)

  string_ok : (copy_string x k W s n c).ans ≡ 0
  string_ok =
      rw e
      (next_first _ _ (ap (λ o. o.ans) (sym (found_is far (slot_of x k a n) 12 c (λ slot. next (copy_string x k W slot n c) (λ c2. done (add_rows k n c2))) (rw e at put_near))) ∙ found_it))

  pub put_fits : {w : ℕ} → w ≡ W → (n ≡ 0 → ⊥) → Fitting w x.body (place x k 3) (place x k 5) s n (bytes c k)
  put_fits {w} q z = rw q (is_fit x k W s n (bytes c k) (string_was x k W s n c string_ok z))

  pub put_rises : {w : ℕ} → w ≡ W → never_falls w x.body (place x k 3 + w * s) n ≡ true
  put_rises q = rw (q, slot_is x k text a n e put_near) rising

-- what was put, and its rows counted
pub put_yes : (x : Join) (k : ℕ) → is_text x.plan k ≡ true → k < 32 → (a n : ℕ) (wr : Bool) (c room : List ℕ) {s w : ℕ} {c1 c2 room1 : List ℕ} → s ≡ slot_of x k a n → s < far → w ≡ bytes_of x.plan k
    → never_falls w x.body (place x k 3 + w * s) n ≡ true → Did x.plan x.parts wr (copy_string x k w s n c) room 0 c1 room1 → c2 ≡ add_rows k n c1
    → Did x.plan x.parts wr (batch_leaf x k a n c) room 0 c2 room1
put_yes x k text small a n wr c room e near q rise d g = text_yes x k text small a n wr c room e near q (need_ok 12 c rise d) refl g

-- ---- stretches

-- one turn of the loop: neither the stretch that ends before row t is refused, nor what is left behind it
module _ (walk : ℕ → ℕ → List ℕ → Out) (start size : ℕ → ℕ) (n r a m : ℕ) (c : List ℕ) (ok : (stretch walk start size (n - r) r a m c).ans ≡ 0)
    (t b k : ℕ) (e : stretch walk start size (n - r) r a m c ≡ stretch walk start size (n - t) t b k c) (within : t ≤ n) (side : (t ≡ n → ⊥) → side_of b k (start t) (size t) ≡ 3) where
  there : (stretch walk start size (n - t) t b k c).ans ≡ 0
  there = ap (λ o. o.ans) (sym e) ∙ ok

  cut : (t ≡ n → ⊥) → stretch walk start size (n - t) t b k c ≡ next (walk b k c) (λ c2. stretch walk start size (n - suc t) (suc t) (start t) (size t) c2)
  cut y = stretch_cut walk start size (n - suc t) t b k c (go (eqb t n) refl) (side y)
    where
      go : (u : Bool) → eqb t n ≡ u → n - t ≡ suc (n - suc t)
      go true z = absurd (y (eqb-true t n z))
      go false z = let x = eqb-false t n z in omega arith

  pub here_ok : (walk b k c).ans ≡ 0
  unfolding stretch
  here_ok = go (eqb t n) refl
    where
      go : (u : Bool) → eqb t n ≡ u → (walk b k c).ans ≡ 0
      go true z = let q = eqb-true t n z in let y : n - t ≡ 0 = omega arith in rw y at there
      go false z = next_first _ _ (ap (λ o. o.ans) (sym (cut (eqb-false t n z))) ∙ there)

  pub rest_ok : (t ≡ n → ⊥) → {c1 : List ℕ} {r2 a2 m2 : ℕ} → c1 ≡ (walk b k c).counters → r2 ≡ t + 1 → a2 ≡ start t → m2 ≡ size t → (stretch walk start size (n - r2) r2 a2 m2 c1).ans ≡ 0
  rest_ok y p i j l =
      rw (p, i, j, l, add-one t)
      (next_last (λ c2. stretch walk start size (n - suc t) (suc t) (start t) (size t) c2) (leaves_own here_ok) (ap (λ o. o.ans) (sym (cut y)) ∙ there)).ok

-- what is left at first is the whole
pub begins_ok : (walk : ℕ → ℕ → List ℕ → Out) (w : ℕ) (body : List ℕ) (slot n : ℕ) (c : List ℕ) {o z p q : ℕ} → o ≡ p → z ≡ q
    → (stretches walk (λ r. entry w body p (slot + r)) (λ r. entry w body q (slot + r)) n c).ans ≡ 0
    → (stretch walk (λ r. entry w body o (slot + r)) (λ r. entry w body z (slot + r)) (n - 0) 0 0 0 c).ans ≡ 0
begins_ok walk w body slot n c {o} {z} {p} {q} e f h =
    subst (λ v. (stretch walk (λ r. entry w body o (slot + r)) (λ r. entry w body z (slot + r)) v 0 0 0 c).ans ≡ 0) (sym (sub-zero n))
    (subst (λ v. (stretch walk (λ r. entry w body v (slot + r)) (λ r. entry w body z (slot + r)) n 0 0 0 c).ans ≡ 0) (sym e)
    (subst (λ v. (stretch walk (λ r. entry w body p (slot + r)) (λ r. entry w body v (slot + r)) n 0 0 0 c).ans ≡ 0) (sym f) h))

-- the same, of rows that were looked at one by one
pub told_ok : (x : Join) (i w slot n : ℕ) (c room : List ℕ) {c2 : List ℕ} {o z : ℕ} → o ≡ place x i 3 → z ≡ place x i 5
    → Did x.plan x.parts false (stretches (λ a m d. batch_leaf x (i + 1) a m d) (λ q. entry w x.body o (slot + q)) (λ q. entry w x.body z (slot + q)) n c) room 0 c2 room
    → (stretches (λ a m d. batch_leaf x (suc i) a m d) (λ q. entry w x.body (place x i 3) (slot + q)) (λ q. entry w x.body (place x i 5) (slot + q)) n c).ans ≡ 0
told_ok x i w slot n c room {c2} {o} {z} e f d =
    subst (λ y. (stretches (λ a m d. batch_leaf x y a m d) (λ q. entry w x.body (place x i 3) (slot + q)) (λ q. entry w x.body (place x i 5) (slot + q)) n c).ans ≡ 0) (add-one i)
    (subst (λ y. (stretches (λ a m d. batch_leaf x (i + 1) a m d) (λ q. entry w x.body y (slot + q)) (λ q. entry w x.body (place x i 5) (slot + q)) n c).ans ≡ 0) e
    (subst (λ y. (stretches (λ a m d. batch_leaf x (i + 1) a m d) (λ q. entry w x.body o (slot + q)) (λ q. entry w x.body y (slot + q)) n c).ans ≡ 0) f (sym d.answer)))
