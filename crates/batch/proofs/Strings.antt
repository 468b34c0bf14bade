-- Byte strings whose offsets never fall may be cut. Assumes nothing.
use mathlib.Core.Path.{◌≡◌, refl, sym, ap, ◌∙◌}
use mathlib.Core.Bool.{Bool, true, false, cond}
use mathlib.Core.List.{List}
use Prim.Native.Nat.{ℕ, zero, suc, ◌+◌, ◌*◌, ◌-◌, ◌≤◌}
use native.Mathlib.Nat.{add-zero, add-suc, mul-add, mul-le-mul_left, le_refl}
use native.Mathlib.Omega.{arith}
use lib.ListN.{length, drop}
use lib.Dec.{leb, ltb, eqb}
use borrow.Author.Tests.{leb-true, le-leb, ltb-false, le-ltb, eqb-true, eqb-false, ne_eqb}
use Rattle.number.specs.Number.{number, entry}
use Rattle.utils.specs.Offsets.{largest, moved}
use Rattle.utils.specs.Extension.{extended, over_at}
use Rattle.utils.specs.declared.Extended.TheVariants.{Fits, Falls}
use Rattle.walk.specs.State.{Join, bytes, top, set_bytes, place, rows_in}
use Rattle.walk.specs.Log.{fail}
use Rattle.walk.specs.Leaves.{put_string, put_extended, copy_string}
use Rattle.batch.specs.Stretch.{never_falls}
use Rattle.batch.proofs.Ends.{Leaves, leaves_done, leaves_wrote, leaves_need, leaves_next, need_was, need_is}
use Rattle.batch.proofs.Stretches.{and_left, and_right}
use Rattle.batch.proofs.Leaves.{DataCuts, no_bytes}
use Rattle.walk.proofs.Offsets.{string_is}

-- offsets that never fall rise from any to any later one
pub rises : (w : ℕ) (s : List ℕ) (from n : ℕ) → never_falls w s from n ≡ true → (j i : ℕ) → j ≤ i → i ≤ n → entry w s from j ≤ entry w s from i
unfolding never_falls
rises w s from zero h j i p q = let e : j ≡ i = omega arith in rw e (le_refl _)
rises w s from (suc n) h j i p q =
    go (λ j i p q. rises w s from n (and_left _ (leb (entry w s from n) (entry w s from (suc n))) h) j i p q) (eqb i (suc n)) refl (eqb j (suc n)) refl
  where
    last : entry w s from n ≤ entry w s from (suc n)
    last = leb-true _ _ (and_right (never_falls w s from n) _ h)

    go : ((j i : ℕ) → j ≤ i → i ≤ n → entry w s from j ≤ entry w s from i) → (t : Bool) → eqb i (suc n) ≡ t → (u : Bool) → eqb j (suc n) ≡ u
        → entry w s from j ≤ entry w s from i
    go before true e true f = rw (eqb-true i (suc n) e, eqb-true j (suc n) f) (le_refl _)
    go before true e false f = let z = eqb-false j (suc n) f in let y = eqb-true i (suc n) e in let b = before j n (omega arith) (omega arith) in rw y (omega (arith, last))
    go before false e u f = let z = eqb-false i (suc n) e in before j i p (omega arith)

pub falls_first : (w : ℕ) (s : List ℕ) (from m k : ℕ) → never_falls w s from (m + k) ≡ true → never_falls w s from m ≡ true
unfolding never_falls
falls_first w s from m zero h = rw (add-zero m) at h
falls_first w s from m (suc k) h =
    falls_first w s from m k (and_left _ (leb (entry w s from (m + k)) (entry w s from (suc (m + k)))) (rw (add-suc m k) at h))

module _ (x : Join) (k w : ℕ) where
  -- offset j of those from slot on
  abbrev pub off : ℕ → ℕ → ℕ
  off slot j = entry w x.body (place x k 3 + w * slot) j

  pub off_later : (slot m j : ℕ) → off (slot + m) j ≡ off slot (m + j)
  off_later slot m j =
      let e : w * (slot + m) ≡ w * slot + w * m = mul-add w slot m in
      let f : w * (m + j) ≡ w * m + w * j = mul-add w m j in
      let g : place x k 3 + w * (slot + m) + w * j ≡ place x k 3 + w * slot + w * (m + j) = omega arith in
      ap (λ v. number w (drop v x.body)) g

  -- what a copy of n rows asks for, b bytes of data there
  pub record Fit (slot n b : ℕ) : Type 0 where
    pub offsets : rows_in x (place x k 3) w slot (suc n) ≡ true
    pub up : off slot 0 ≤ off slot n
    pub small : b ≤ largest w
    pub last : b + (off slot n - off slot 0) ≤ largest w
    pub chars : place x k 5 + off slot 0 + (off slot n - off slot 0) ≤ length x.body

  pub extended_fits : (slot n b : ℕ) → Fit slot n b → extended w x.body (place x k 3 + w * slot) n b ≡ Fits (b + (off slot n - off slot 0)) (off slot 0)
  unfolding extended
  extended_fits slot n b h =
      rw (le-ltb (off slot n) (off slot 0) h.up, le-ltb (largest w) b h.small, le-ltb (largest w) (b + (off slot n - off slot 0)) h.last)

  pub string_goes : (slot n : ℕ) (c : List ℕ) → (n ≡ 0 → ⊥) → Fit slot n (bytes c k) → Leaves (copy_string x k w slot n c) (set_bytes k (bytes c k + (off slot n - off slot 0)) c)
  unfolding put_string
  string_goes slot n c z h =
      rw (string_is x k w slot n c, ne_eqb n 0 z, extended_fits slot n (bytes c k) h)
      (leaves_need 12 c h.offsets
      (leaves_need 12 c (le-leb _ _ fits)
      (leaves_next _ (leaves_wrote _ c) (leaves_next _ (leaves_wrote _ c) (leaves_done _)))))
    where
      fits : place x k 5 + off slot 0 + (bytes c k + (off slot n - off slot 0) - bytes c k) ≤ length x.body
      fits = omega (arith, h.chars)

  -- what was asked for
  put_was : (slot n : ℕ) (c : List ℕ) (t u v : Bool) → ltb (off slot n) (off slot 0) ≡ t → ltb (largest w) (bytes c k) ≡ u → ltb (largest w) (bytes c k + (off slot n - off slot 0)) ≡ v
      → (put_extended x k w (place x k 3 + w * slot) n
      (cond t Falls (cond u Falls (cond v (over_at w x.body (place x k 3 + w * slot) n (bytes c k)) (Fits (moved w x.body (place x k 3 + w * slot) (bytes c k) n) (off slot 0))))) c).ans ≡ 0
      → rows_in x (place x k 3) w slot (suc n) ≡ true → Fit slot n (bytes c k)
  unfolding put_string fail over_at
  put_was slot n c true u v e f g h r = let z : ◌≡◌ {A = ℕ} 12 0 = h in absurd (omega arith)
  put_was slot n c false true v e f g h r = let z : ◌≡◌ {A = ℕ} 12 0 = h in absurd (omega arith)
  put_was slot n c false false true e f g h r = let z : ◌≡◌ {A = ℕ} 6 0 = h in absurd (omega arith)
  put_was slot n c false false false e f g h r =
      let q : place x k 5 + off slot 0 + (bytes c k + (off slot n - off slot 0) - bytes c k) ≤ length x.body = leb-true _ _ (need_was _ 12 c _ (omega arith) h) in
      record { offsets = r; up = ltb-false _ _ e; small = ltb-false _ _ f; last = ltb-false _ _ g; chars = omega arith }

  pub string_was : (slot n : ℕ) (c : List ℕ) → (copy_string x k w slot n c).ans ≡ 0 → (n ≡ 0 → ⊥) → Fit slot n (bytes c k)
  unfolding extended
  string_was slot n c h z =
      let g = rw (string_is x k w slot n c, ne_eqb n 0 z) at h in
      let r = need_was (rows_in x (place x k 3) w slot (suc n)) 12 c _ (omega arith) g in
      put_was slot n c (ltb (off slot n) (off slot 0)) (ltb (largest w) (bytes c k)) (ltb (largest w) (bytes c k + (off slot n - off slot 0))) refl refl refl
      (rw (need_is 12 c _ r) at g) r

  pub fit_first : (slot m s b : ℕ) → never_falls w x.body (place x k 3 + w * slot) (m + s) ≡ true → Fit slot (m + s) b → Fit slot m b
  unfolding rows_in
  fit_first slot m s b t h =
      let a = rises w x.body (place x k 3 + w * slot) (m + s) t 0 m (omega arith) (omega arith) in
      let d = rises w x.body (place x k 3 + w * slot) (m + s) t m (m + s) (omega arith) (omega arith) in
      let l = h.last in
      let g = h.chars in
      let o : place x k 3 + w * (slot + suc (m + s)) ≤ length x.body = leb-true _ _ h.offsets in
      let e : w * (slot + suc m) ≤ w * (slot + suc (m + s)) = mul-le-mul_left w (omega arith) in
      let p : place x k 3 + w * (slot + suc m) ≤ length x.body = omega arith in
      record { offsets = le-leb _ _ p; up = a; small = h.small; last = omega arith; chars = omega arith }

  pub fit_second : (slot m s b : ℕ) → never_falls w x.body (place x k 3 + w * slot) (m + s) ≡ true → Fit slot (m + s) b → Fit (slot + m) s (b + (off slot m - off slot 0))
  unfolding rows_in
  fit_second slot m s b t h =
      let a = rises w x.body (place x k 3 + w * slot) (m + s) t 0 m (omega arith) (omega arith) in
      let d = rises w x.body (place x k 3 + w * slot) (m + s) t m (m + s) (omega arith) (omega arith) in
      let z = off_later slot m 0 ∙ ap (off slot) (add-zero m) in
      let y = off_later slot m s in
      let l = h.last in
      let g = h.chars in
      let f : slot + suc (m + s) ≡ slot + m + suc s = omega arith in
      record { offsets = rw f at h.offsets; up = omega arith; small = omega arith; last = omega arith; chars = omega arith }

  -- BYTE STRINGS, cut where offsets never fall
  unfoldable pub strings_cut : (st : ℕ → ℕ → Bool) → ((slot n : ℕ) → st slot n ≡ never_falls w x.body (place x k 3 + w * slot) n) → largest w ≤ top → DataCuts x k st (λ slot n c. copy_string x k w slot n c)
  unfolding copy_string
  strings_cut st is big =
      record {
        amount = λ slot n. off slot n - off slot 0;
        passes = λ slot n b. (n ≡ 0 → ⊥) → Fit slot n b;
        was = λ slot n c h z. string_was slot n c h z;
        goes = λ slot n c h. by slot n c h (eqb n 0) refl;
        fits = λ slot n b h l. most slot n b h l (eqb n 0) refl;
        first = λ slot m s b t h z. fit_first slot m s b (sym (is slot (m + s)) ∙ t) (h (λ (e : m + s ≡ 0). z (omega arith)));
        second = λ slot m s b t h z. fit_second slot m s b (sym (is slot (m + s)) ∙ t) (h (λ (e : m + s ≡ 0). z (omega arith)));
        both = λ slot m s b t h.
            let a = rises w x.body (place x k 3 + w * slot) (m + s) (sym (is slot (m + s)) ∙ t) 0 m (omega arith) (omega arith) in
            let d = rises w x.body (place x k 3 + w * slot) (m + s) (sym (is slot (m + s)) ∙ t) m (m + s) (omega arith) (omega arith) in
            let z = off_later slot m 0 ∙ ap (off slot) (add-zero m) in
            let y = off_later slot m s in
            omega arith;
        none = λ slot m o b d q h z. absurd (z refl);
        nothing = λ o. omega arith;
      }
    where
      by : (slot n : ℕ) (c : List ℕ) → ((n ≡ 0 → ⊥) → Fit slot n (bytes c k)) → (t : Bool) → eqb n 0 ≡ t
          → Leaves (copy_string x k w slot n c) (set_bytes k (bytes c k + (off slot n - off slot 0)) c)
      by slot n c h true e =
          let z = eqb-true n 0 e in
          rw (z, no_bytes x k c (bytes c k + (off slot 0 - off slot 0)) (omega arith)) (leaves_done c)
      by slot n c h false e = string_goes slot n c (eqb-false n 0 e) (h (eqb-false n 0 e))

      most : (slot n b : ℕ) → ((n ≡ 0 → ⊥) → Fit slot n b) → b ≤ top → (t : Bool) → eqb n 0 ≡ t → b + (off slot n - off slot 0) ≤ top
      most slot n b h l true e = rw (eqb-true n 0 e) (omega arith)
      most slot n b h l false e = let g = (h (eqb-false n 0 e)).last in omega arith
