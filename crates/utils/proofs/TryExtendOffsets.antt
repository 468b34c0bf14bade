-- `extended` and `movedOffsets` say what the Rust's `try_extend_offsets` does, over every width. Assumes nothing.
use Rattle.std.proofs.Common.{◌≡◌, ℕ, zero, suc, ◌+◌, ◌-◌, ◌*◌, ◌%◌, ◌^◌, ◌<◌, ◌≤◌, Bool, true, false, ltb, leb, List, length, refl, ap, ◌∙◌, mod-eq_of_lt, add-one, arith, ltb-false, ltb-true, le-ltb, lt-ltb, le-leb, leb-true}
use native.Mathlib.Nat.{add-mod_right, one-le-pow}
use Rattle.number.specs.Number.{entry, splice}
use Rattle.utils.specs.Pieces.{numbers}
use Rattle.utils.specs.Offsets.{largest, moved, moved_offsets}
use Rattle.utils.specs.Extension.{over_at, extended}
use Rattle.utils.specs.TryExtendOffsets.{ok, err, push, checked, windows, try_extend_offsets, listed, NeverFalls, answer_of}
use Rattle.utils.specs.declared.Extended.TheVariants.{Fits, Falls}
use Rattle.utils.proofs.Pieces.{numbers_same, entry_splice}

-- a later offset is not below an earlier one
pub rises : (f : ℕ → ℕ) (n : ℕ) → NeverFalls f n → (j k : ℕ) → j ≤ k → k ≤ n → f j ≤ f k
rises f n h j zero l m = let e : j ≡ 0 = omega arith in rw e (omega arith)
rises f n h j (suc k) l m = go (ltb k j) refl (λ g. rises f n h j k g (omega arith))
  where
    go : (b : Bool) → ltb k j ≡ b → (j ≤ k → f j ≤ f k) → f j ≤ f (suc k)
    go true t r = let g : k < j = ltb-true _ _ t in let e : j ≡ suc k = omega arith in rw e (omega arith)
    go false t r =
        let s : f k ≤ f (suc k) = rw add-one at (h k (omega arith)) in
        omega (arith, r (ltb-false _ _ t))

later : (f : ℕ → ℕ) (n : ℕ) → NeverFalls f (suc n) → NeverFalls (λ k. f (suc k)) n
later f n h k l = let e : suc k + 1 ≡ suc (k + 1) = omega arith in rw e at (h (suc k) (omega arith))

listed_same : (f g : ℕ → ℕ) (n : ℕ) → ((k : ℕ) → k < n → f k ≡ g k) → listed f n ≡ listed g n
unfolding listed
listed_same f g zero h = refl
listed_same f g (suc n) h = rw (h 0 (omega arith), listed_same (λ k. f (suc k)) (λ k. g (suc k)) n (λ k l. h (suc k) (omega arith)))

-- the windows push the new offsets where the last one fits
pushes : (f : ℕ → ℕ) (max last n : ℕ) → NeverFalls f n → last + (f n - f 0) ≤ max
    → windows max last (f 0) (listed (λ k. f (suc k)) n) ≡ ok (listed (λ k. last + (f (suc k) - f 0)) n)
unfolding windows listed
pushes f max last zero h g = refl
pushes f max last (suc n) h g =
    let a : f 0 ≤ f 1 = h 0 (omega arith) in
    let b : f 1 ≤ f (suc n) = rises f (suc n) h 1 (suc n) (omega arith) (omega arith) in
    let d : (k : ℕ) → k < n → last + (f 1 - f 0) + (f (suc (suc k)) - f 1) ≡ last + (f (suc (suc k)) - f 0)
    = λ k l. omega (arith, rises f (suc n) h 1 (suc (suc k)) (omega arith) (omega arith)) in
    rw (
      le-leb (last + (f 1 - f 0)) max (omega arith),
      pushes (λ k. f (suc k)) max (last + (f 1 - f 0)) n (later f n h) (omega arith),
      listed_same (λ k. last + (f 1 - f 0) + (f (suc (suc k)) - f 1)) (λ k. last + (f (suc (suc k)) - f 0)) n d,
    )

-- and fail where it does not
fails : (f : ℕ → ℕ) (max last n : ℕ) → NeverFalls f n → last ≤ max → max < last + (f n - f 0)
    → windows max last (f 0) (listed (λ k. f (suc k)) n) ≡ err
unfolding windows listed
fails f max last zero h m g = absurd (omega arith)
fails f max last (suc n) h m g =
    let a : f 0 ≤ f 1 = h 0 (omega arith) in
    let b : f 1 ≤ f (suc n) = rises f (suc n) h 1 (suc n) (omega arith) (omega arith) in
    go (leb (last + (f 1 - f 0)) max) refl
    (λ l. fails (λ k. f (suc k)) max (last + (f 1 - f 0)) n (later f n h) l (omega arith))
  where
    go : (b : Bool) → leb (last + (f 1 - f 0)) max ≡ b
        → (last + (f 1 - f 0) ≤ max → windows max (last + (f 1 - f 0)) (f 1) (listed (λ k. f (suc (suc k))) n) ≡ err)
        → checked b (push (last + (f 1 - f 0)) (windows max (last + (f 1 - f 0)) (f 1) (listed (λ k. f (suc (suc k))) n))) ≡ err
    go true t r = rw (r (leb-true _ _ t))
    go false t r = refl

module _ (w : ℕ) (s : List ℕ) (from n last : ℕ) (h : NeverFalls (λ k. entry w s from k) n) where
  pub over_is : last ≤ largest w → largest w < moved w s from last n → extended w s from n last ≡ over_at w s from n last
  unfolding extended
  over_is g l =
      rw (
        le-ltb (entry w s from n) (entry w s from 0) (rises (λ k. entry w s from k) n h 0 n (omega arith) (omega arith)),
        le-ltb (largest w) last g,
        lt-ltb (largest w) (moved w s from last n) l,
      )

  pub fits_is : last ≤ largest w → moved w s from last n ≤ largest w → extended w s from n last ≡ Fits (moved w s from last n) (entry w s from 0)
  unfolding extended
  fits_is g l =
      rw (
        le-ltb (entry w s from n) (entry w s from 0) (rises (λ k. entry w s from k) n h 0 n (omega arith) (omega arith)),
        le-ltb (largest w) last g,
        le-ltb (largest w) (moved w s from last n) l,
      )

  -- the Rust pushes the new offsets exactly where we say Fits, and errs exactly where we say Over
  pub agrees : last ≤ largest w
      → try_extend_offsets (largest w) last (listed (λ k. entry w s from k) (suc n)) ≡ answer_of (extended w s from n last) (listed (λ k. moved w s from last (k + 1)) n)
  unfolding listed over_at
  agrees g = go (ltb (largest w) (moved w s from last n)) refl
    where
      go : (b : Bool) → ltb (largest w) (moved w s from last n) ≡ b
          → windows (largest w) last (entry w s from 0) (listed (λ k. entry w s from (suc k)) n) ≡ answer_of (extended w s from n last) (listed (λ k. moved w s from last (k + 1)) n)
      go true t =
          let l : largest w < moved w s from last n = ltb-true _ _ t in
          rw (over_is g l) (fails (λ k. entry w s from k) (largest w) last n h g l)
      go false t =
          let l : moved w s from last n ≤ largest w = ltb-false _ _ t in
          rw (fits_is g l)
          (pushes (λ k. entry w s from k) (largest w) last n h l
          ∙ ap ok (listed_same (λ k. moved w s from last (suc k)) (λ k. moved w s from last (k + 1)) n (λ k l. rw add-one)))

  -- an accepted source and a destination whose last offset fits never give Falls
  pub not_falls : last ≤ largest w → extended w s from n last ≡ Falls → ⊥
  unfolding over_at
  not_falls g e = go (ltb (largest w) (moved w s from last n)) refl
    where
      go : (b : Bool) → ltb (largest w) (moved w s from last n) ≡ b → ⊥
      go true t = let z : ◌≡◌ {A = ℕ} 0 1 = cc (over_is g (ltb-true _ _ t), e) in omega arith
      go false t = let z : ◌≡◌ {A = ℕ} 0 1 = cc (fits_is g (ltb-false _ _ t), e) in omega arith

  -- where the offsets fit, no sum wraps: the bytes written are those of the new offsets
  pub no_wrap : moved w s from last n ≤ largest w → moved_offsets w s from last n ≡ numbers w (λ k. moved w s from last (k + 1)) n
  unfolding moved_offsets
  no_wrap g = numbers_same w _ (λ k. moved w s from last (k + 1)) n same
    where
      same : (k : ℕ) → k < n → (last + (entry w s from (k + 1) + 256 ^ w - entry w s from 0)) % 256 ^ w ≡ moved w s from last (k + 1)
      same k l =
          let a = rises (λ k. entry w s from k) n h 0 (k + 1) (omega arith) (omega arith) in
          let b = rises (λ k. entry w s from k) n h (k + 1) n (omega arith) (omega arith) in
          let p = one-le-pow w 256 (omega arith) in
          let e : last + (entry w s from (k + 1) + 256 ^ w - entry w s from 0) ≡ moved w s from last (k + 1) + 256 ^ w = omega arith in
          let u : moved w s from last (k + 1) < 256 ^ w = omega arith in
          rw (e, add-mod_right, mod-eq_of_lt u)

  -- so each new offset is read back as it should be
  pub reads_back : moved w s from last n ≤ largest w → (at : ℕ) (room : List ℕ) → at + w * n ≤ length room → (k : ℕ) → k < n
      → entry w (splice at (moved_offsets w s from last n) room) at k ≡ moved w s from last (k + 1)
  reads_back g at room r k l =
      let b = rises (λ k. entry w s from k) n h (k + 1) n (omega arith) (omega arith) in
      let p = one-le-pow w 256 (omega arith) in
      let u : moved w s from last (k + 1) < 256 ^ w = omega arith in
      rw (no_wrap g, entry_splice w (λ k. moved w s from last (k + 1)) n at room r k l, mod-eq_of_lt u)
