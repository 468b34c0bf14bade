-- Arrays stored wider: validity, null counts and rows, from what holds of their bodies. Assumes nothing.
use mathlib.Core.Path.{◌≡◌, refl, ap₂}
use mathlib.Core.Bool.{Bool, true, false, cond}
use mathlib.Core.Option.{Option, none, some}
use mathlib.Core.List.{List, ◌∷◌}
use Prim.Native.Nat.{ℕ, zero, suc, ◌+◌, ◌^◌, ◌≤◌, ◌<◌}
use native.Mathlib.Nat.{add-zero, pow-le-pow_right}
use native.Mathlib.Omega.{arith}
use lib.Dec.{T}
use Rattle.columnar.specs.Row.{Row, seg}
use Rattle.columnar.specs.Types.{half}
use Rattle.columnar.specs.Array.{Array, ok, sight, read_with, nulls_in, null_count_of, Mask, Obeys}
use Rattle.columnar.specs.Wider.{Validity, no_bits, bits, Kept}

-- a wider signed number reaches higher
pub half_mono : {w w' : ℕ} → w ≤ w' → half w ≤ half w'
half_mono {w} {w'} h = let e : 256 ^ w ≤ 256 ^ w' = pow-le-pow_right (omega arith) h in omega arith

shift : (a i : ℕ) → suc a + i ≡ a + suc i
shift a i = omega arith

-- stretches of the same rows
pub seg_same : {A : Type 0} (f g : ℕ → A) (a n : ℕ) → ((i : ℕ) → i < n → f (a + i) ≡ g (a + i)) → seg f a n ≡ seg g a n
seg_same f g a zero h = refl
seg_same f g a (suc n) h =
    ap₂ ◌∷◌ (rw add-zero at (h 0 (omega arith))) (seg_same f g (suc a) n (λ i q. rw shift (h (suc i) (omega arith))))

-- of two tests that agree, as many fail
pub nulls_in_same : (f g : ℕ → Bool) (a n : ℕ) → ((i : ℕ) → i < n → f (a + i) ≡ g (a + i)) → nulls_in f a n ≡ nulls_in g a n
nulls_in_same f g a zero h = refl
nulls_in_same f g a (suc n) h =
    ap₂ (λ b m. cond b 0 1 + m) (rw add-zero at (h 0 (omega arith))) (nulls_in_same f g (suc a) n (λ i q. rw shift (h (suc i) (omega arith))))

bits_same : {v v' : Option (List ℕ)} {off len : ℕ} → Validity off len v v' → (i : ℕ) → i < len → ok v (off + i) ≡ ok v' (off + i)
bits_same no_bits i q = refl
bits_same (bits m m' h k) i q = k i q

mask_same : (b : Bool) {v v' : Option (List ℕ)} {off len : ℕ} → Validity off len v v' → Mask b v (off + len) → Mask b v' (off + len)
mask_same b no_bits k = tt
mask_same true (bits m m' h j) k = h
mask_same false (bits m m' h j) k = absurd k

module _ {B B' : Type 0} {same : (ℕ → Bool) → B → B' → ℕ → ℕ → Type 0} {x : Array B} {x' : Array B'} (h : Kept same x x') where
  -- a row is valid in both or in neither
  pub ok_kept : (i : ℕ) → i < x.len → ok x.valid (x.off + i) ≡ ok x'.valid (x'.off + i)
  ok_kept i q = rw (← h.same_off) (bits_same h.same_valid i q)

  pub mask_kept : (b : Bool) → Mask b x.valid (x.off + x.len) → Mask b x'.valid (x'.off + x'.len)
  mask_kept b k = rw (← h.same_off, ← h.same_len) (mask_same b h.same_valid k)

  -- THE NULL COUNT IS THE SAME
  pub nulls_kept : null_count_of x ≡ null_count_of x'
  nulls_kept =
      rw (← h.same_off, ← h.same_len)
      (nulls_in_same (ok x.valid) (ok x'.valid) x.off x.len (bits_same h.same_valid))

-- What a kind owes: it may have validity in both or in neither, a valid slot holds the same, and the rule of a source holds again. The validity of the wide array may be another list.
pub record Widens {B B' : Type 0} (masks masks' : Bool) (at : B → ℕ → Row) (at' : B' → ℕ → Row) (rule : (ℕ → Bool) → B → ℕ → ℕ → Type 0) (rule' : (ℕ → Bool) → B' → ℕ → ℕ → Type 0)
    (same : (ℕ → Bool) → B → B' → ℕ → ℕ → Type 0) : Type 0 where
  pub masks_same : masks ≡ masks'
  pub at_same : (okay : ℕ → Bool) (b : B) (b' : B') (off len : ℕ) → same okay b b' off len → rule okay b off len
      → (i : ℕ) → i < len → T (okay (off + i)) → at b (off + i) ≡ at' b' (off + i)
  pub rule_same : (okay okay' : ℕ → Bool) (b : B) (b' : B') (off len : ℕ) → same okay b b' off len → ((i : ℕ) → i < len → okay (off + i) ≡ okay' (off + i))
      → rule okay b off len → rule' okay' b' off len

module _ {B B' : Type 0} {masks masks' : Bool} {at : B → ℕ → Row} {at' : B' → ℕ → Row} {rule : (ℕ → Bool) → B → ℕ → ℕ → Type 0} {rule' : (ℕ → Bool) → B' → ℕ → ℕ → Type 0}
    {same : (ℕ → Bool) → B → B' → ℕ → ℕ → Type 0} (u : Widens masks masks' at at' rule rule' same) {x : Array B} {x' : Array B'} (h : Kept same x x') (s : Obeys masks rule x) where
  -- every row reads the same
  pub read_kept : (i : ℕ) → i < x.len → read_with at x i ≡ read_with at' x' i
  read_kept i q =
      rw (← ok_kept h i q, ← h.same_off)
      (go (ok x.valid (x.off + i)) (u.at_same (ok x.valid) x.body x'.body x.off x.len h.same_body s.slots i q))
    where
      go : (c : Bool) → (T c → at x.body (x.off + i) ≡ at' x'.body (x.off + i)) → sight c (at x.body (x.off + i)) ≡ sight c (at' x'.body (x.off + i))
      go true e = e tt
      go false e = refl

  -- the wide array obeys the rules again
  pub obeys_kept : Obeys masks' rule' x'
  obeys_kept =
      record {
        mask = rw (← u.masks_same) (mask_kept h masks s.mask);
        slots = rw (← h.same_off, ← h.same_len)
            (u.rule_same (ok x.valid) (ok x'.valid) x.body x'.body x.off x.len h.same_body
            (bits_same h.same_valid) s.slots);
      }
