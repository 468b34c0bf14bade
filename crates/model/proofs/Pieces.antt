-- Pieces of w bytes of a buffer that grows, numbers below a sum, and stretches. Assumes nothing.
use mathlib.Core.Path.{◌≡◌, refl, ap₂, ◌∙◌, subst}
use mathlib.Core.List.{List, [], ◌∷◌, ◌++◌}
use Prim.Native.Nat.{ℕ, zero, suc, ◌+◌, ◌-◌, ◌*◌, ◌≤◌, ◌<◌}
use native.Mathlib.Nat.{add-zero, add-mul}
use native.Mathlib.Decide.{dec_lt}
use native.Mathlib.Omega.{arith}
use lib.ListN.{length, take, drop, length-drop}
use lib.Seq.{take-append-le, drop-append-le, drop-append-add, take-take, drop-drop}
use Rattle.columnar.specs.Row.{seg}
use Rattle.columnar.proofs.Items.{entry_end}
use Rattle.model.proofs.Bits.{shift}

-- ---- numbers below a sum

-- below l + n: below l, or so far above it
pub below_add : (Q : ℕ → Type 0) (l n : ℕ) → ((i : ℕ) → i < l → Q i) → ((i : ℕ) → i < n → Q (l + i)) → (i : ℕ) → i < l + n → Q i
below_add Q l n f g i q = go (dec_lt i l)
  where
    go : Dec (i < l) → Q i
    go (yes p) = f i p
    go (no p) = let e : l + (i - l) ≡ i = omega arith in subst Q e (g (i - l) (omega arith))

-- two stretches of the same, from different starts
pub seg_shift : {A : Type 0} (f g : ℕ → A) (a b n : ℕ) → ((i : ℕ) → i < n → f (a + i) ≡ g (b + i)) → seg f a n ≡ seg g b n
seg_shift f g a b zero h = refl
seg_shift f g a b (suc n) h =
    ap₂ ◌∷◌ (rw (add-zero a, add-zero b) at (h 0 (omega arith)))
    (seg_shift f g (suc a) (suc b) n (λ i k. rw (shift a i, shift b i) (h (suc i) (omega arith))))

-- ---- pieces

-- what is cut out of a cut
pub cut_cut : {A : Type 0} (w i n : ℕ) (l : List A) → i + w ≤ n → take w (drop i (take n l)) ≡ take w (drop i l)
cut_cut w zero n l h = take-take w n l (omega arith)
cut_cut w (suc i) zero l h = absurd (omega arith)
cut_cut w (suc i) (suc n) [] h = refl
cut_cut w (suc i) (suc n) (x ∷ l) h = cut_cut w i n l (omega arith)

module _ (w : ℕ) (xs ys : List ℕ) where
  -- a piece before the seam
  pub piece_left : (i n : ℕ) → n * w ≤ length xs → i < n → take w (drop (i * w) (xs ++ ys)) ≡ take w (drop (i * w) xs)
  piece_left i n h k =
      let e : i * w + w ≤ n * w = entry_end w k in
      let f : i * w ≤ length xs = omega arith in
      let g : w ≤ length (drop (i * w) xs) = simp length-drop (omega arith) in
      rw (drop-append-le, take-append-le)

  -- a piece behind it
  pub piece_right : (n i : ℕ) → length xs ≡ n * w → take w (drop ((n + i) * w) (xs ++ ys)) ≡ take w (drop (i * w) ys)
  piece_right n i e = rw (add-mul, ← e, drop-append-add)

-- a piece of entries cut out of a buffer
pub piece_cut : (w a n : ℕ) (xs : List ℕ) (i : ℕ) → i < n → take w (drop (i * w) (take (n * w) (drop (a * w) xs))) ≡ take w (drop ((a + i) * w) xs)
piece_cut w a n xs i k = cut_cut w (i * w) (n * w) (drop (a * w) xs) (entry_end w k) ∙ rw (add-mul, drop-drop)
