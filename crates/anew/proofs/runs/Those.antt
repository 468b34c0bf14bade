-- Numbers of a range that pass a test: where they lie, and rows that a test parts into runs. Assumes nothing.
use mathlib.Core.Path.{◌≡◌, refl, sym, ap, ◌∙◌}
use mathlib.Core.Bool.{Bool, true, false, cond, true≢false}
use mathlib.Core.List.{List, [], ◌∷◌, ◌++◌}
use Prim.Native.Nat.{ℕ, zero, suc, ◌+◌, ◌≤◌, ◌<◌}
use native.Mathlib.Nat.{add-zero, zero-add, suc-add}
use native.Mathlib.Omega.{arith}
use lib.ListN.{length, get_or}
use Rattle.anew.specs.runs.Runs.{those}

-- e is one of those from lo on and below hi that pass
pub record Among (p : ℕ → Bool) (lo hi e : ℕ) : Type 0 where
  pub from : lo ≤ e
  pub below : e < hi
  pub passes : p e ≡ true

shift : (a i : ℕ) → suc a + i ≡ a + suc i
shift a i = omega arith

module _ (p : ℕ → Bool) where
  pub those_are : (n r k : ℕ) → k < length (those p r n) → Among p r (r + n) (get_or (those p r n) k 0)
  those_are zero r k h = absurd (omega arith)
  those_are (suc n) r k h = go (p r) refl (those p (suc r) n) (λ j q. those_are n (suc r) j q) k h
    where
      wider : {e : ℕ} → Among p (suc r) (suc r + n) e → Among p r (r + suc n) e
      wider z = record { from = omega (arith, z.from); below = omega (arith, z.below); passes = z.passes }

      go : (b : Bool) → p r ≡ b → (l : List ℕ) → ((j : ℕ) → j < length l → Among p (suc r) (suc r + n) (get_or l j 0)) → (k : ℕ)
          → k < length (cond b (r ∷ l) l) → Among p r (r + suc n) (get_or (cond b (r ∷ l) l) k 0)
      go true e l f zero h = record { from = omega arith; below = omega arith; passes = e }
      go true e l f (suc k) h = wider (f k (omega arith))
      go false e l f k h = wider (f k h)

  -- in rising order
  pub those_rise : (n r k : ℕ) → suc k < length (those p r n) → get_or (those p r n) k 0 < get_or (those p r n) (suc k) 0
  those_rise zero r k h = absurd (omega arith)
  those_rise (suc n) r k h = go (p r) (those p (suc r) n) (λ q. (those_are n (suc r) 0 q).from) (λ j q. those_rise n (suc r) j q) k h
    where
      go : (b : Bool) (l : List ℕ) → (0 < length l → suc r ≤ get_or l 0 0) → ((j : ℕ) → suc j < length l → get_or l j 0 < get_or l (suc j) 0) → (k : ℕ)
          → suc k < length (cond b (r ∷ l) l) → get_or (cond b (r ∷ l) l) k 0 < get_or (cond b (r ∷ l) l) (suc k) 0
      go true l f g zero h = f (omega arith)
      go true l f g (suc k) h = g k (omega arith)
      go false l f g k h = g k h

  pub those_few : (n r : ℕ) → length (those p r n) ≤ n
  those_few zero r = omega arith
  those_few (suc n) r = go (p r) (those p (suc r) n) (those_few n (suc r))
    where
      go : (b : Bool) (l : List ℕ) → length l ≤ n → length (cond b (r ∷ l) l) ≤ suc n
      go true l h = omega arith
      go false l h = omega arith

  -- where the last number passes, there is one, and the last of them is that number
  pub those_some : (n r : ℕ) → p (r + n) ≡ true → 0 < length (those p r (suc n))
  those_some zero r e = rw (ap p (sym (add-zero r)) ∙ e) (omega arith)
  those_some (suc n) r e = go (p r) (those p (suc r) (suc n)) (those_some n (suc r) (ap p (shift r n) ∙ e))
    where
      go : (b : Bool) (l : List ℕ) → 0 < length l → 0 < length (cond b (r ∷ l) l)
      go true l h = omega arith
      go false l h = h

  pub those_last : (n r : ℕ) → p (r + n) ≡ true → (k : ℕ) → length (those p r (suc n)) ≡ suc k → get_or (those p r (suc n)) k 0 ≡ r + n
  those_last zero r e k h = go (p r) (ap p (sym (add-zero r)) ∙ e) k h
    where
      go : (b : Bool) → b ≡ true → (k : ℕ) → length (cond b (r ∷ []) []) ≡ suc k → get_or (cond b (r ∷ []) []) k 0 ≡ r + 0
      go true e zero h = omega arith
      go true e (suc k) h = absurd (omega arith)
      go false e k h = absurd (true≢false (sym e))
  those_last (suc n) r e k h =
      let f = ap p (shift r n) ∙ e in go (p r) (those p (suc r) (suc n)) (those_some n (suc r) f) (λ j q. those_last n (suc r) f j q ∙ shift r n) k h
    where
      go : (b : Bool) (l : List ℕ) → 0 < length l → ((j : ℕ) → length l ≡ suc j → get_or l j 0 ≡ r + suc n) → (k : ℕ) → length (cond b (r ∷ l) l) ≡ suc k
          → get_or (cond b (r ∷ l) l) k 0 ≡ r + suc n
      go true l o f zero h = absurd (omega arith)
      go true l o f (suc k) h = f k (omega arith)
      go false l o f k h = f k h

  -- those of a range are those of its first part, and behind them those of the rest
  pub those_split : (a b r : ℕ) → those p r (a + b) ≡ those p r a ++ those p (r + a) b
  those_split zero b r = rw (zero-add, add-zero)
  those_split (suc a) b r = rw (suc-add, ← shift r a) (go (p r) (those p (suc r) (a + b)) (those p (suc r) a) (those p (suc r + a) b) (those_split a b (suc r)))
    where
      go : (c : Bool) (l s t : List ℕ) → l ≡ s ++ t → cond c (r ∷ l) l ≡ cond c (r ∷ s) s ++ t
      go true l s t e = ap (r ∷◌) e
      go false l s t e = e
