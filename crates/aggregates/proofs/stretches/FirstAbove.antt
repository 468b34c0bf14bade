-- The first run whose end is above a slot holds every slot up to its end. Assumes nothing.
use Rattle.std.proofs.Common.{◌≡◌, ℕ, zero, suc, ◌+◌, ◌<◌, ◌≤◌, Bool, true, false, cond, ltb, refl, ap, ◌∙◌, arith, ltb-false, ltb-true, le-ltb, lt-ltb}
use Rattle.run_ends.specs.Lookup.{scan}
use Rattle.columnar.specs.RunEnd.{first_above}

-- its end is above the slot
pub first_above_lem : (e : ℕ → ℕ) (i a n : ℕ) → first_above e i a n < a + n → i < e (first_above e i a n)
first_above_lem e i a zero h = absurd (omega arith)
first_above_lem e i a (suc n) h = go (ltb i (e a)) refl h (λ l. first_above_lem e i (suc a) n l)
  where
    go : (b : Bool) → ltb i (e a) ≡ b → elim b [ true ↦ a | false ↦ first_above e i (suc a) n ] < a + suc n
        → (first_above e i (suc a) n < suc a + n → i < e (first_above e i (suc a) n)) → i < e (elim b [ true ↦ a | false ↦ first_above e i (suc a) n ])
    go true p l ih = ltb-true i (e a) p
    go false p l ih = ih (omega arith)

-- a later slot below that end has the same run
pub stays : (e : ℕ → ℕ) (i k a n : ℕ) → i ≤ k → k < e (first_above e i a n) → first_above e k a n ≡ first_above e i a n
stays e i k a zero l h = refl
stays e i k a (suc n) l h = go (ltb i (e a)) refl h (λ q. stays e i k (suc a) n l q)
  where
    go : (b : Bool) → ltb i (e a) ≡ b → k < e (elim b [ true ↦ a | false ↦ first_above e i (suc a) n ])
        → (k < e (first_above e i (suc a) n) → first_above e k (suc a) n ≡ first_above e i (suc a) n)
        → ◌≡◌ {A = ℕ} (elim (ltb k (e a)) [ true ↦ a | false ↦ first_above e k (suc a) n ]) (elim b [ true ↦ a | false ↦ first_above e i (suc a) n ])
    go true p q ih = ap {B = ℕ} (λ t. elim t [ true ↦ a | false ↦ first_above e k (suc a) n ]) (lt-ltb k (e a) q)
    go false p q ih = ap {B = ℕ} (λ t. elim t [ true ↦ a | false ↦ first_above e k (suc a) n ]) (le-ltb k (e a) (omega (arith, ltb-false i (e a) p))) ∙ ih q

pub scanned : (e : ℕ → ℕ) (x n i : ℕ) → scan e x n i ≡ first_above e x i n
unfolding scan
scanned e x zero i = refl
scanned e x (suc n) i = go (ltb x (e i)) (scanned e x n (suc i))
  where
    go : (b : Bool) → scan e x n (suc i) ≡ first_above e x (suc i) n → cond b i (scan e x n (suc i)) ≡ elim b [ true ↦ i | false ↦ first_above e x (suc i) n ]
    go true p = refl
    go false p = p
