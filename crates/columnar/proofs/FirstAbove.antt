-- The first run whose end is above a slot. Assumes nothing.
use mathlib.Core.Path.{◌≡◌, refl, ap, ◌∙◌}
use mathlib.Core.Bool.{Bool, true, false}
use Prim.Native.Nat.{ℕ, zero, suc, ◌+◌, ◌<◌}
use native.Mathlib.Nat.{add-zero, zero-add}
use native.Mathlib.Omega.{arith}
use lib.Dec.{ltb}
use borrow.Author.Tests.{ltb-false}
use Rattle.columnar.specs.RunEnd.{first_above, start_of}

shift : (a i : ℕ) → suc a + i ≡ a + suc i
shift a i = omega arith

-- the same ends, the same run
pub first_same : (e f : ℕ → ℕ) (i k n : ℕ) → ((j : ℕ) → j < n → e (k + j) ≡ f (k + j)) → first_above e i k n ≡ first_above f i k n
first_same e f i k zero h = refl
first_same e f i k (suc n) h =
    ap {B = ℕ} (λ x. elim (ltb i x) [ true ↦ k | false ↦ first_above e i (suc k) n ]) (rw add-zero at (h 0 (omega arith)))
    ∙ go (ltb i (f k)) (first_same e f i (suc k) n (λ j q. rw shift (h (suc j) (omega arith))))
  where
    go : (b : Bool) → first_above e i (suc k) n ≡ first_above f i (suc k) n
        → ◌≡◌ {A = ℕ} (elim b [ true ↦ k | false ↦ first_above e i (suc k) n ]) (elim b [ true ↦ k | false ↦ first_above f i (suc k) n ])
    go true z = refl
    go false z = z

-- where the last end is above i, there is such a run
first_in : (e : ℕ → ℕ) (i k m : ℕ) → i < e (k + m) → first_above e i k (suc m) < k + suc m
first_in e i k zero h = go (ltb i (e k)) refl
  where
    go : (b : Bool) → ltb i (e k) ≡ b → elim b [ true ↦ k | false ↦ suc k ] < k + 1
    go true z = omega arith
    go false z = absurd (omega (arith, ltb-false i (e k) z, rw add-zero at h))
first_in e i k (suc m) h = go (ltb i (e k)) (first_in e i (suc k) m (rw shift h))
  where
    go : (b : Bool) → first_above e i (suc k) (suc m) < suc k + suc m → elim b [ true ↦ k | false ↦ first_above e i (suc k) (suc m) ] < k + suc (suc m)
    go true z = omega arith
    go false z = rw (← shift k (suc m)) z

-- the n runs cover the slots below start_of e n
pub first_below : (e : ℕ → ℕ) (i n : ℕ) → i < start_of e n → first_above e i 0 n < n
first_below e i zero h = absurd (omega arith)
first_below e i (suc m) h = rw zero-add at (first_in e i 0 m (rw zero-add h))
