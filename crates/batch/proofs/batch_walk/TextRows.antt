-- Rows that are looked at one by one. Assumes nothing.
use mathlib.Core.Path.{◌≡◌, refl, sym, ap, subst}
use mathlib.Core.Bool.{Bool, true, false}
use Prim.Native.Nat.{ℕ, ◌+◌, ◌*◌, ◌≤◌, ◌<◌}
use native.Mathlib.Nat.{mul-add, mul-le-mul_left}
use native.Mathlib.Omega.{arith}
use lib.Dec.{eqb}
use borrow.Author.Tests.{eqb-true, eqb-false}
use Rattle.walk.specs.State.{grown, top}
use Rattle.batch.specs.Stretch.{sum_of}

-- rows that end at `end` at the latest
pub row_in : (at v o a m end len : ℕ) → a + m ≤ end → at + v * (o + end + 1) ≤ len → at + v * (o + a) + v * (m + 1) ≤ len
row_in at v o a m end len h g =
    let e : v * (o + a + (m + 1)) ≤ v * (o + end + 1) = mul-le-mul_left v (omega arith) in
    omega (arith, mul-add v (o + a) (m + 1))

pub rows_more : (P : ℕ → Type 0) (r : ℕ) → ((q : ℕ) → q < r → P q) → P r → (q : ℕ) → q < r + 1 → P q
rows_more P r h p q l = go (eqb q r) refl
  where
    go : (t : Bool) → eqb q r ≡ t → P q
    go true e = subst P (sym (eqb-true q r e)) p
    go false e = h q (let z = eqb-false q r e in omega arith)

pub not_top : (f : ℕ → ℕ) (r n : ℕ) {s : ℕ} → s ≡ grown 0 (sum_of f r) → r ≡ n → (s ≡ top → ⊥) → s ≡ sum_of f n
unfolding grown
not_top f r n {s} e h ne = go (eqb s top) refl
  where
    go : (t : Bool) → eqb s top ≡ t → s ≡ sum_of f n
    go true z = absurd (ne (eqb-true s top z))
    go false z = let y = eqb-false s top z in let g = ap (λ v. sum_of f v) h in omega arith
