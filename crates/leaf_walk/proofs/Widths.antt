-- The widths of a format's entries, as the walk's functions ask for them. Assumes nothing.
use mathlib.Core.Path.{◌≡◌, refl}
use mathlib.Core.Bool.{Bool, true, false, cond, ◌&&◌}
use Prim.Native.Nat.{ℕ, zero, suc, ◌<◌}
use native.Mathlib.Omega.{arith}
use lib.Dec.{leb, eqb}
use borrow.Author.Tests.{leb-true, eqb-true, eqb-false, ne_eqb}
use Rattle.schema.specs.formats.Code.{is_fixed, is_string, is_list_view, is_list, width_of}
use Rattle.array_data.proofs.lent_tables.Laws.{and_left, and_right}

-- a test of the numbers below n, one by one
below : (ℕ → Bool) → ℕ → Bool
below f zero = true
below f (suc n) = f n && below f n

every : (f : ℕ → Bool) (n k : ℕ) → below f n ≡ true → k < n → f k ≡ true
unfolding below
every f zero k h l = absurd (omega arith)
every f (suc n) k h l = go (eqb k n) refl (λ m. every f n k (and_right (f n) _ h) m)
  where
    go : (t : Bool) → eqb k n ≡ t → (k < n → f k ≡ true) → f k ≡ true
    go true e r = rw (eqb-true k n e) (and_left (f n) _ h)
    go false e r = r (omega (arith, eqb-false k n e))

four : ℕ → Bool
four w = cond (eqb w 4) true (eqb w 8)

one : ℕ → Bool
one w = cond (eqb w 1) true (cond (eqb w 2) true (four w))

test : (is ok : ℕ → Bool) → ℕ → Bool
test is ok k = cond (is k) (ok (width_of k)) true

passed : (is ok : ℕ → Bool) (k : ℕ) → test is ok k ≡ true → is k ≡ true → ok (width_of k) ≡ true
unfolding test
passed is ok k h e = rw e at h

-- numbers and keys
pub fixed_width : (code : ℕ) → is_fixed code ≡ true → (width_of code ≡ 1 → ⊥) → (width_of code ≡ 2 → ⊥) → (width_of code ≡ 4 → ⊥) → width_of code ≡ 8
unfolding below test one four
fixed_width code h a b c =
    let l : code < 24 = omega (arith, leb-true code 10 (and_right (leb 1 code) _ h)) in
    let w = width_of code in
    eqb-true w 8 (rw (ne_eqb w 1 a, ne_eqb w 2 b, ne_eqb w 4 c) at (passed is_fixed one code (every (test is_fixed one) 24 code refl l) h))

-- offsets of byte strings
pub string_width : (code : ℕ) → is_string code ≡ true → (width_of code ≡ 4 → ⊥) → width_of code ≡ 8
unfolding below test four
string_width code h a =
    let l : code < 24 = omega (arith, leb-true code 14 (and_right (leb 11 code) _ h)) in
    let w = width_of code in
    eqb-true w 8 (rw (ne_eqb w 4 a) at (passed is_string four code (every (test is_string four) 24 code refl l) h))

-- offsets of list-views
pub list_width : (code : ℕ) → is_list_view code ≡ true → (width_of code ≡ 4 → ⊥) → width_of code ≡ 8
unfolding below test four
list_width code h a =
    let l : code < 24 = omega (arith, leb-true code 18 (and_right (leb 17 code) _ h)) in
    let w = width_of code in
    eqb-true w 8 (rw (ne_eqb w 4 a) at (passed is_list_view four code (every (test is_list_view four) 24 code refl l) h))

-- offsets of lists
pub lists_width : (code : ℕ) → is_list code ≡ true → (width_of code ≡ 4 → ⊥) → width_of code ≡ 8
unfolding below test four
lists_width code h a =
    let l : code < 24 = omega (arith, leb-true code 20 (and_right (leb 19 code) _ h)) in
    let w = width_of code in
    eqb-true w 8 (rw (ne_eqb w 4 a) at (passed is_list four code (every (test is_list four) 24 code refl l) h))
