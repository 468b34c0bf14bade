-- Sums over the integers by natural numbers. Assumes nothing.
use Rattle.std.proofs.Common.{◌≡◌, ℕ, suc, ◌+◌, ◌-◌, ◌*◌, ◌/◌, ◌%◌, ◌<◌, ◌≤◌, Bool, true, false, ltb, List, [], ◌∷◌, ◌++◌, ℤ, pos, negsuc, ◌+ℤ◌, ◌-ℤ◌, sym, refl, ap, ◌∙◌, ap₂, mod-lt, suc-mul, add-mul, div-add-mod', arith, le-ltb, lt-ltb}
use lib.IntN.{sub_ℕ, +ℤ_assoc, +ℤ_comm, +ℤ_idl, pos-+ℤ-pos, -ℤ-+ℤ_cancel, +ℤ-neg_ℤ_cancel}
use Rattle.columnar.specs.Row.{Row, null, whole, single, double, bytes, list, union}
use Rattle.aggregates.specs.tally.Sums.{number_in, count_of, sum_of}
use Rattle.aggregates.specs.tally.Cells.{whole_cell, cell_of, bits_of, below_of}

-- (a + b) + (c + d) is (a + c) + (b + d)
pub swap : (a b c d : ℤ) → (a +ℤ b) +ℤ (c +ℤ d) ≡ (a +ℤ c) +ℤ (b +ℤ d)
swap a b c d =
    +ℤ_assoc a b (c +ℤ d)
    ∙ ap (λ z. a +ℤ z) (sym (+ℤ_assoc b c d) ∙ ap (λ z. z +ℤ d) (+ℤ_comm b c) ∙ +ℤ_assoc c b d)
    ∙ sym (+ℤ_assoc a c (b +ℤ d))

pos_by : {a b : ℕ} → pos a ≡ pos b → a ≡ b
pos_by e = cc

sub_le : (a b : ℕ) → b ≤ a → sub_ℕ a b ≡ pos (a - b)
sub_le a b h = simp (le-ltb _ _ h)

sub_lt : (a b : ℕ) → a < b → sub_ℕ a b ≡ negsuc (b - suc a)
sub_lt a b h = simp (lt-ltb _ _ h)

-- a number below zero and one that reaches above it
pub reaches : (n y : ℕ) → n < y → negsuc n +ℤ pos y ≡ pos (y - suc n)
reaches n y h = sub_le y (suc n) (omega arith)

-- .. and back
pub reached : (n x y : ℕ) → pos x ≡ negsuc n +ℤ pos y → y ≡ x + suc n
reached n x y e = go (ltb n y) refl
  where
    go : (b : Bool) → ltb n y ≡ b → y ≡ x + suc n
    go true q = let l = borrow.Author.Tests.ltb-true n y q in omega (arith, pos_by (e ∙ reaches n y l))
    go false q =
        let l = borrow.Author.Tests.ltb-false n y q in
        let f : pos x ≡ negsuc (suc n - suc y) = e ∙ sub_lt y (suc n) (omega arith) in
        let z : ◌≡◌ {A = ℕ} 0 1 = cc in absurd (omega arith)

-- ---- what a row adds

none_below : (m n : ℕ) → pos n ≡ pos n +ℤ pos (0 * m)
none_below m n = let e : n ≡ n + 0 * m = omega arith in ap pos e

module _ (m : ℕ) (h : 0 < m) where
  whole_adds : (z : ℤ) → pos (whole_cell m z).bits ≡ z +ℤ pos ((whole_cell m z).below * m)
  whole_adds (pos n) = none_below m n
  whole_adds (negsuc n) =
      let d = div-add-mod' n m in
      let l = mod-lt n h in
      let s = suc-mul (n / m) m in
      let e : m - suc (n % m) ≡ suc (n / m) * m - suc n = omega (arith, d, l, s) in
      ap pos e ∙ sym (reaches n (suc (n / m) * m) (omega (arith, d, l, s)))

  row_adds : (r : Row) → pos (cell_of m r).bits ≡ number_in r +ℤ pos ((cell_of m r).below * m)
  unfolding cell_of
  row_adds null = none_below m 0
  row_adds (whole z) = whole_adds z
  row_adds (single b) = none_below m 0
  row_adds (double b) = none_below m 0
  row_adds (bytes s) = none_below m 0
  row_adds (list rs) = none_below m 0
  row_adds (union i r) = none_below m 0

  -- THE SUM of rows is that of their patterns, less m for each below zero
  pub rows_add : (rs : List Row) → pos (bits_of m rs) ≡ sum_of rs +ℤ pos (below_of m rs * m)
  rows_add [] = none_below m 0
  rows_add (r ∷ rs) =
      sym (pos-+ℤ-pos (cell_of m r).bits (bits_of m rs))
      ∙ ap₂ ◌+ℤ◌ (row_adds r) (rows_add rs)
      ∙ swap (number_in r) (pos ((cell_of m r).below * m)) (sum_of rs) (pos (below_of m rs * m))
      ∙ ap (λ z. (number_in r +ℤ sum_of rs) +ℤ z) (pos-+ℤ-pos ((cell_of m r).below * m) (below_of m rs * m) ∙ ap pos (sym (add-mul (cell_of m r).below (below_of m rs) m)))

-- moved to the other side
pub less : (z : ℤ) (x y : ℕ) → pos x ≡ z +ℤ pos y → z ≡ pos x -ℤ pos y
less z x y e = sym (ap (λ a. a -ℤ pos y) e ∙ +ℤ-neg_ℤ_cancel z (pos y))

pub more : (z : ℤ) (x y : ℕ) → z ≡ pos x -ℤ pos y → pos x ≡ z +ℤ pos y
more z x y e = sym (ap (λ a. a +ℤ pos y) e ∙ -ℤ-+ℤ_cancel (pos x) (pos y))

-- ---- counts and sums of two parts

pub counts_add : (us vs : List Row) → count_of (us ++ vs) ≡ count_of us + count_of vs
counts_add [] vs = omega arith
counts_add (u ∷ us) vs = omega (arith, counts_add us vs)

pub sums_add : (us vs : List Row) → sum_of (us ++ vs) ≡ sum_of us +ℤ sum_of vs
sums_add [] vs = sym (+ℤ_idl (sum_of vs))
sums_add (u ∷ us) vs = ap (λ z. number_in u +ℤ z) (sums_add us vs) ∙ sym (+ℤ_assoc (number_in u) (sum_of us) (sum_of vs))
