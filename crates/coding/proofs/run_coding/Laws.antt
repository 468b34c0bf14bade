-- Which rows end runs, where rows stand, and what is written one run after the other. Assumes nothing.
use mathlib.Core.Path.{◌≡◌, refl, sym, ap, ◌∙◌}
use mathlib.Core.Bool.{Bool, true, false, not, cond, ◌||◌}
use mathlib.Core.List.{List, [], ◌∷◌, ◌++◌, append-nil}
use Prim.Native.Nat.{ℕ, zero, suc, ◌+◌, ◌*◌, ◌-◌, ◌/◌, ◌^◌, ◌≤◌, ◌<◌}
use native.Mathlib.Nat.{add-zero, zero-add, mul-le-mul_right}
use native.Mathlib.Numerals.{add-one}
use native.Mathlib.Omega.{arith}
use lib.ListN.{length, length-append}
use lib.Dec.{eqb}
use borrow.Author.Tests.{eq-eqb, ne_eqb}
use Rattle.columnar.proofs.Items.{entry_end}
use Rattle.anew.specs.runs.Runs.{alike, those}
use Rattle.anew.proofs.runs.Those.{those_split}
use Rattle.coding.specs.run_coding.Rows.{number_in, valid_in, Held, change_in, last_in, last_rows}
use Rattle.coding.specs.run_coding.Writes.{Fits, Holds, run_written, runs_written}

-- ---- rows that pass a test

module _ (p : ℕ → Bool) where
  -- one more number
  pub those_more : (r : ℕ) (b : Bool) → p r ≡ b → those p 0 (suc r) ≡ those p 0 r ++ cond b (r ∷ []) []
  those_more r b e =
      ap (those p 0) (sym (add-one r)) ∙ those_split p r 1 0 ∙ ap (λ z. those p 0 r ++ those p z 1) (zero-add r)
      ∙ ap (λ z. those p 0 r ++ cond z (r ∷ []) []) e

  pub count_more : (r : ℕ) → p r ≡ true → length (those p 0 (suc r)) ≡ length (those p 0 r) + 1
  count_more r e = ap length (those_more r true e) ∙ length-append (those p 0 r) (r ∷ [])

  pub count_same : (r : ℕ) → p r ≡ false → those p 0 (suc r) ≡ those p 0 r
  count_same r e = those_more r false e ∙ append-nil (those p 0 r)

  pub those_grow : (r m : ℕ) → r ≤ m → length (those p 0 r) ≤ length (those p 0 m)
  those_grow r m h =
      let e : r + (m - r) ≡ m = omega arith in
      let f = ap (λ z. length (those p 0 z)) (sym e) ∙ ap length (those_split p r (m - r) 0) ∙ length-append (those p 0 r) (those p (0 + r) (m - r)) in
      omega (arith, f)

those_same : (p q : ℕ → Bool) (n r : ℕ) → ((i : ℕ) → r ≤ i → i < r + n → p i ≡ q i) → those p r n ≡ those q r n
those_same p q zero r h = refl
those_same p q (suc n) r h = rw (h r (omega arith) (omega arith), those_same p q n (suc r) (λ i a b. h i (omega arith) (omega arith)))

module _ (body : List ℕ) (w : ℕ) (masked : Bool) (start mask bit : ℕ) where
  abbrev change : ℕ → Bool
  change = change_in body w masked start mask bit

  or_no : (a b : Bool) → a ≡ false → a || b ≡ b
  or_no a b e = rw e

  or_yes : (a b : Bool) → a ≡ true → a || b ≡ true
  or_yes a b e = rw e

  -- THE LAST ROWS: those before a change, and the last of all
  pub last_rows_lem : (m : ℕ) → last_rows body w masked start mask bit (suc m) ≡ those change 0 m ++ (m ∷ [])
  last_rows_lem m =
      those_more (last_in body w masked start mask bit (suc m)) m true (or_yes (eqb (suc m) (suc m)) (change m) (eq-eqb (suc m) (suc m) refl))
      ∙ ap (λ z. z ++ (m ∷ []))
      (those_same (last_in body w masked start mask bit (suc m)) change m 0 (λ i a b. or_no (eqb (suc i) (suc m)) (change i) (ne_eqb (suc i) (suc m) (λ z. omega arith))))

  pub last_count : (m : ℕ) → 1 ≤ m → length (last_rows body w masked start mask bit m) ≡ 1 + length (those change 0 (m - 1))
  last_count zero h = absurd (omega arith)
  last_count (suc m) h =
      let e : suc m - 1 ≡ m = omega arith in
      ap length (last_rows_lem m) ∙ length-append (those change 0 m) (m ∷ []) ∙ let z : length (those change 0 m) + 1 ≡ 1 + length (those change 0 m) = omega arith in z ∙ ap (λ n. 1 + length (those change 0 n)) (sym e)

  -- ---- where a row stands

  module _ (m : ℕ) (h : Held body w masked start mask bit m) (r : ℕ) (l : r < m) where
    pub row_held : start + r * w + w ≤ length body
    row_held = let z : r * w + w ≤ m * w = entry_end w l in omega (arith, h.holds)

    pub bit_held : masked ≡ true → (bit + r < 2 ^ 64) × (mask + (bit + r) / 8 < length body)
    bit_held e = (omega (arith, h.low e), omega (arith, h.holds_bits e))

-- the first of two rows and the next
pub change_is : (body : List ℕ) (w : ℕ) (masked : Bool) (start mask bit r : ℕ) {a b c : Bool} {x y : ℕ} → a ≡ valid_in body masked mask bit r → b ≡ valid_in body masked mask bit (suc r)
    → x ≡ number_in body w start r → y ≡ number_in body w start (suc r) → c ≡ not (alike a b (eqb x y)) → change_in body w masked start mask bit r ≡ c
unfolding change_in
change_is body w masked start mask bit r ea eb ex ey e = sym (e ∙ rw (ea, eb, ex, ey))

-- ---- runs one after the other

pub fewer_fit : (w : ℕ) (masked : Bool) (e ends values mask size n k : ℕ) → Fits w masked e ends values mask size n → k < n → Fits w masked e ends values mask size (k + 1)
fewer_fit w masked e ends values mask size n k f l =
    let a : k * e + e ≤ n * e = entry_end e l in
    let b : k * w + w ≤ n * w = entry_end w l in
    let c : (k + 1) * e ≡ k * e + e = omega arith in
    let d : (k + 1) * w ≡ k * w + w = omega arith in
    record { of_ends = omega (arith, f.of_ends, c, a); of_values = omega (arith, f.of_values, d, b); of_bits = λ q. omega (arith, f.of_bits q) }

module _ (body : List ℕ) (w : ℕ) (masked : Bool) (start at bit e ends values mask : ℕ) where
  abbrev written : ℕ → List ℕ → List ℕ → List ℕ
  written = runs_written body w masked start at bit e ends values mask

  abbrev one : ℕ → ℕ → List ℕ → List ℕ
  one k r = run_written w masked e ends values mask k r (valid_in body masked at bit r) (number_in body w start r)

  pub runs_none : (room : List ℕ) → written 0 [] room ≡ room
  unfolding runs_written
  runs_none room = refl

  -- one more run
  pub runs_more : (k : ℕ) (rs : List ℕ) (r : ℕ) (room : List ℕ) → written k (rs ++ (r ∷ [])) room ≡ one (k + length rs) r (written k rs room)
  unfolding runs_written
  runs_more k [] r room = ap (λ z. one z r room) (sym (add-zero k))
  runs_more k (q ∷ rs) r room = runs_more (suc k) rs r (one k q room) ∙ ap (λ z. one z r (written (suc k) rs (one k q room))) (let z : suc k + length rs ≡ k + suc (length rs) = omega arith in z)

  -- no rows
  pub no_runs : (m : ℕ) (room : List ℕ) → m ≡ 0 → room ≡ written 0 (last_rows body w masked start at bit m) room
  unfolding runs_written
  no_runs m room e = rw e refl

pub some_rows : (m : ℕ) → (m ≡ 0 → ⊥) → 1 ≤ m
some_rows zero h = absurd (h refl)
some_rows (suc m) h = omega arith

-- ---- rows

pub fewer_hold : (w : ℕ) (masked : Bool) (values mask size n k : ℕ) → Holds w masked values mask size n → k ≤ n → Holds w masked values mask size k
fewer_hold w masked values mask size n k h l =
    let z : k * w ≤ n * w = mul-le-mul_right w l in
    record { of_values = omega (arith, z, h.of_values); of_bits = λ q. omega (arith, h.of_bits q) }
