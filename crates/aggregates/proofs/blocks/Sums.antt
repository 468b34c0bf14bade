-- The parts of a block as a tally of its cells. Assumes nothing.
use Rattle.std.proofs.Common.{◌≡◌, ℕ, zero, suc, ◌+◌, ◌-◌, ◌*◌, ◌/◌, ◌%◌, ◌^◌, ◌<◌, ◌≤◌, Bool, true, false, cond, ltb, List, get_or, drop, sym, refl, ap, ◌∙◌, subst, ap₂, inl, inr, le_trans, le_of_eq, add-zero, suc-mul, add-mul, mul-zero, mul-one, arith, ltb-false, ltb-true, le-ltb}
use native.Mathlib.Nat.{div-eq_of_lt, add-mul-div_right}
use Rattle.number.specs.Number.{number}
use Rattle.aggregates.specs.declared.patterns.Part.{Part}
use Rattle.aggregates.specs.patterns.Parts.{Sized, top_bit, pattern_in, bit_of, kept_in, up_to, Added}
use Rattle.aggregates.proofs.patterns.Laws.{four, read_lt, times_bit}
use Rattle.aggregates.specs.declared.tally.Cell.{Cell}
use Rattle.aggregates.specs.declared.tally.Tally.{Tally}
use Rattle.aggregates.specs.tally.Cells.{value_of, sum_by, Tallied}
use Rattle.aggregates.proofs.tally.Sums.{sums_add}
use Rattle.aggregates.specs.declared.cells.Cells.{Cells}
use Rattle.aggregates.specs.cells.Cells.{Topped, below_at, pattern_at}
use Rattle.aggregates.specs.blocks.Blocks.{number_cell, kept_cell}

-- ---- sums

sum_up : (p : Cell → ℕ) (g : ℕ → Cell) (f : ℕ → ℕ) (a n : ℕ) → ((i : ℕ) → i < n → p (g (a + i)) ≡ f i) → up_to f n ≡ sum_by p g a n
unfolding up_to
sum_up p g f a zero h = refl
sum_up p g f a (suc n) h =
    let e : n + 1 ≡ suc n = omega arith in
    ap₂ ◌+◌ (sum_up p g f a n (λ i l. h i (omega arith))) (sym (add-zero (p (g (a + n))) ∙ h n (omega arith)))
    ∙ sym (sums_add p g a n 1)
    ∙ ap (sum_by p g a) e

up_times : (f : ℕ → ℕ) (k n : ℕ) → up_to f n * k ≡ up_to (λ i. f i * k) n
unfolding up_to
up_times f k zero = omega arith
up_times f k (suc n) = add-mul (up_to f n) (f n) k ∙ ap (λ z. z + f n * k) (up_times f k n)

up_halves : (f : ℕ → ℕ) (n : ℕ) → up_to (λ i. f i / 4294967296) n * 4294967296 + up_to (λ i. f i % 4294967296) n ≡ up_to f n
unfolding up_to
up_halves f zero = refl
up_halves f (suc n) = omega (arith, up_halves f n)

up_most : (f : ℕ → ℕ) (k n : ℕ) → ((i : ℕ) → i < n → f i ≤ k) → up_to f n ≤ n * k
unfolding up_to
up_most f k zero h = omega arith
up_most f k (suc n) h = omega (arith, up_most f k n (λ i l. h i (omega arith)), h n (omega arith), suc-mul n k)

-- ---- the top bit

one_half : (h p : ℕ) → 0 < h → h ≤ p → p < 2 * h → p / h ≡ 1
one_half h p z a b =
    let e : p ≡ p - h + 1 * h = omega arith in
    ap (λ k. k / h) e ∙ add-mul-div_right (p - h) 1 z ∙ ap (λ k. k + 1) (div-eq_of_lt (omega arith))

-- with a sign, patterns from h on are below zero
top_signed : (h p : ℕ) → 0 < h → p < 2 * h → below_at (h - 1) p ≡ p / h * (1 - (h - 1) / h)
top_signed h p z l = go (ltb (h - 1) p) refl
  where
    none : (h - 1) / h ≡ 0
    none = div-eq_of_lt (omega arith)

    go : (t : Bool) → ltb (h - 1) p ≡ t → cond t 1 0 ≡ p / h * (1 - (h - 1) / h)
    go true e = rw (none, one_half h p z (omega (arith, ltb-true (h - 1) p e)) l)
    go false e = rw (none, div-eq_of_lt {n = p} {m = h} (omega (arith, ltb-false (h - 1) p e)))

-- without one, none is
top_plain : (h p : ℕ) → 0 < h → p < 2 * h → below_at (2 * h - 1) p ≡ p / h * (1 - (2 * h - 1) / h)
top_plain h p z l =
    rw (le-ltb (2 * h - 1) p (omega arith), one_half h (2 * h - 1) z (omega arith) (omega arith)) (sym (mul-zero (p / h)))

halved : (w : ℕ) → Sized w → 256 ^ w ≡ 2 * 2 ^ top_bit w
halved = four (λ w. 256 ^ w ≡ 2 * 2 ^ top_bit w) refl refl refl refl

half_of : (w : ℕ) → Sized w → 256 ^ w / 2 ≡ 2 ^ top_bit w
half_of = four (λ w. 256 ^ w / 2 ≡ 2 ^ top_bit w) refl refl refl refl

half_some : (w : ℕ) → Sized w → 0 < 2 ^ top_bit w
half_some = four (λ w. 0 < 2 ^ top_bit w) (omega arith) (omega arith) (omega arith) (omega arith)

pub below_is : (w top p : ℕ) → Sized w → Topped w top → p < 256 ^ w → below_at top p ≡ p / 2 ^ top_bit w * (1 - top / 2 ^ top_bit w)
below_is w top p s (inl e) l =
    let h = 2 ^ top_bit w in
    let f : top ≡ 2 * h - 1 = e ∙ ap (λ k. k - 1) (halved w s) in
    subst (λ t. below_at t p ≡ p / h * (1 - t / h)) (sym f) (top_plain h p (half_some w s) (subst (λ k. p < k) (halved w s) l))
below_is w top p s (inr e) l =
    let h = 2 ^ top_bit w in
    let f : top ≡ h - 1 = e ∙ ap (λ k. k - 1) (half_of w s) in
    subst (λ t. below_at t p ≡ p / h * (1 - t / h)) (sym f) (top_signed h p (half_some w s) (subst (λ k. p < k) (halved w s) l))

-- the top bit of the largest number
pub top_one : (w top : ℕ) → Sized w → Topped w top → top / 2 ^ top_bit w ≤ 1
top_one w top s (inl e) = rw (e ∙ ap (λ k. k - 1) (halved w s), one_half (2 ^ top_bit w) (2 * 2 ^ top_bit w - 1) (half_some w s) (omega (arith, half_some w s)) (omega (arith, half_some w s))) (omega arith)
top_one w top s (inr e) = rw (e ∙ ap (λ k. k - 1) (half_of w s), div-eq_of_lt {n = 2 ^ top_bit w - 1} {m = 2 ^ top_bit w} (omega (arith, half_some w s))) (omega arith)

-- ---- a block

below_one : (top p : ℕ) → below_at top p ≤ 1
below_one top p = go (ltb top p)
  where
    go : (t : Bool) → cond t 1 0 ≤ 1
    go true = omega arith
    go false = omega arith

-- what the cells of a block are, by numbers f that b counts
pub record Block (g : ℕ → Cell) (a n : ℕ) (f b : ℕ → ℕ) (w top : ℕ) : Type 0 where
  pub count : (i : ℕ) → i < n → (g (a + i)).count ≡ b i
  pub bits : (i : ℕ) → i < n → (g (a + i)).bits ≡ f i
  pub below : (i : ℕ) → i < n → (g (a + i)).below ≡ f i / 2 ^ top_bit w * (1 - top / 2 ^ top_bit w)
  pub few : (i : ℕ) → i < n → b i ≤ 1
  pub few_below : (i : ℕ) → i < n → f i / 2 ^ top_bit w * (1 - top / 2 ^ top_bit w) ≤ 1
  pub small : (i : ℕ) → i < n → f i ≤ 18446744073709551615

pub tallied : (g : ℕ → Cell) (a n : ℕ) (f b : ℕ → ℕ) (w top : ℕ) (p : Part) (r : Tally) → Block g a n f b w top → Added f b w n p
    → (r.count ≡ p.count) × (r.below ≡ p.below * (1 - top / 2 ^ top_bit w)) × (value_of r ≡ p.high * 4294967296 + p.low)
    → Tallied g a n r
tallied g a n f b w top p r k s e =
    let h = 2 ^ top_bit w in
    let v = 1 - top / h in
    let e1 : r.count ≡ up_to b n = e.0 ∙ s.count in
    let e2 : r.below ≡ up_to (λ i. f i / h * v) n = e.1 ∙ ap (λ z. z * v) s.below ∙ up_times (λ i. f i / h) v n in
    let e3 : value_of r ≡ up_to f n = e.2 ∙ ap₂ (λ x y. x * 4294967296 + y) s.high s.low ∙ up_halves f n in
    record {
      count = e1 ∙ sum_up (λ c. c.count) g b a n k.count;
      below = e2 ∙ sum_up (λ c. c.below) g (λ i. f i / h * v) a n k.below;
      value = e3 ∙ sum_up (λ c. c.bits) g f a n k.bits;
      few = rw e1 (le_trans (up_most b 1 n k.few) (le_of_eq (mul-one n)));
      few_below = rw e2 (le_trans (up_most (λ i. f i / h * v) 1 n k.few_below) (le_of_eq (mul-one n)));
      low = rw e3 (up_most f 18446744073709551615 n k.small);
    }

-- ---- numbers of w bytes

word_most : (w : ℕ) → Sized w → 256 ^ w ≤ 18446744073709551616
word_most = four (λ w. 256 ^ w ≤ 18446744073709551616) (omega arith) (omega arith) (omega arith) (omega arith)

module _ (body : List ℕ) (bytes : (j : ℕ) → get_or body j 0 < 256) (c : Cells) (slot : ℕ) (sized : Sized c.width) (topped : Topped c.width c.top) where
  abbrev at : ℕ
  at = c.start + slot * c.width

  -- number i from the slot on
  same_place : (i : ℕ) → pattern_in body at c.width i ≡ pattern_at body c (slot + i)
  same_place i =
      let e : c.start + slot * c.width + i * c.width ≡ c.start + (slot + i) * c.width = omega (arith, add-mul slot i c.width) in
      ap (λ k. number c.width (drop k body)) e

  small_in : (i : ℕ) → pattern_in body at c.width i < 256 ^ c.width
  small_in i = read_lt body bytes (at + i * c.width) c.width _ refl

  at_most : (x : ℕ) → x < 256 ^ c.width → x ≤ 18446744073709551615
  at_most x l = omega (arith, word_most c.width sized)

  below_in : (x : ℕ) → x < 256 ^ c.width → below_at c.top x ≡ x / 2 ^ top_bit c.width * (1 - c.top / 2 ^ top_bit c.width)
  below_in x l = below_is c.width c.top x sized topped l

  below_few : (x : ℕ) → x < 256 ^ c.width → x / 2 ^ top_bit c.width * (1 - c.top / 2 ^ top_bit c.width) ≤ 1
  below_few x l = rw (← below_in x l) (below_one c.top x)

  pub all_block : (n : ℕ) → Block (number_cell body c) slot n (pattern_in body at c.width) (λ i. 1) c.width c.top
  all_block n =
      record {
        count = λ i l. refl;
        bits = λ i l. sym (same_place i);
        below = λ i l. ap (below_at c.top) (sym (same_place i)) ∙ below_in _ (small_in i);
        few = λ i l. omega arith;
        few_below = λ i l. below_few _ (small_in i);
        small = λ i l. at_most _ (small_in i);
      }

  -- a cell by a bit
  module _ (m : ℕ) where
    kept_lt : (i : ℕ) → kept_in body at c.width m i < 256 ^ c.width
    kept_lt i = omega (arith, small_in i, times_bit (pattern_in body at c.width i) (bit_of m i) (omega arith))

    kept_by : (i b : ℕ) → b ≤ 1 → (x : ℕ) → x ≡ pattern_at body c (slot + i) → x < 256 ^ c.width
        → ((kept_cell b (number_cell body c (slot + i))).count ≡ b) × ((kept_cell b (number_cell body c (slot + i))).bits ≡ x * b)
        × ((kept_cell b (number_cell body c (slot + i))).below ≡ below_at c.top (x * b))
    unfolding kept_cell
    kept_by i zero h x e l = (refl, sym (mul-zero x), sym (ap (below_at c.top) (mul-zero x) ∙ none_below c.top))
      where
        none_below : (t : ℕ) → below_at t 0 ≡ 0
        none_below t = rw (le-ltb t 0 (omega arith))
    kept_by i (suc zero) h x e l = (refl, sym (mul-one x ∙ e), ap (below_at c.top) (sym (mul-one x ∙ e)))
    kept_by i (suc (suc b)) h x e l = absurd (omega arith)

    by_bit : (i : ℕ) → bit_of m i ≤ 1
    by_bit i = omega arith

    pub kept_block : Block (λ i. kept_cell (bit_of m i) (number_cell body c (slot + i))) 0 64 (kept_in body at c.width m) (bit_of m) c.width c.top
    kept_block =
        record {
          count = λ i l. at_zero (λ k. (kept_cell (bit_of m k) (number_cell body c (slot + k))).count ≡ bit_of m i) i (kept i).0;
          bits = λ i l. at_zero (λ k. (kept_cell (bit_of m k) (number_cell body c (slot + k))).bits ≡ kept_in body at c.width m i) i (kept i).1;
          below = λ i l. at_zero (λ k. (kept_cell (bit_of m k) (number_cell body c (slot + k))).below ≡ kept_in body at c.width m i / 2 ^ top_bit c.width * (1 - c.top / 2 ^ top_bit c.width)) i ((kept i).2 ∙ below_in _ (kept_lt i));
          few = λ i l. by_bit i;
          few_below = λ i l. below_few _ (kept_lt i);
          small = λ i l. at_most _ (kept_lt i);
        }
      where
        kept : (i : ℕ) → ((kept_cell (bit_of m i) (number_cell body c (slot + i))).count ≡ bit_of m i) × ((kept_cell (bit_of m i) (number_cell body c (slot + i))).bits ≡ kept_in body at c.width m i)
            × ((kept_cell (bit_of m i) (number_cell body c (slot + i))).below ≡ below_at c.top (kept_in body at c.width m i))
        kept i = kept_by i (bit_of m i) (by_bit i) (pattern_in body at c.width i) (same_place i) (small_in i)

        at_zero : (P : ℕ → Type 0) (i : ℕ) → P i → P (0 + i)
        at_zero P i = let e : i ≡ 0 + i = omega arith in subst P e

-- ---- where a block ends

pub ends_in_lem : (start slot w n l : ℕ) → 0 < n → start + (slot + (n - 1)) * w + w ≤ l → start + slot * w + n * w ≤ l
ends_in_lem start slot w n l h e =
    let z : n ≡ suc (n - 1) = omega arith in
    omega (arith, add-mul slot (n - 1) w, suc-mul (n - 1) w, ap (λ k. k * w) z)
