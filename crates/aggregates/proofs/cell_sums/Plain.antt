-- Plain rows by blocks and by words. Assumes nothing.
use Rattle.std.proofs.Common.{◌≡◌, ℕ, ◌+◌, ◌-◌, ◌*◌, ◌/◌, ◌<◌, ◌≤◌, min, Bool, true, false, cond, List, sym, refl, ap, ◌∙◌, subst, ap₂, arith}
use Rattle.aggregates.specs.patterns.Parts.{block_rows, bit_of}
use Rattle.aggregates.specs.declared.tally.Cell.{Cell}
use Rattle.aggregates.specs.declared.tally.Tally.{Tally}
use Rattle.aggregates.specs.tally.Cells.{cell, value_of, Tallied}
use Rattle.aggregates.proofs.tally.Sums.{hi_low, appended}
use Rattle.aggregates.specs.declared.cells.Cells.{Cells}
use Rattle.aggregates.specs.cells.Cells.{Held, valid_at, pattern_cell, cell_at}
use Rattle.aggregates.specs.blocks.Blocks.{number_cell, kept_cell, as_bit, valid_bit}
use Rattle.aggregates.specs.declared.cell_sums.Numbers.{Numbers}
use Rattle.aggregates.specs.cell_sums.Numbers.{cell_in, mask_cell, both_cells, AllReady}
use Rattle.aggregates.proofs.cell_sums.Laws.{plain_in}

-- ---- two tallies as one

-- what `joined` ensures
abbrev pub Joins : Tally → Tally → Tally → Type 0
Joins t u r = (r.count ≡ t.count + u.count) × (r.below ≡ t.below + u.below) × (value_of r ≡ value_of t + value_of u)

pub join_room : {g h : ℕ → Cell} {a n b k : ℕ} {t u : Tally} → Tallied g a n t → Tallied h b k u → n + k ≤ 9223372036854775808
    → (t.count + u.count < 18446744073709551615) × (t.below + u.below < 18446744073709551615) × (t.hi + u.hi < 18446744073709551615)
join_room s v l = (omega (arith, s.few, v.few), omega (arith, s.few_below, v.few_below), omega (arith, hi_low s, hi_low v))

-- the rows row .. stop - 1 behind those from start on
pub join_on : (g : ℕ → Cell) (start row stop : ℕ) (t u r : Tally) → start ≤ row → row ≤ stop → Tallied g start (row - start) t → Tallied g row (stop - row) u → Joins t u r
    → Tallied g start (stop - start) r
join_on g start row stop t u r a b s v e =
    let z : row - start + (stop - row) ≡ stop - start = omega arith in
    subst (λ n. Tallied g start n r) z
    (appended g g start (row - start) row (stop - row) t u r s v (λ j l. let y : start + (row - start) + j ≡ row + j = omega arith in ap g y) e.0 e.1 e.2)

-- 64 rows more
pub join_word : (g : ℕ → Cell) (start k : ℕ) (t u r : Tally) → Tallied g start (64 * k) t → Tallied g (start + 64 * k) 64 u → Joins t u r → Tallied g start (64 * (k + 1)) r
join_word g start k t u r s v e =
    let z : 64 * k + 64 ≡ 64 * (k + 1) = omega arith in
    subst (λ n. Tallied g start n r) z (appended g g start (64 * k) (start + 64 * k) 64 t u r s v (λ j l. refl) e.0 e.1 e.2)

-- the rest behind whole words
pub join_rest : (g : ℕ → Cell) (start end words : ℕ) (t u r : Tally) → start ≤ end → words ≡ (end - start) / 64 → Tallied g start (64 * words) t
    → Tallied g (start + 64 * words) (end - (start + 64 * words)) u → Joins t u r → Tallied g start (end - start) r
join_rest g start end words t u r a w s v e =
    let z : 64 * words ≡ start + 64 * words - start = omega arith in
    join_on g start (start + 64 * words) end t u r (omega arith) (omega arith) (subst (λ n. Tallied g start n t) z s) v e

-- ---- cells

both_kept : (v w : Bool) (a p b q m : ℕ) → m ≡ as_bit v * as_bit w
    → mask_cell (cond v (pattern_cell a p) (cell 0 0 0)) (cond w (pattern_cell b q) (cell 0 0 0)) ≡ kept_cell m (pattern_cell a p)
unfolding mask_cell kept_cell
both_kept true true a p b q m e = rw e
both_kept true false a p b q m e = rw e
both_kept false true a p b q m e = rw e
both_kept false false a p b q m e = rw e

self_kept : (v : Bool) (a p : ℕ) → mask_cell (cond v (pattern_cell a p) (cell 0 0 0)) (cond v (pattern_cell a p) (cell 0 0 0)) ≡ cond v (pattern_cell a p) (cell 0 0 0)
unfolding mask_cell
self_kept true a p = refl
self_kept false a p = refl

other_kept : (w : Bool) (c : Cell) (b q : ℕ) → w ≡ true → mask_cell c (cond w (pattern_cell b q) (cell 0 0 0)) ≡ c
unfolding mask_cell
other_kept w c b q e = rw e

all_valid : (body : List ℕ) (c : Cells) (slot : ℕ) → c.masked ≡ false → valid_at body c slot ≡ true
unfolding valid_at
all_valid body c slot h = rw h

module _ (body : List ℕ) (a : Numbers) (plain : a.runs ≡ false) where
  -- without validity a row is its number
  pub number_in : a.cells.masked ≡ false → (row j : ℕ) → cell_in body a (row + j) ≡ number_cell body a.cells (a.skip + row + j)
  unfolding cell_at
  number_in h row j =
      let e : a.skip + (row + j) ≡ a.skip + row + j = omega arith in
      sym (plain_in body a (row + j) plain)
      ∙ ap (cell_at body a.cells) e
      ∙ rw (all_valid body a.cells (a.skip + row + j) h)

  -- a row counts where it counts
  pub self_in : (row : ℕ) → cell_in body a row ≡ both_cells (cell_in body a) (cell_in body a) row
  unfolding cell_at
  self_in row =
      let e = plain_in body a row plain in
      sym e ∙ sym (self_kept (valid_at body a.cells (a.skip + row)) _ _) ∙ ap (λ c. mask_cell c c) e

  module _ (b : Numbers) (plain' : b.runs ≡ false) where
    -- without validity the other counts everywhere
    pub other_in : b.cells.masked ≡ false → (row : ℕ) → both_cells (cell_in body a) (cell_in body b) row ≡ cell_in body a row
    unfolding cell_at
    other_in h row =
        ap (mask_cell (cell_in body a row)) (sym (plain_in body b row plain'))
        ∙ other_kept (valid_at body b.cells (b.skip + row)) (cell_in body a row) _ _ (all_valid body b.cells (b.skip + row) h)

    -- a row by the bit that says that both count
    pub word_in : (row m : ℕ) → ((k : ℕ) → k < 64 → bit_of m k ≡ valid_bit body a.cells (a.skip + row + k) * valid_bit body b.cells (b.skip + row + k))
        → (j : ℕ) → j < 64 → both_cells (cell_in body a) (cell_in body b) (row + j) ≡ kept_cell (bit_of m (0 + j)) (number_cell body a.cells (a.skip + row + (0 + j)))
    unfolding cell_at
    word_in row m h j l =
        let e : a.skip + (row + j) ≡ a.skip + row + j = omega arith in
        let f : b.skip + (row + j) ≡ b.skip + row + j = omega arith in
        let z : j ≡ 0 + j = omega arith in
        ap₂ mask_cell (sym (plain_in body a (row + j) plain) ∙ ap (cell_at body a.cells) e) (sym (plain_in body b (row + j) plain') ∙ ap (cell_at body b.cells) f)
        ∙ both_kept (valid_at body a.cells (a.skip + row + j)) (valid_at body b.cells (b.skip + row + j)) _ _ _ _ (bit_of m j) (h j l)
        ∙ ap (λ k. kept_cell (bit_of m k) (number_cell body a.cells (a.skip + row + k))) z

-- ---- what the rows' cells need

module _ (body : List ℕ) (a : Numbers) (plain : a.runs ≡ false) where
  pub first_low : (row stop : ℕ) → AllReady body a row stop → row < stop → a.skip + row < 18446744073709551616
  first_low row stop r l = ((r row (omega arith) l).plain plain).0

  -- the last row's slot is held
  pub last_held : (row stop : ℕ) → AllReady body a row stop → row < stop → Held body a.cells (a.skip + row + (stop - row - 1))
  last_held row stop r l =
      let e : a.skip + (stop - 1) ≡ a.skip + row + (stop - row - 1) = omega arith in
      subst (Held body a.cells) e ((r (stop - 1) (omega arith) (omega arith)).plain plain).1

  pub word_held : (row : ℕ) → AllReady body a row (row + 64) → Held body a.cells (a.skip + row + 63)
  word_held row r =
      let e : a.skip + (row + 63) ≡ a.skip + row + 63 = omega arith in
      subst (Held body a.cells) e ((r (row + 63) (omega arith) (omega arith)).plain plain).1

-- a part of the rows
pub part_ready : (body : List ℕ) (a : Numbers) (start end row stop : ℕ) → AllReady body a start end → start ≤ row → stop ≤ end → AllReady body a row stop
part_ready body a start end row stop r l m k p q = r k (omega arith) (omega arith)

-- ---- numbers of a loop

pub block_stop : (row end stop : ℕ) → stop ≡ min (row + block_rows) end → row < end → (row < stop) × (stop ≤ row + block_rows) × (stop ≤ end)
block_stop row end stop e l = (omega arith, omega arith, omega arith)

pub word_stop : (start k words : ℕ) → k < words → start + 64 * k + 64 ≤ start + 64 * words
word_stop start k words l = omega arith

pub words_stop : (start end words : ℕ) → start ≤ end → words ≡ (end - start) / 64 → start + 64 * words ≤ end
words_stop start end words a e = omega arith

pub block_fits : (row end : ℕ) → row < end → end < 9223372036854775808 → row + block_rows < 18446744073709551616
block_fits row end h l = omega arith

pub rows_low : (start row stop end : ℕ) → start ≤ row → row ≤ stop → stop ≤ end → end < 9223372036854775808 → row - start + (stop - row) ≤ 9223372036854775808
rows_low start row stop end a b c d = omega arith

pub word_low : (start k words : ℕ) → k < words → start + 64 * words < 9223372036854775808
    → (64 * k < 18446744073709551616) × (start + 64 * k < 18446744073709551616) × (64 * k + 64 ≤ 9223372036854775808) × (k + 1 < 18446744073709551616)
word_low start k words h l = (omega arith, omega arith, omega arith, omega arith)

pub rest_low : (start end words : ℕ) → start + 64 * words ≤ end → end < 9223372036854775808
    → (64 * words < 18446744073709551616) × (start + 64 * words < 18446744073709551616) × (64 * words + (end - (start + 64 * words)) ≤ 9223372036854775808)
rest_low start end words h l = (omega arith, omega arith, omega arith)

pub first_in : (start words : ℕ) → start ≤ start + 64 * words
first_in start words = omega arith

pub all_words : (g : ℕ → Cell) (start k words : ℕ) (t : Tally) → k ≤ words → words ≤ k → Tallied g start (64 * k) t → Tallied g start (64 * words) t
all_words g start k words t a b = let z : k ≡ words = omega arith in subst (λ n. Tallied g start (64 * n) t) z
