-- The tally of an accepted whole-number column is that of its rows. Assumes nothing.
use Rattle.std.proofs.Common.{◌≡◌, ℕ, ◌+◌, ◌-◌, ◌^◌, ◌<◌, ◌≤◌, true, false, not, eqb, List, [], get_or, sym, refl, ap, ◌∙◌, subst, arith, eq-eqb, ne_eqb}
use Rattle.columnar.specs.Row.{Row, seg}
use Rattle.schema.specs.Tree.{typed}
use Rattle.array_data.specs.Tables.{Tables, length_of}
use Rattle.array_data.specs.Typed.{tables_from}
use Rattle.array_data.specs.type_tree.Lent.{type_of}
use Rattle.array_data.specs.entries.Entries.{column}
use Rattle.columns.specs.Grounds.{column_ground}
use Rattle.columns.specs.column_pair.Pair.{range_in}
use Rattle.columns.proofs.column_pair.Pair.{range_known}
use Rattle.source_rules.proofs.From.{length_from}
use Rattle.aggregates.specs.declared.tally.Tally.{Tally}
use Rattle.aggregates.specs.tally.Sums.{count_of, sum_of}
use Rattle.aggregates.specs.tally.Cells.{cell_of, tallied_by, Tallied}
use Rattle.aggregates.proofs.tally.Sums.{hi_low, counted, summed}
use Rattle.aggregates.specs.patterns.Parts.{Sized}
use Rattle.aggregates.proofs.patterns.Laws.{four}
use Rattle.aggregates.specs.declared.cell_sums.Numbers.{Numbers}
use Rattle.aggregates.specs.cell_sums.Numbers.{cell_in, Ready}
use Rattle.aggregates.specs.declared.Shape.{Shape}
use Rattle.aggregates.specs.Report.{row_of, whole_type}
use Rattle.aggregates.specs.Shape.{shape_of, run_numbers, plain_numbers, numbers_of}
use Rattle.aggregates.proofs.Types.{whole_is}
use Rattle.aggregates.proofs.Rows.{Good, Sound, sound, row_count}

-- ---- the shape

module _ (formats schema : List ℕ) (first n : ℕ) (t : typed formats schema first n ≡ true) (s : Shape) (e : s ≡ shape_of formats schema first) where
  pub shape_none : s.code ≡ 0 → whole_type (type_of formats schema first n) ≡ false
  shape_none h = whole_is formats schema first n t ∙ ap (λ q. not (eqb q.code 0)) (sym e) ∙ ap not (eq-eqb s.code 0 h)

  pub shape_some : (s.code ≡ 0 → ⊥) → whole_type (type_of formats schema first n) ≡ true
  shape_some h = whole_is formats schema first n t ∙ ap (λ q. not (eqb q.code 0)) (sym e) ∙ ap not (ne_eqb s.code 0 h)

-- buffers and body are no part of where rows stand
pub numbers_same : (lengths places buffers body : List ℕ) (first : ℕ) (s : Shape) → numbers_of (column lengths places [] [] first) s ≡ numbers_of (column lengths places buffers body first) s
unfolding numbers_of
numbers_same lengths places buffers body first s = refl

pub runs_numbers : (x : Tables) (s : Shape) → s.runs ≡ true → run_numbers x s.code s.width ≡ numbers_of x s
unfolding numbers_of
runs_numbers x s h = rw h

pub rows_numbers : (x : Tables) (s : Shape) → s.runs ≡ false → plain_numbers x s.code ≡ numbers_of x s
unfolding numbers_of
rows_numbers x s h = rw h

-- ---- tallies

pub above : (w : ℕ) → Sized w → 0 < 256 ^ w
above = four (λ w. 0 < 256 ^ w) (omega arith) (omega arith) (omega arith) (omega arith)

pub few : (h b c n : ℕ) → h ≤ n → b ≤ n → c ≤ n → n < 9223372036854775808 → (h + b < 18446744073709551615) × (c < 9223372036854775808)
few h b c n p q r l = (omega arith, omega arith)

module _ (formats schema : List ℕ) (x : Tables) (first n : ℕ) (g : column_ground formats schema x first n ≡ 0) (small : (j : ℕ) → get_or x.body j 0 < 256)
    (w : whole_type (type_of formats schema first n) ≡ true) (start end : ℕ) (r : range_in x first start end ≡ true) where
  abbrev pub len : ℕ
  len = length_of (tables_from x first) 0

  abbrev pub rows : List Row
  rows = seg (row_of formats schema x first n) start (end - start)

  in_rows_lem : (start ≤ end) × (end ≤ len)
  in_rows_lem =
      let k = range_known x first start end r in
      let z : first + 0 ≡ first = omega arith in
      (k.0, subst (λ m. end ≤ m) (sym (length_from x first 0 ∙ ap (length_of x) z)) k.1)

  pub in_range : (start ≤ end) × (end < 9223372036854775808)
  in_range = (in_rows_lem.0, omega (arith, in_rows_lem.1, row_count formats schema x first n g small))

  pub its_sound : (s : Shape) → s ≡ shape_of formats schema first → Sound formats schema x first n g small s
  its_sound s e = subst (Sound formats schema x first n g small) (sym e) (sound formats schema x first n g small w)

  module _ (s : Shape) (e : s ≡ shape_of formats schema first) (nums : Numbers) (q : nums ≡ numbers_of (tables_from x first) s) where
    good : Good x.body (row_of formats schema x first n) len nums
    good = subst (Good x.body (row_of formats schema x first n) len) (sym q) (its_sound s e).good

    pub all_ready : (row : ℕ) → start ≤ row → row < end → Ready x.body nums row
    all_ready row a b = good.ready row (omega (arith, in_rows_lem.1))

    pub its_sized : Sized nums.cells.width
    its_sized = good.sized

    -- the cells of the range are those of its rows
    pub agreed : (j : ℕ) → j < end - start → cell_of (256 ^ nums.cells.width) (row_of formats schema x first n (start + j)) ≡ cell_in x.body nums (start + j)
    agreed j l = good.cells (start + j) (omega (arith, in_rows_lem.1))

    module _ (t : Tally) (d : Tallied (cell_in x.body nums) start (end - start) t) where
      pub its_count : t.count ≡ count_of rows
      its_count = counted (256 ^ nums.cells.width) (row_of formats schema x first n) (cell_in x.body nums) start (end - start) t d agreed

      pub its_sum : (lift : ℕ) → 256 ^ nums.cells.width + lift ≡ 18446744073709551616 → tallied_by lift t ≡ sum_of rows
      its_sum lift h = summed (256 ^ nums.cells.width) (row_of formats schema x first n) (cell_in x.body nums) start (end - start) t d agreed lift (above nums.cells.width its_sized) h

      pub its_room : (t.hi + t.below < 18446744073709551615) × (t.count < 9223372036854775808)
      its_room = few t.hi t.below t.count (end - start) (hi_low d) d.few_below d.few (omega (arith, in_range.1))
