-- The cells of an accepted whole-number column are those of the rows that the Columnar Format reads. Assumes nothing.
use Rattle.std.proofs.Common.{◌≡◌, ℕ, ◌+◌, ◌*◌, ◌^◌, ◌<◌, ◌≤◌, Bool, true, false, cond, ◌&&◌, T, List, length, get_or, sym, refl, ap, ◌∙◌, subst, ap₂, arith, leb-true}
use mathlib.Core.Bool.{false≢true}
use Rattle.columnar.specs.Row.{Row}
use Rattle.columnar.specs.Types.{fixed, Ty, t_plain, t_run_end}
use Rattle.columnar.specs.Formed.{RunWidth}
use Rattle.columnar.specs.Reading.{read, Source}
use Rattle.schema.specs.formats.Code.{is_integer, is_run_end, width_of}
use Rattle.schema.specs.Tree.{typed}
use Rattle.array_data.specs.Tables.{Tables, length_of, offset_of, place}
use Rattle.array_data.specs.Typed.{Tree, column_of, tables_from, source_rule}
use Rattle.array_data.specs.type_tree.Lent.{tree_of, type_of}
use Rattle.array_data.proofs.type_tree.Source.{lent_source}
use Rattle.array_data.proofs.lent_tables.Laws.{and_left, and_right}
use Rattle.columns.specs.Grounds.{ceiling, small_body, within_ceilings, obeys, column_ground}
use Rattle.columns.proofs.Grounds.{within_low}
use Rattle.columns.proofs.Answers.{sum_fits}
use Rattle.source_rules.proofs.From.{length_from, offset_from}
use Rattle.std.specs.Prelude.{Result, Ok, Err}
use Rattle.run_ends.specs.declared.RunRow.{RunRow}
use Rattle.aggregates.proofs.stretches.Stretch.{ends_fit, ends_held, stretch_run, stretch_some}
use Rattle.aggregates.specs.tally.Cells.{cell_of}
use Rattle.aggregates.specs.patterns.Parts.{Sized}
use Rattle.aggregates.specs.cells.Cells.{Held, number_at, cells_of, cell_at}
use Rattle.aggregates.proofs.cells.Codes.{code_width_lem, code_sized}
use Rattle.aggregates.proofs.cells.Rows.{slot_held, slot_cell}
use Rattle.aggregates.specs.declared.cell_sums.Numbers.{Numbers}
use Rattle.aggregates.specs.cell_sums.Numbers.{asked, value_at, cell_in, Ready}
use Rattle.aggregates.specs.declared.Shape.{Shape}
use Rattle.aggregates.specs.Report.{row_of, whole_type}
use Rattle.aggregates.specs.Shape.{whole_code, shape_of, plain_numbers, run_numbers, numbers_of}
use Rattle.aggregates.proofs.Types.{code, single, code_own, run_over, values_whole, rows_whole, whole_by, type_plain, type_runs}

chosen : (b : Bool) (a g : ℕ) → 0 < g → cond b a g ≡ 0 → (b ≡ true) × (a ≡ 0)
chosen true a g l h = (refl, h)
chosen false a g l h = absurd (omega arith)

true_is : (b : Bool) → b ≡ true → T b
true_is b e = subst T (sym e) tt

-- what an accepted column has passed
record Passed (formats schema : List ℕ) (x : Tables) (first n : ℕ) : Type 0 where
  pub low_body : length x.body ≤ ceiling
  pub within : within_ceilings formats schema x first n ≡ true
  pub of_type : typed formats schema first n ≡ true
  pub obeying : T (source_rule (tree_of formats schema first n) (tables_from x first))

passed : (formats schema : List ℕ) (x : Tables) (first n : ℕ) → column_ground formats schema x first n ≡ 0 → Passed formats schema x first n
unfolding column_ground small_body obeys
passed formats schema x first n h =
    let p = chosen (small_body x.body && within_ceilings formats schema x first n) _ 9 (omega arith) h in
    let q = chosen (typed formats schema first n) _ 10 (omega arith) p.1 in
    let r = chosen (obeys formats schema x first n) 0 12 (omega arith) q.1 in
    record {
      low_body = leb-true (length x.body) ceiling (and_left (small_body x.body) (within_ceilings formats schema x first n) p.0);
      within = and_right (small_body x.body) (within_ceilings formats schema x first n) p.0;
      of_type = q.0;
      obeying = true_is _ r.0;
    }

-- a column whose rows can be tallied
pub record Good (body : List ℕ) (f : ℕ → Row) (len : ℕ) (nums : Numbers) : Type 0 where
  pub ready : (r : ℕ) → r < len → Ready body nums r
  pub cells : (r : ℕ) → r < len → cell_of (256 ^ nums.cells.width) (f r) ≡ cell_in body nums r
  pub sized : Sized nums.cells.width

module _ (formats schema : List ℕ) (x : Tables) (first n : ℕ) (g : column_ground formats schema x first n ≡ 0) (small : (j : ℕ) → get_or x.body j 0 < 256) where
  abbrev xs : Tables
  xs = tables_from x first

  abbrev tree : Tree
  tree = tree_of formats schema first n

  pass : Passed formats schema x first n
  pass = passed formats schema x first n g

  pub column_typed : typed formats schema first n ≡ true
  column_typed = pass.of_type

  sums : (i : ℕ) → i < n → offset_of xs i + length_of xs i < 2 ^ 63
  sums i l = rw (offset_from x first i, length_from x first i) (sum_fits formats schema x first n pass.within i l)

  source : Source (type_of formats schema first n) (column_of tree xs (type_of formats schema first n) 0)
  source = lent_source formats schema first n xs pass.of_type (within_low formats schema x first n pass.within) pass.obeying

  pub row_count : length_of xs 0 < 2 ^ 63
  row_count = omega (arith, sums 0 (Rattle.array_data.proofs.type_tree.Lent.some_node formats schema first n (Rattle.schema.proofs.Known.typed_whole formats schema first n pass.of_type)))

  root_sum : offset_of xs 0 + length_of xs 0 < 2 ^ 63
  root_sum = sums 0 (Rattle.array_data.proofs.type_tree.Lent.some_node formats schema first n (Rattle.schema.proofs.Known.typed_whole formats schema first n pass.of_type))

  -- ---- plain rows

  module _ (e : is_run_end (code formats schema first 0) ≡ false) (h : rows_whole formats schema first n pass.of_type ≡ true) where
    abbrev c0 : ℕ
    c0 = code formats schema first 0

    kind0 : is_integer c0 ≡ true
    kind0 = and_left (is_integer c0) (single formats schema first 0) h

    abbrev plain : Ty
    plain = t_plain (fixed (number_at c0))

    type0 : type_of formats schema first n ≡ plain
    type0 = type_plain formats schema first n pass.of_type e h

    source0 : Source plain (column_of tree xs plain 0)
    source0 = subst (λ u. Source u (column_of tree xs u 0)) type0 source

    plain_good : Good x.body (row_of formats schema x first n) (length_of xs 0) (plain_numbers xs c0)
    unfolding row_of cell_in
    plain_good =
        record {
          ready = λ r l. record {
            plain = λ _. (omega (arith, root_sum), slot_held xs 0 c0 kind0 (offset_of xs 0 + length_of xs 0) source0.mask source0.slots (offset_of xs 0 + r) (omega arith));
            ends_held = λ q. absurd (false≢true q);
            found = λ q. absurd (false≢true q);
            some_run = λ q. absurd (false≢true q);
          };
          cells = λ r l.
              ap₂ (λ w u. cell_of (256 ^ w) (read u (column_of tree xs u 0) r)) (code_width_lem c0 kind0) type0
              ∙ sym (slot_cell xs 0 c0 kind0 (offset_of xs 0 + length_of xs 0) source0.mask source0.slots small (offset_of xs 0 + r) (omega arith));
          sized = code_sized c0 kind0;
        }

  -- ---- runs

  module _ (e : is_run_end (code formats schema first 0) ≡ true) (h : values_whole formats schema first n pass.of_type ≡ true) where
    abbrev c2 : ℕ
    c2 = code formats schema first 2

    abbrev v : ℕ
    v = width_of (code formats schema first 1)

    kind2 : is_integer c2 ≡ true
    kind2 = and_left (is_integer c2) (single formats schema first 2) h

    abbrev values : Ty
    values = t_plain (fixed (number_at c2))

    type2 : type_of formats schema first n ≡ t_run_end v values
    type2 = type_runs formats schema first n pass.of_type e h

    source2 : Source (t_run_end v values) (column_of tree xs (t_run_end v values) 0)
    source2 = subst (λ u. Source u (column_of tree xs u 0)) type2 source

    of_width : RunWidth v
    of_width = (run_over formats schema first n pass.of_type e).of_width

    values_in : 2 < n
    values_in = (run_over formats schema first n pass.of_type e).values_in

    low64 : offset_of xs 0 + length_of xs 0 < 2 ^ 64
    low64 = omega (arith, root_sum)

    ends_sum : offset_of xs 1 + length_of xs 1 < 2 ^ 63
    ends_sum = sums 1 (omega (arith, values_in))

    ends_bytes : 0 < v * (offset_of xs 1 + length_of xs 1) → place xs 1 3 + v * (offset_of xs 1 + length_of xs 1) < 2 ^ 64
    ends_bytes more = omega (arith, ends_fit tree xs v of_width values source2 low64 more, pass.low_body)

    abbrev nums : Numbers
    nums = run_numbers xs c2 v

    -- the value of a run
    value_held : (k : ℕ) → k < length_of xs 2 → Held x.body (cells_of xs 2 c2) (offset_of xs 2 + k)
    value_held k l = slot_held xs 2 c2 kind2 (offset_of xs 2 + length_of xs 2) source2.slots.child_rule.mask source2.slots.child_rule.slots (offset_of xs 2 + k) (omega arith)

    value_cell : (k : ℕ) → k < length_of xs 2 → cell_at x.body (cells_of xs 2 c2) (offset_of xs 2 + k) ≡ cell_of (256 ^ width_of c2) (read values (column_of tree xs values 2) k)
    value_cell k l =
        slot_cell xs 2 c2 kind2 (offset_of xs 2 + length_of xs 2) source2.slots.child_rule.mask source2.slots.child_rule.slots small (offset_of xs 2 + k) (omega arith)
        ∙ ap (λ w. cell_of (256 ^ w) (read values (column_of tree xs values 2) k)) (sym (code_width_lem c2 kind2))

    row_is : (r : ℕ) → row_of formats schema x first n r ≡ read (t_run_end v values) (column_of tree xs (t_run_end v values) 0) r
    unfolding row_of
    row_is r = ap (λ u. read u (column_of tree xs u 0) r) type2

    run_cells : (r : ℕ) → r < length_of xs 0 → cell_of (256 ^ width_of c2) (row_of formats schema x first n r) ≡ cell_in x.body nums r
    unfolding cell_in
    run_cells r l = go (asked x.body nums r) refl
      where
        go : (a : Result RunRow ℕ) → asked x.body nums r ≡ a → cell_of (256 ^ width_of c2) (row_of formats schema x first n r) ≡ value_at x.body nums a
        go (Ok a) q =
            let s = stretch_run tree xs v of_width values source2 low64 r l a.run a.left q in
            let z : r + 0 ≡ r = omega arith in
            ap (cell_of (256 ^ width_of c2)) (row_is r ∙ ap (read (t_run_end v values) (column_of tree xs (t_run_end v values) 0)) (sym z) ∙ s.reads 0 s.some_left)
            ∙ sym (value_cell a.run.0 s.in_values)
        go (Err d) q = absurd (stretch_some tree xs v of_width values source2 low64 r l d q)

    run_good : Good x.body (row_of formats schema x first n) (length_of xs 0) nums
    run_good =
        record {
          ready = λ r l. record {
            plain = λ q. absurd (false≢true (sym q));
            ends_held = λ _. ends_held tree xs v of_width values source2 low64 r l;
            found = λ _ k left q.
                let s = stretch_run tree xs v of_width values source2 low64 r l k left q in
                record {
                  some_left = s.some_left;
                  low = (omega (arith, s.within, row_count), omega (arith, s.in_values, sums 2 values_in));
                  held = value_held k.0 s.in_values;
                  same = λ j m.
                      sym (run_cells (r + j) (omega (arith, s.within)))
                      ∙ ap (cell_of (256 ^ width_of c2)) (row_is (r + j) ∙ s.reads j m)
                      ∙ sym (value_cell k.0 s.in_values);
                };
            some_run = λ _ d q. stretch_some tree xs v of_width values source2 low64 r l d q;
          };
          cells = run_cells;
          sized = code_sized c2 kind2;
        }

  -- ---- by the shape

  pub record Sound (s : Shape) : Type 0 where
    pub is_integer_lem : is_integer s.code ≡ true
    pub runs_sum : s.runs ≡ true → offset_of xs 1 + length_of xs 1 < 2 ^ 63
    pub runs_bytes : s.runs ≡ true → 0 < s.width * (offset_of xs 1 + length_of xs 1) → place xs 1 3 + s.width * (offset_of xs 1 + length_of xs 1) < 2 ^ 64
    pub good : Good x.body (row_of formats schema x first n) (length_of xs 0) (numbers_of xs s)

  plain_sound : (e : is_run_end (code formats schema first 0) ≡ false) → (h : rows_whole formats schema first n pass.of_type ≡ true) → Sound (record { runs = false; code = code formats schema first 0; width = 0 })
  unfolding numbers_of
  plain_sound e h = record { is_integer_lem = kind0 e h; runs_sum = λ q. absurd (false≢true q); runs_bytes = λ q. absurd (false≢true q); good = plain_good e h }

  run_sound : (e : is_run_end (code formats schema first 0) ≡ true) → (h : values_whole formats schema first n pass.of_type ≡ true)
      → Sound (record { runs = true; code = code formats schema first 2; width = width_of (code formats schema first 1) })
  unfolding numbers_of
  run_sound e h = record { is_integer_lem = kind2 e h; runs_sum = λ _. ends_sum e h; runs_bytes = λ _. ends_bytes e h; good = run_good e h }

  -- A COLUMN OF WHOLE NUMBERS can be tallied
  pub sound : whole_type (type_of formats schema first n) ≡ true → Sound (shape_of formats schema first)
  unfolding shape_of whole_code
  sound w = go (is_run_end (code formats schema first 0)) refl (sym (whole_by formats schema first n pass.of_type) ∙ w)
    where
      go : (b : Bool) → is_run_end (code formats schema first 0) ≡ b → cond b (values_whole formats schema first n pass.of_type) (rows_whole formats schema first n pass.of_type) ≡ true
          → Sound (cond b (record { runs = true; code = whole_code formats schema first 2; width = width_of (code formats schema first 1) }) (record { runs = false; code = whole_code formats schema first 0; width = 0 }))
      go true e h =
          subst (λ c. Sound (record { runs = true; code = c; width = width_of (code formats schema first 1) })) (sym (code_own (code formats schema first 2) (single formats schema first 2) h)) (run_sound e h)
      go false e h =
          subst (λ c. Sound (record { runs = false; code = c; width = 0 })) (sym (code_own (code formats schema first 0) (single formats schema first 0) h)) (plain_sound e h)
