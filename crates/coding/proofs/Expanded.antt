-- The expansion on an accepted column: what its code reads and writes is what its walk says. Assumes nothing.
use mathlib.Core.Path.{◌≡◌, refl, sym, ap, subst, ◌∙◌}
use mathlib.Core.Bool.{Bool, true, ◌&&◌}
use mathlib.Core.List.{List, []}
use Prim.Native.Nat.{ℕ, zero, suc, ◌+◌, ◌*◌, ◌-◌, ◌^◌, ◌≤◌, ◌<◌}
use native.Mathlib.Nat.{add-zero, mul_comm, add-mul, le_trans}
use native.Mathlib.Omega.{arith}
use lib.ListN.{length, drop, get_or, replicate, length-replicate}
use lib.Dec.{ltb, eqb}
use borrow.Author.Tests.{eqb-true}
use Rattle.number.specs.Number.{number}
use Rattle.columnar.specs.Types.{Number, fixed, t_plain, t_run_end}
use Rattle.columnar.specs.Formed.{RunWidth, two, four, eight}
use Rattle.columnar.specs.Array.{null_count_of}
use Rattle.columnar.specs.RunEnd.{end_of}
use Rattle.columnar.specs.RunEnd as ends
use Rattle.columnar.specs.Reading.{Column, Source}
use Rattle.columnar.proofs.Items.{entry_end}
use Rattle.schema.specs.formats.Code.{is_run_end}
use Rattle.schema.specs.Tree.{code_of, ceilings, typed}
use Rattle.array_data.specs.Tables.{Tables, length_of, offset_of, place, first_buffer}
use Rattle.array_data.specs.Typed.{column_of, tables_from}
use Rattle.array_data.specs.lent_tables.Lent.{tables}
use Rattle.array_data.specs.type_tree.Lent.{tree_of, type_of}
use Rattle.array_data.proofs.lent_tables.Laws.{and_left, and_right}
use Rattle.array_data.proofs.entries.Laws.{holds_in, item_at}
use Rattle.source_rules.specs.kinds.Rows.{tables_of}
use Rattle.source_rules.proofs.From.{length_from, offset_from}
use Rattle.columns.specs.Grounds.{column_ground}
use Rattle.columns.proofs.Grounds.{within_low}
use Rattle.columns.proofs.Answers.{sum_fits}
use Rattle.columns.specs.column_pair.Pair.{range_in}
use Rattle.aggregates.proofs.stretches.Stretch.{ends_fit, ends_held, answered_is}
use Rattle.aggregates.proofs.Types.{run_over}
use Rattle.walk.specs.State.{far}
use Rattle.walk.specs.Log.{apply, Did}
use Rattle.anew.specs.ResultPlan.{Comes}
use Rattle.anew.proofs.Bits.{keeps_typed}
use Rattle.anew.proofs.Comes.{comes}
use Rattle.anew.proofs.result_plan.Answered.{made_room_lem}
use Rattle.anew.specs.runs.Coding.{run_at}
use Rattle.anew.proofs.runs.Fewest.{run_there}
use Rattle.aggregates.proofs.stretches.FirstAbove.{first_above_lem}
use Rattle.coding.specs.run_coding.Rows.{Held}
use Rattle.coding.specs.run_coding.Writes.{Holds, end_in}
use Rattle.coding.specs.Counted.{row_counts}
use Rattle.coding.specs.Encode.{plain_at}
use Rattle.coding.specs.Expand.{from_values, value_number, run_width, runs_of_plain, plain_over, expand_own, run_column, expand_keeps, expand_out, run_or, value_wide, end_wide, values_at, value_mask, value_bit, ends_at, first_row, first_run, Expandable, RowsFit, rows_in}
use Rattle.coding.proofs.Tests.{chosen}
use Rattle.coding.proofs.Codes.{code_width_lem, ends_sized}
use Rattle.coding.proofs.Node.{node_held, valid_same, bytes_same}
use Rattle.coding.proofs.Rowed.{expand_did}
use Rattle.coding.proofs.Accepted.{Passed, passed, PlainIs, plain_is, type_plain, type_runs, range_is, node_inside, column_source}

-- ---- what the expansion's own grounds let through

pub record OwnRuns (formats schema : List ℕ) (x : Tables) (first target start end : ℕ) : Type 0 where
  pub is_run_lem : is_run_end (code_of formats schema first 0) ≡ true
  pub values : PlainIs formats schema first 2
  pub low : ceilings formats schema target 1 ≡ true
  pub of_type : typed formats schema target 1 ≡ true
  pub plain : PlainIs formats schema target 0
  pub same_code : code_of formats schema target 0 ≡ code_of formats schema first 2
  pub range : range_in x first start end ≡ true

pub own_runs : (formats schema : List ℕ) (x : Tables) (first n target start end : ℕ) → expand_own formats schema x first n target start end ≡ 0 → OwnRuns formats schema x first target start end
unfolding expand_own runs_of_plain plain_over
own_runs formats schema x first n target start end h =
    let a = is_run_end (code_of formats schema first 0) in
    let b = plain_at formats schema first 2 in
    let c = ceilings formats schema target 1 in
    let d = typed formats schema target 1 in
    let e = plain_at formats schema target 0 in
    let f = eqb (code_of formats schema target 0) (code_of formats schema first 2) in
    let p = chosen (a && b && (c && d && e && f)) _ 10 (omega arith) h in
    let q = chosen (range_in x first start end) 0 2 (omega arith) p.1 in
    let u = and_left (a && b) (c && d && e && f) p.0 in
    let v = and_right (a && b) (c && d && e && f) p.0 in
    let s = and_left (c && d && e) f v in
    let t = and_left (c && d) e s in
    record {
      is_run_lem = and_left a b u;
      values = plain_is formats schema first 2 (and_right a b u);
      low = and_left c d t;
      of_type = and_right c d t;
      plain = plain_is formats schema target 0 (and_right (c && d) e s);
      same_code = eqb-true _ _ (and_right (c && d && e) f v);
      range = q.0;
    }

pub target_plain : (formats schema : List ℕ) (x : Tables) (first n target start end : ℕ) → expand_own formats schema x first n target start end ≡ 0 → plain_at formats schema target 0 ≡ true
unfolding expand_own plain_over
target_plain formats schema x first n target start end h =
    let a = runs_of_plain formats schema first target in
    let c = ceilings formats schema target 1 in
    let d = typed formats schema target 1 in
    let e = plain_at formats schema target 0 in
    let f = eqb (code_of formats schema target 0) (code_of formats schema first 2) in
    let p = chosen (a && (c && d && e && f)) _ 10 (omega arith) h in
    and_right (c && d) e (and_left (c && d && e) f (and_right a (c && d && e && f) p.0))

-- a room of this size holds m rows
roomy : (w m : ℕ) (keep : Bool) → Holds w keep 0 0 (length (replicate {A = ℕ} (m * w + m) 0)) m
roomy w m keep = let z = length-replicate {A = ℕ} (m * w + m) 0 in record { of_values = omega (arith, z); of_bits = λ q. omega (arith, z) }

module _ (formats schema lengths places buffers body : List ℕ) (first n target start end : ℕ) (low : first < 2 ^ 32) (small : (j : ℕ) → get_or body j 0 < 256) where
  abbrev x : Tables
  x = tables_of lengths places buffers body

  abbrev y : Tables
  y = tables lengths places body

  abbrev xs : Tables
  xs = tables_from y first

  abbrev w : ℕ
  w = value_wide formats schema y first start end

  abbrev e : ℕ
  e = end_wide formats schema y first start end

  module _ (g : column_ground formats schema x first n ≡ 0) (o : expand_own formats schema x first n target start end ≡ 0) where
    pub pass : Passed formats schema x first n
    pass = passed formats schema x first n g

    pub own : OwnRuns formats schema x first target start end
    own = own_runs formats schema x first n target start end o

    abbrev k : Number
    k = value_number formats schema first target

    abbrev v : Column (t_run_end (run_width formats schema first target) (t_plain (fixed k)))
    v = run_column formats schema x first n target start end

    pub type_is_lem : type_of formats schema target 1 ≡ t_plain (fixed k)
    type_is_lem = type_plain formats schema target 1 own.plain ∙ ap (λ c. t_plain (fixed (Rattle.schema.specs.formats.Types.number_or (Rattle.schema.specs.formats.Types.number_of c)))) own.same_code

    pub source : Source (t_run_end (run_width formats schema first target) (t_plain (fixed k))) v
    source =
        subst (λ u. Source u (column_of (tree_of formats schema first n) (tables_from x first) u 0)) (type_runs formats schema first n own.is_run_lem own.values)
        (column_source formats schema x first n pass)

    ends_width : RunWidth e
    ends_width = (run_over formats schema first n pass.of_type own.is_run_lem).of_width

    values_in : 2 < n
    values_in = (run_over formats schema first n pass.of_type own.is_run_lem).values_in

    pub ranged : (start ≤ end) × (end ≤ length_of x first)
    ranged = range_is x first start end own.range

    sums : (i : ℕ) → i < n → offset_of xs i + length_of xs i < 2 ^ 63
    sums i l = rw (offset_from x first i, length_from x first i) (sum_fits formats schema x first n pass.within i l)

    pub within : start + (end - start) ≤ v.len
    within = let e1 : length_of (tables_from x first) 0 ≡ length_of x (first + 0) = length_from x first 0 in let z : first + 0 ≡ first = omega arith in
        let f : length_of x (first + 0) ≡ length_of x first = ap (length_of x) z in omega (arith, ranged.0, ranged.1, e1, f)

    pub short : end - start < far
    short = omega (arith, within, sums 0 (omega (arith, values_in)))

    pub come : Comes y first 1 from_values
    come = comes formats schema x first n low g 1 from_values few few_from
      where
        few : n ≤ 32
        few = Rattle.schema.proofs.Known.within_nodes formats schema first n (within_low formats schema x first n pass.within)

        few_from : (i : ℕ) → i < 1 → get_or from_values i 0 ≤ n
        few_from zero l = omega (arith, values_in)
        few_from (suc i) l = absurd (omega arith)

    pub keep_is : expand_keeps formats schema x first n target start end 0 ≡ ltb 0 (null_count_of v.body.values)
    keep_is = keeps_typed x first from_values 0 2 refl (first_buffer (tables_from x first) 2)

    low_body : length body < 2 ^ 63
    low_body = omega (arith, pass.low_body)

    low64 : offset_of xs 0 + length_of xs 0 < 2 ^ 64
    low64 = omega (arith, sums 0 (omega (arith, values_in)))

    as_many : length_of xs 2 ≡ length_of xs 1
    as_many = source.slots.as_many

    module _ (keep : Bool) (exact : keep ≡ expand_keeps formats schema x first n target start end 0) where
      exact_nulls : keep ≡ ltb 0 (null_count_of v.body.values)
      exact_nulls = exact ∙ keep_is

      value_within : 0 + length_of xs 1 ≤ length_of xs 2
      value_within = omega (arith, as_many)

      value_sum : offset_of xs 2 + length_of xs 2 < 2 ^ 63
      value_sum = sums 2 values_in

      value_inside : place xs 2 3 + place xs 2 4 ≤ length body
      value_inside = node_inside formats schema x first n pass 2 values_in own.values

      held : Held body w keep (values_at formats schema y first start end) (value_mask formats schema y first start end) (value_bit formats schema y first start end) (length_of xs 1)
      held = node_held xs 2 (code_of formats schema first 2) own.values.is_fixed_lem 0 (length_of xs 1) value_within value_sum source.slots.child_rule.mask source.slots.child_rule.slots value_inside low_body keep exact_nulls

      valid : (q : ℕ) → q < length_of xs 1 → Rattle.coding.specs.run_coding.Rows.valid_in body keep (value_mask formats schema y first start end) (value_bit formats schema y first start end) q ≡ Rattle.anew.specs.runs.Runs.ok_at v.body.values q
      valid q l =
          valid_same xs 2 (code_of formats schema first 2) own.values.is_fixed_lem 0 (length_of xs 1) value_within value_sum source.slots.child_rule.mask source.slots.child_rule.slots value_inside low_body keep exact_nulls q l
          ∙ ap (Rattle.anew.specs.runs.Runs.ok_at v.body.values) (let z : 0 + q ≡ q = omega arith in z)

      bytes : (q : ℕ) → q < length_of xs 1 → Rattle.number.specs.Number.encode w (Rattle.coding.specs.run_coding.Rows.cell_of (Rattle.anew.specs.runs.Runs.ok_at v.body.values q) (Rattle.coding.specs.run_coding.Rows.number_in body w (values_at formats schema y first start end) q)) ≡ Rattle.anew.specs.runs.Picked.cell k v.body.values q
      bytes q l =
          let z : 0 + q ≡ q = omega arith in
          subst (λ j. Rattle.number.specs.Number.encode w (Rattle.coding.specs.run_coding.Rows.cell_of (Rattle.anew.specs.runs.Runs.ok_at v.body.values j) (Rattle.coding.specs.run_coding.Rows.number_in body w (values_at formats schema y first start end) q)) ≡ Rattle.anew.specs.runs.Picked.cell k v.body.values j) z
          (bytes_same xs 2 (code_of formats schema first 2) own.values.is_fixed_lem 0 (length_of xs 1) value_within value_sum source.slots.child_rule.mask source.slots.child_rule.slots value_inside low_body keep exact_nulls q l small)

      -- ---- run ends

      wide_end : (z : ℕ) → RunWidth z → 1 ≤ z
      wide_end z two = omega arith
      wide_end z four = omega arith
      wide_end z eight = omega arith

      end_is : (q : ℕ) → q < length_of xs 1 → end_in body e (ends_at formats schema y first start end) q ≡ end_of e v.body.ends q
      end_is q l =
          let a1 : (offset_of xs 1 + 0) * e + q * e ≡ (offset_of xs 1 + 0 + q) * e = sym (add-mul (offset_of xs 1 + 0) q e) in
          let a2 : (offset_of xs 1 + 0 + q) * e ≡ (offset_of xs 1 + q) * e = ap (λ z. (z + q) * e) (add-zero (offset_of xs 1)) in
          let p : ends_at formats schema y first start end + q * e ≡ place xs 1 3 + (offset_of xs 1 + q) * e = omega (arith, a1, a2) in
          ap (λ z. number e (drop z body)) p
          ∙ item_at body (place xs 1 3) (place xs 1 4) e (offset_of xs 1 + q) (holds_in e (first_buffer xs 1) (offset_of xs 1 + q) (wide_end e ends_width) (le_trans (entry_end e {i = offset_of xs 1 + q} {n = offset_of xs 1 + length_of xs 1} (omega arith)) source.slots.hold))

      module _ (some : start < end) where
        here : start < length_of xs 0
        here = omega (arith, within)

        run_is : first_run formats schema y first start end ≡ run_at e v start
        run_is = ap run_or (answered_is (tree_of formats schema first n) (tables_from x first) e ends_width (t_plain (fixed k)) source low64 start here)

        -- THE RUNS STAND IN THE BODY
        pub expandable : Expandable formats schema y first start end keep
        expandable =
            let f = ends_held (tree_of formats schema first n) (tables_from x first) e ends_width (t_plain (fixed k)) source low64 start here in
            let c1 : e * offset_of xs 1 ≡ (offset_of xs 1 + 0) * e = mul_comm e (offset_of xs 1) ∙ ap (λ z. z * e) (sym (add-zero (offset_of xs 1))) in
            let c2 : e * (offset_of xs 1 + length_of xs 1) ≡ offset_of xs 1 * e + length_of xs 1 * e = mul_comm e (offset_of xs 1 + length_of xs 1) ∙ add-mul (offset_of xs 1) (length_of xs 1) e in
            let c3 : (offset_of xs 1 + 0) * e ≡ offset_of xs 1 * e = ap (λ z. z * e) (add-zero (offset_of xs 1)) in
            let t = run_there e (t_plain (fixed k)) v source start here in
            let a = first_above_lem (end_of e v.body.ends) (v.off + start) 0 v.body.ends.len (omega (arith, t)) in
            record {
              low = omega (arith, here, sums 0 (omega (arith, values_in)));
              bits_low = omega (arith, value_sum);
              ends_low = omega (arith, sums 1 (omega (arith, values_in)));
              values_in = omega (arith, held.holds, low_body);
              ends_in_lem = omega (arith, f.1, c2, c3, low_body);
              ends_sum = sums 1 (omega (arith, values_in));
              ends_fit = λ more. omega (arith, ends_fit (tree_of formats schema first n) (tables_from x first) e ends_width (t_plain (fixed k)) source low64 more, low_body);
              ends_held = f;
              ends =
                  record {
                    sized = ends_sized e ends_width;
                    holds = omega (arith, f.1, c2, c3);
                    low = omega (arith, within, low64);
                    some_run = λ q. subst (λ z. z < length_of xs 1) (sym run_is) t;
                    above = λ q. subst (λ z. offset_of xs 0 + start < end_in body e (ends_at formats schema y first start end) z) (sym run_is) (omega (arith, end_is (run_at e v start) t, a));
                    rises = λ q l. omega (arith, end_is q (omega arith), end_is (suc q) l, source.slots.rises (suc q) l);
                    covers = λ q z. covered q z;
                  };
              held = held;
            }
          where
            covered : (q : ℕ) → suc q ≡ length_of xs 1 → first_row formats schema y first start end + (end - start) ≤ end_in body e (ends_at formats schema y first start end) q
            covered q z =
                let c : offset_of xs 0 + length_of xs 0 ≤ end_of e v.body.ends q = subst (λ m. offset_of xs 0 + length_of xs 0 ≤ ends.start_of (end_of e v.body.ends) m) (sym z) source.slots.covers in
                omega (arith, c, within, end_is q (omega arith))

      module _ (plan parts room : List ℕ) (fits : RowsFit formats schema y first start end plan parts keep (length room)) where
        did : Did plan parts true (expand_out formats schema x first n target start end) room 0 (row_counts (end - start)) (rows_in formats schema y first start end plan parts keep room)
        did =
            subst (λ b. Did plan parts true (Rattle.coding.specs.run_walks.Expand.expand_walk k e v start (end - start) b (replicate 96 0)) room 0 (row_counts (end - start)) (rows_in formats schema y first start end plan parts keep room)) exact
            (expand_did plan parts k e v start (end - start) keep body w (values_at formats schema y first start end) (value_mask formats schema y first start end) (value_bit formats schema y first start end) (ends_at formats schema y first start end) (first_row formats schema y first start end)
            (code_width_lem (code_of formats schema first 2) own.values.is_fixed_lem) valid bytes end_is refl source within short (first_run formats schema y first start end) room (λ l. run_is (omega arith)) fits)

        -- WHAT THE LOOP WRITES IS THE LOG'S
        pub room_is : rows_in formats schema y first start end plan parts keep room ≡ apply plan parts (expand_out formats schema x first n target start end).log room
        room_is = made_room_lem plan parts (expand_out formats schema x first n target start end) room did

      abbrev wide_room : List ℕ
      wide_room = replicate ((end - start) * w + (end - start)) 0

      did_wide : Did [] [] true (expand_out formats schema x first n target start end) wide_room 0 (row_counts (end - start)) (rows_in formats schema y first start end [] [] keep wide_room)
      did_wide = did [] [] wide_room (roomy w (end - start) keep)

      -- .. AND SO ARE THE COUNTERS, and its walk is done
      pub counters_are : row_counts (end - start) ≡ (expand_out formats schema x first n target start end).counters
      counters_are = did_wide.counters

      pub walk_done : 0 ≡ (expand_out formats schema x first n target start end).ans
      walk_done = did_wide.answer
