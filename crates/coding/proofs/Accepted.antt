-- An accepted column that the encoder takes: what it and its target are, and that its rows stand in the body. Assumes nothing.
use mathlib.Core.Path.{◌≡◌, refl, sym, ap, subst, ◌∙◌}
use mathlib.Core.Bool.{Bool, true, false, ◌&&◌}
use mathlib.Core.List.{List}
use Prim.Native.Nat.{ℕ, ◌+◌, ◌-◌, ◌^◌, ◌≤◌, ◌<◌}
use native.Mathlib.Omega.{arith}
use lib.ListN.{length}
use lib.Dec.{T, leb, ltb, eqb}
use borrow.Author.Tests.{leb-true, ltb-true, eqb-true}
use Rattle.columnar.specs.Types.{half, fixed, t_plain, t_run_end}
use Rattle.columnar.specs.Formed.{RunWidth}
use Rattle.columnar.specs.Reading.{Source}
use Rattle.columnar.proofs.Test.{every_out}
use Rattle.schema.specs.formats.Code.{is_fixed, is_run_end, width_of}
use Rattle.schema.specs.formats.Types.{number_of, number_or}
use Rattle.schema.specs.Tree.{dictionary, code_of, ceilings, typed}
use Rattle.schema.proofs.Known.{typed_whole}
use Rattle.array_data.specs.Tables.{Tables, length_of, offset_of, place}
use Rattle.array_data.specs.Rules.{one_in}
use Rattle.array_data.specs.Typed.{column_of, tables_from, source_rule, node_rule, kind_rule}
use Rattle.array_data.specs.type_tree.Lent.{tree_of, type_of}
use Rattle.array_data.proofs.lent_tables.Laws.{and_left, and_right, first_in}
use Rattle.array_data.proofs.type_tree.Lent.{some_node}
use Rattle.array_data.proofs.type_tree.Shaped.{at_fixed, at_run}
use Rattle.array_data.proofs.type_tree.Source.{lent_source}
use Rattle.source_rules.proofs.From.{length_from, offset_from}
use Rattle.columns.specs.Grounds.{ceiling, small_body, within_ceilings, obeys, column_ground}
use Rattle.columns.proofs.Grounds.{within_low}
use Rattle.columns.proofs.Answers.{sum_fits}
use Rattle.aggregates.proofs.Types.{run_over}
use Rattle.columns.specs.column_pair.Pair.{range_in}
use Rattle.coding.specs.Encode.{plain_at, number, end_width, runs_over, encode_own}
use Rattle.coding.proofs.Tests.{chosen}
use Rattle.array_data.proofs.type_tree.ByKind.{type_as}

-- ---- what an accepted column has passed

pub record Passed (formats schema : List ℕ) (x : Tables) (first n : ℕ) : Type 0 where
  pub low_body : length x.body ≤ ceiling
  pub within : within_ceilings formats schema x first n ≡ true
  pub of_type : typed formats schema first n ≡ true
  pub obeying : T (source_rule (tree_of formats schema first n) (tables_from x first))

true_is : (b : Bool) → b ≡ true → T b
true_is b e = subst T (sym e) tt

is_true : (b : Bool) → T b → b ≡ true
is_true true h = refl
is_true false h = absurd h

pub passed : (formats schema : List ℕ) (x : Tables) (first n : ℕ) → column_ground formats schema x first n ≡ 0 → Passed formats schema x first n
unfolding column_ground small_body obeys
passed formats schema x first n h =
    let p = chosen (small_body x.body && within_ceilings formats schema x first n) _ 9 (omega arith) h in
    let q = chosen (typed formats schema first n) _ 10 (omega arith) p.1 in
    let r = chosen (obeys formats schema x first n) 0 12 (omega arith) q.1 in
    record {
      low_body = leb-true (length x.body) ceiling (and_left (small_body x.body) (within_ceilings formats schema x first n) p.0);
      within = and_right (small_body x.body) (within_ceilings formats schema x first n) p.0;
      of_type = q.0;
      obeying = true_is _ r.0;
    }

-- ---- what the encoder's own grounds let through

module _ (formats schema : List ℕ) (x : Tables) (first n target start end : ℕ) where
  pub record Own : Type 0 where
    pub plain : plain_at formats schema first 0 ≡ true
    pub due : runs_over formats schema first target ≡ true
    pub range : range_in x first start end ≡ true
    pub short : end - start < half (end_width formats schema first target)

  pub own_none : encode_own formats schema x first n target start end ≡ 0 → Own
  unfolding encode_own
  own_none h =
      let p = chosen (plain_at formats schema first 0 && runs_over formats schema first target) _ 10 (omega arith) h in
      let q = chosen (range_in x first start end) _ 2 (omega arith) p.1 in
      let r = chosen (ltb (end - start) (half (end_width formats schema first target))) 0 7 (omega arith) q.1 in
      record {
        plain = and_left (plain_at formats schema first 0) (runs_over formats schema first target) p.0;
        due = and_right (plain_at formats schema first 0) (runs_over formats schema first target) p.0;
        range = q.0;
        short = ltb-true _ _ r.0;
      }

-- ---- types

pub record PlainIs (formats schema : List ℕ) (first i : ℕ) : Type 0 where
  pub is_fixed_lem : is_fixed (code_of formats schema first i) ≡ true
  pub alone : eqb (dictionary schema first i) 0 ≡ true

pub plain_is : (formats schema : List ℕ) (first i : ℕ) → plain_at formats schema first i ≡ true → PlainIs formats schema first i
unfolding plain_at
plain_is formats schema first i h =
    record {
      is_fixed_lem = and_left (is_fixed (code_of formats schema first i)) (eqb (dictionary schema first i) 0) h;
      alone = and_right (is_fixed (code_of formats schema first i)) (eqb (dictionary schema first i) 0) h;
    }

pub record DueIs (formats schema : List ℕ) (first target : ℕ) : Type 0 where
  pub low : ceilings formats schema target 3 ≡ true
  pub of_type : typed formats schema target 3 ≡ true
  pub is_run_lem : is_run_end (code_of formats schema target 0) ≡ true
  pub values : PlainIs formats schema target 2
  pub same_code : code_of formats schema target 2 ≡ code_of formats schema first 0

pub due_is : (formats schema : List ℕ) (first target : ℕ) → runs_over formats schema first target ≡ true → DueIs formats schema first target
unfolding runs_over
due_is formats schema first target h =
    let same = eqb (code_of formats schema target 2) (code_of formats schema first 0) in
    let a = ceilings formats schema target 3 in
    let b = typed formats schema target 3 in
    let c = is_run_end (code_of formats schema target 0) in
    let d = plain_at formats schema target 2 in
    let p = and_left (a && b && c && d) same h in
    let q = and_left (a && b && c) d p in
    let r = and_left (a && b) c q in
    record {
      low = and_left a b r;
      of_type = and_right a b r;
      is_run_lem = and_right (a && b) c q;
      values = plain_is formats schema target 2 (and_right (a && b && c) d p);
      same_code = eqb-true _ _ (and_right (a && b && c && d) same h);
    }

module _ (formats schema : List ℕ) (first : ℕ) where
  -- the type of a fixed-width column
  pub type_plain : (n : ℕ) → PlainIs formats schema first 0 → type_of formats schema first n ≡ t_plain (fixed (number_or (number_of (code_of formats schema first 0))))
  type_plain n h = type_as (tree_of formats schema first n) 7 0 (at_fixed formats schema first 0 h.is_fixed_lem h.alone)

  -- .. of a run-end column
  pub type_runs : (n : ℕ) → is_run_end (code_of formats schema first 0) ≡ true → PlainIs formats schema first 2
      → type_of formats schema first n ≡ t_run_end (width_of (code_of formats schema first 1)) (t_plain (fixed (number_or (number_of (code_of formats schema first 2)))))
  type_runs n r h =
      type_as (tree_of formats schema first n) 7 0 (at_run formats schema first 0 r)
      ∙ ap (t_run_end (width_of (code_of formats schema first 1))) (type_as (tree_of formats schema first n) 6 2 (at_fixed formats schema first 2 h.is_fixed_lem h.alone))

pub due_type : (formats schema : List ℕ) (first target : ℕ) → DueIs formats schema first target → type_of formats schema target 3 ≡ t_run_end (end_width formats schema first target) (t_plain (fixed (number formats schema first target)))
due_type formats schema first target d =
    type_runs formats schema target 3 d.is_run_lem d.values ∙ ap (λ c. t_run_end (width_of (code_of formats schema target 1)) (t_plain (fixed (number_or (number_of c))))) d.same_code

pub due_width : (formats schema : List ℕ) (first target : ℕ) → DueIs formats schema first target → RunWidth (end_width formats schema first target)
due_width formats schema first target d = (run_over formats schema target 3 d.of_type d.is_run_lem).of_width

-- ---- a range

pub range_is : (x : Tables) (k start end : ℕ) → range_in x k start end ≡ true → (start ≤ end) × (end ≤ length_of x k)
unfolding range_in
range_is x k start end h = (leb-true start end (and_left (leb start end) (leb end (length_of x k)) h), leb-true end (length_of x k) (and_right (leb start end) (leb end (length_of x k)) h))

-- ---- a fixed-width node of an accepted column

module _ (formats schema : List ℕ) (x : Tables) (first n : ℕ) (p : Passed formats schema x first n) (i : ℕ) (l : i < n) (h : PlainIs formats schema first i) where
  -- its buffers lie in the body
  pub node_inside : place (tables_from x first) i 3 + place (tables_from x first) i 4 ≤ length x.body
  node_inside =
      let k = at_fixed formats schema first i h.is_fixed_lem h.alone in
      let t = every_out (node_rule (tree_of formats schema first n) (tables_from x first)) n p.obeying i l in
      let f = subst (λ z. T (kind_rule (tree_of formats schema first n) (tables_from x first) z i)) k t in
      first_in (tables_from x first) i (and_left (one_in (tables_from x first) i) _ (is_true _ f))

  pub node_sum : offset_of (tables_from x first) i + length_of (tables_from x first) i < 2 ^ 63
  node_sum = rw (offset_from x first i, length_from x first i) (sum_fits formats schema x first n p.within i l)

pub column_source : (formats schema : List ℕ) (x : Tables) (first n : ℕ) → Passed formats schema x first n
    → Source (type_of formats schema first n) (column_of (tree_of formats schema first n) (tables_from x first) (type_of formats schema first n) 0)
column_source formats schema x first n p = lent_source formats schema first n (tables_from x first) p.of_type (within_low formats schema x first n p.within) p.obeying

pub root_in : (formats schema : List ℕ) (first n : ℕ) → typed formats schema first n ≡ true → 0 < n
root_in formats schema first n t = some_node formats schema first n (typed_whole formats schema first n t)
