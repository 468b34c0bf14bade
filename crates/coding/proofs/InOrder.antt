-- THE GROUNDS OF THE ENCODER AND OF THE EXPANSION in their order (02, W1: "with 10 all but a fixed-width column, or to expand a run-end column of
-- fixed-width values, with 2 a range outside the column, with 7 a range too long for the run-end type, and with 13 a room too small, in that order";
-- "14 stands just before 13"). Assumes nothing.
use mathlib.Core.Path.{◌≡◌, refl, sym, ap, ◌∙◌}
use mathlib.Core.Bool.{Bool, true, false, cond, ◌&&◌}
use mathlib.Core.List.{List}
use Prim.Native.Nat.{ℕ, ◌-◌, ◌^◌, ◌≤◌, ◌<◌}
use lib.ListN.{length, get_or}
use lib.Dec.{ltb}
use borrow.Author.Tests.{lt-ltb, le-ltb}
use Rattle.columnar.specs.Types.{half}
use Rattle.array_data.specs.Tables.{Tables}
use Rattle.array_data.specs.type_tree.Lent.{type_of}
use Rattle.source_rules.specs.kinds.Rows.{tables_of}
use Rattle.columns.specs.Grounds.{small_body, column_ground}
use Rattle.columns.specs.column_pair.Pair.{range_in}
use Rattle.anew.specs.Anew.{or_else, room_ground}
use Rattle.anew.proofs.Laws.{or_zero, or_never, anew_order}
use Rattle.coding.specs.Encode.{plain_at, end_width, runs_over, encode_own, encode_keeps, encode_plan, encode_out, encoding}
use Rattle.coding.specs.Expand.{runs_of_plain, plain_over, expand_own, expand_keeps, expand_plan, expand_out, expanding}
use Rattle.coding.proofs.Accepted.{passed}
use Rattle.coding.proofs.Encoded as e
use Rattle.coding.proofs.Expanded as r
use Rattle.coding.proofs.Types.{fixed_type, plain_exact, runs_type, runs_exact}

and_false : (a : Bool) → a && false ≡ false
and_false true = refl
and_false false = refl

module _ (formats schema lengths places buffers body : List ℕ) (first n target start end : ℕ) (low : first < 2 ^ 32) (small : (j : ℕ) → get_or body j 0 < 256) (parts plan counters room : List ℕ) (s : small_body room ≡ true) where
  abbrev x : Tables
  x = tables_of lengths places buffers body

  -- ---- the encoder

  abbrev of_runs : ℕ
  of_runs =
      room_ground (encode_plan formats schema x first n target start end) (encode_out formats schema x first n target start end).counters parts (length plan) (length counters) (length room)

  -- 9, 10 and 12 of the column, 10, 2 and 7, 14 and 13, and no other ground
  pub encode_grounds : (encoding formats schema x first n target start end parts plan counters room).refusal ≡ or_else (column_ground formats schema x first n) (or_else (encode_own formats schema x first n target start end) of_runs)
  encode_grounds =
      anew_order formats schema x first n (encode_own formats schema x first n target start end) (encode_plan formats schema x first n target start end) (encode_out formats schema x first n target start end) parts plan counters room s
      ∙ or_never (column_ground formats schema x first n) (encode_own formats schema x first n target start end) (encode_out formats schema x first n target start end).ans of_runs
      (λ g o. sym (e.walk_done formats schema lengths places buffers body first n target start end low small g o (encode_keeps formats schema x first n target start end 2) refl))

  module _ (good : column_ground formats schema x first n ≡ 0) where
    abbrev encoder : ℕ
    encoder = (encoding formats schema x first n target start end parts plan counters room).refusal

    by_own : (g : ℕ) → encode_own formats schema x first n target start end ≡ g → encoder ≡ or_else g of_runs
    by_own g o = encode_grounds ∙ or_zero _ _ good ∙ ap (λ z. or_else z of_runs) o

    own_is : (a d i f : Bool) → plain_at formats schema first 0 ≡ a → runs_over formats schema first target ≡ d → range_in x first start end ≡ i → ltb (end - start) (half (end_width formats schema first target)) ≡ f
        → encode_own formats schema x first n target start end ≡ cond (a && d) (cond i (cond f 0 7) 2) 10
    unfolding encode_own
    own_is a d i f p q u v = rw (p, q, u, v)

    plain_at_lem : plain_at formats schema first 0 ≡ fixed_type (type_of formats schema first n)
    plain_at_lem = plain_exact formats schema first n (passed formats schema x first n good).of_type

    -- "10 ALL BUT A FIXED-WIDTH COLUMN", and a target that is not due
    pub encode_other : fixed_type (type_of formats schema first n) ≡ false → encoder ≡ 10
    encode_other h = by_own 10 (own_is false (runs_over formats schema first target) (range_in x first start end) (ltb (end - start) (half (end_width formats schema first target))) (plain_at_lem ∙ h) refl refl refl)

    pub encode_target : runs_over formats schema first target ≡ false → encoder ≡ 10
    encode_target h =
        by_own 10
        (own_is (plain_at formats schema first 0) false (range_in x first start end) (ltb (end - start) (half (end_width formats schema first target))) refl h refl refl
        ∙ ap (λ b. cond b (cond (range_in x first start end) (cond (ltb (end - start) (half (end_width formats schema first target))) 0 7) 2) 10) (and_false (plain_at formats schema first 0)))

    module _ (is_fixed_lem : fixed_type (type_of formats schema first n) ≡ true) (due : runs_over formats schema first target ≡ true) where
      -- "2 A RANGE OUTSIDE THE COLUMN"
      pub encode_range : range_in x first start end ≡ false → encoder ≡ 2
      encode_range h = by_own 2 (own_is true true false (ltb (end - start) (half (end_width formats schema first target))) (plain_at_lem ∙ is_fixed_lem) due h refl)

      -- "7 A RANGE TOO LONG FOR THE RUN-END TYPE": longer than its largest number
      pub encode_long : range_in x first start end ≡ true → half (end_width formats schema first target) ≤ end - start → encoder ≡ 7
      encode_long h l = by_own 7 (own_is true true true false (plain_at_lem ∙ is_fixed_lem) due h (le-ltb (end - start) (half (end_width formats schema first target)) l))

      -- .. and else 14 and 13 of the room alone, at no rows too
      pub encode_room : range_in x first start end ≡ true → end - start < half (end_width formats schema first target) → encoder ≡ of_runs
      encode_room h l = by_own 0 (own_is true true true true (plain_at_lem ∙ is_fixed_lem) due h (lt-ltb (end - start) (half (end_width formats schema first target)) l))

  -- ---- the expansion

  abbrev of_rows : ℕ
  of_rows =
      room_ground (expand_plan formats schema x first n target start end) (expand_out formats schema x first n target start end).counters parts (length plan) (length counters) (length room)

  -- 9, 10 and 12 of the column, 10 and 2, 14 and 13, and no other ground
  pub expand_grounds : (expanding formats schema x first n target start end parts plan counters room).refusal ≡ or_else (column_ground formats schema x first n) (or_else (expand_own formats schema x first n target start end) of_rows)
  expand_grounds =
      anew_order formats schema x first n (expand_own formats schema x first n target start end) (expand_plan formats schema x first n target start end) (expand_out formats schema x first n target start end) parts plan counters room s
      ∙ or_never (column_ground formats schema x first n) (expand_own formats schema x first n target start end) (expand_out formats schema x first n target start end).ans of_rows
      (λ g o. sym (r.walk_done formats schema lengths places buffers body first n target start end low small g o (expand_keeps formats schema x first n target start end 0) refl))

  module _ (good : column_ground formats schema x first n ≡ 0) where
    abbrev expansion : ℕ
    expansion = (expanding formats schema x first n target start end parts plan counters room).refusal

    by_its : (g : ℕ) → expand_own formats schema x first n target start end ≡ g → expansion ≡ or_else g of_rows
    by_its g o = expand_grounds ∙ or_zero _ _ good ∙ ap (λ z. or_else z of_rows) o

    its_own : (a d i : Bool) → runs_of_plain formats schema first target ≡ a → plain_over formats schema first target ≡ d → range_in x first start end ≡ i
        → expand_own formats schema x first n target start end ≡ cond (a && d) (cond i 0 2) 10
    unfolding expand_own
    its_own a d i p q u = rw (p, q, u)

    runs_at_lem : runs_of_plain formats schema first target ≡ runs_type (type_of formats schema first n)
    runs_at_lem = runs_exact formats schema first target n (passed formats schema x first n good).of_type

    -- "10 .. TO EXPAND [all but] A RUN-END COLUMN OF FIXED-WIDTH VALUES", and a target that is not due
    pub expand_other : runs_type (type_of formats schema first n) ≡ false → expansion ≡ 10
    expand_other h = by_its 10 (its_own false (plain_over formats schema first target) (range_in x first start end) (runs_at_lem ∙ h) refl refl)

    pub expand_target : plain_over formats schema first target ≡ false → expansion ≡ 10
    expand_target h =
        by_its 10
        (its_own (runs_of_plain formats schema first target) false (range_in x first start end) refl h refl
        ∙ ap (λ b. cond b (cond (range_in x first start end) 0 2) 10) (and_false (runs_of_plain formats schema first target)))

    module _ (are_runs : runs_type (type_of formats schema first n) ≡ true) (due : plain_over formats schema first target ≡ true) where
      pub expand_range : range_in x first start end ≡ false → expansion ≡ 2
      expand_range h = by_its 2 (its_own true true false (runs_at_lem ∙ are_runs) due h)

      pub expand_room : range_in x first start end ≡ true → expansion ≡ of_rows
      expand_room h = by_its 0 (its_own true true true (runs_at_lem ∙ are_runs) due h)
