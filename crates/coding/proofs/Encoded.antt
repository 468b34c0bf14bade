-- The encoder on an accepted column: what its code reads and writes is what its walk says. Assumes nothing.
use mathlib.Core.Path.{◌≡◌, refl, ap, subst, ◌∙◌}
use mathlib.Core.Bool.{Bool, true, false, not, ◌||◌}
use mathlib.Core.List.{List, []}
use Prim.Native.Nat.{ℕ, zero, suc, ◌+◌, ◌*◌, ◌-◌, ◌^◌, ◌≤◌, ◌<◌}
use native.Mathlib.Omega.{arith}
use lib.ListN.{length, get_or, replicate, length-replicate}
use lib.Dec.{ltb, eqb}
use borrow.Author.Tests.{eqb-false}
use Rattle.columnar.specs.Types.{Number, half, fixed, t_plain}
use Rattle.columnar.specs.Formed.{RunWidth, two, four, eight}
use Rattle.columnar.specs.Array.{null_count_of}
use Rattle.columnar.specs.Reading.{Column, Source}
use Rattle.schema.specs.Tree.{code_of}
use Rattle.array_data.specs.Tables.{Tables, length_of, offset_of, place, first_buffer}
use Rattle.array_data.specs.Typed.{column_of, tables_from}
use Rattle.array_data.specs.lent_tables.Lent.{tables}
use Rattle.array_data.specs.type_tree.Lent.{tree_of}
use Rattle.source_rules.specs.kinds.Rows.{tables_of}
use Rattle.source_rules.proofs.From.{length_from}
use Rattle.columns.specs.Grounds.{column_ground}
use Rattle.walk.specs.State.{far}
use Rattle.walk.specs.Log.{apply, Did}
use Rattle.anew.specs.ResultPlan.{Comes}
use Rattle.anew.proofs.Bits.{keeps_typed}
use Rattle.anew.proofs.Comes.{comes}
use Rattle.columns.proofs.Grounds.{within_low}
use Rattle.anew.proofs.result_plan.Answered.{made_room_lem}
use Rattle.anew.specs.runs.Runs.{ok_at, alike, those, edge}
use Rattle.coding.specs.run_coding.Rows.{change_in, last_in, last_rows}
use Rattle.coding.specs.run_coding.Writes.{Fits}
use Rattle.coding.specs.Counted.{all_counts}
use Rattle.coding.specs.Encode.{from_column, number, end_width, encode_own, plain_column, encode_keeps, encode_out, wide, rows_at, mask_at, bit_at, Codable, last_of, RoomFor, runs_in}
use Rattle.coding.proofs.Codes.{code_width_lem}
use Rattle.coding.proofs.Node.{node_held, valid_same, number_same, bytes_same}
use Rattle.coding.proofs.Walked.{encode_did}
use Rattle.coding.proofs.Accepted.{Passed, passed, Own, own_none, PlainIs, plain_is, DueIs, due_is, type_plain, due_width, range_is, node_inside, node_sum, column_source, root_in}

-- a run end of w bytes is below 2 ^ 63
low_half : (w : ℕ) → RunWidth w → half w ≤ 9223372036854775808
low_half w two = omega arith
low_half w four = omega arith
low_half w eight = omega arith

-- a room of this size holds n runs
roomy : (e w n : ℕ) (keep : Bool) → Fits w keep e 0 0 0 (length (replicate {A = ℕ} (n * e + n * w + n) 0)) n
roomy e w n keep =
    let z = length-replicate {A = ℕ} (n * e + n * w + n) 0 in
    record { of_ends = omega (arith, z); of_values = omega (arith, z); of_bits = λ q. omega (arith, z) }

module _ (formats schema lengths places buffers body : List ℕ) (first n target start end : ℕ) (low : first < 2 ^ 32) (small : (j : ℕ) → get_or body j 0 < 256) where
  abbrev x : Tables
  x = tables_of lengths places buffers body

  abbrev y : Tables
  y = tables lengths places body

  abbrev xs : Tables
  xs = tables_from y first

  module _ (g : column_ground formats schema x first n ≡ 0) (o : encode_own formats schema x first n target start end ≡ 0) where
    pub pass : Passed formats schema x first n
    pass = passed formats schema x first n g

    pub own : Own formats schema x first n target start end
    own = own_none formats schema x first n target start end o

    pub plain : PlainIs formats schema first 0
    plain = plain_is formats schema first 0 own.plain

    pub due : DueIs formats schema first target
    due = due_is formats schema first target own.due

    root : 0 < n
    root = root_in formats schema first n pass.of_type

    abbrev k : Number
    k = number formats schema first target

    abbrev v : Column (t_plain (fixed k))
    v = plain_column formats schema x first n target start end

    pub source : Source (t_plain (fixed k)) v
    source =
        subst (λ u. Source u (column_of (tree_of formats schema first n) (tables_from x first) u 0)) (type_plain formats schema first n plain)
        (column_source formats schema x first n pass)

    ranged : (start ≤ end) × (end ≤ length_of x first)
    ranged = range_is x first start end own.range

    pub within : start + (end - start) ≤ v.len
    within = let e : length_of (tables_from x first) 0 ≡ length_of x (first + 0) = length_from x first 0 in let z : first + 0 ≡ first = omega arith in
        let f : length_of x (first + 0) ≡ length_of x first = ap (length_of x) z in omega (arith, ranged.0, ranged.1, e, f)

    width_is : RunWidth (end_width formats schema first target)
    width_is = due_width formats schema first target due

    pub short : end - start < far
    short = omega (arith, own.short, low_half (end_width formats schema first target) width_is)

    -- ---- its nulls

    pub come : Comes y first 3 from_column
    come = comes formats schema x first n low g 3 from_column (few_nodes) few_from
      where
        few_nodes : n ≤ 32
        few_nodes = Rattle.schema.proofs.Known.within_nodes formats schema first n (within_low formats schema x first n pass.within)

        few_from : (i : ℕ) → i < 3 → get_or from_column i 0 ≤ n
        few_from zero l = omega arith
        few_from (suc zero) l = omega arith
        few_from (suc (suc zero)) l = root
        few_from (suc (suc (suc i))) l = absurd (omega arith)

    pub keep_is : encode_keeps formats schema x first n target start end 2 ≡ ltb 0 (null_count_of v)
    keep_is = keeps_typed x first from_column 2 0 refl (first_buffer (tables_from x first) 0)

    module _ (keep : Bool) (exact : keep ≡ encode_keeps formats schema x first n target start end 2) where
      abbrev w : ℕ
      w = wide formats schema y first start end

      exact_nulls : keep ≡ ltb 0 (null_count_of v)
      exact_nulls = exact ∙ keep_is

      low_body : length body < 2 ^ 63
      low_body = omega (arith, pass.low_body)

      sum : offset_of xs 0 + length_of xs 0 < 2 ^ 63
      sum = node_sum formats schema x first n pass 0 root plain

      inside : place xs 0 3 + place xs 0 4 ≤ length body
      inside = node_inside formats schema x first n pass 0 root plain

      -- THE ROWS STAND IN THE BODY
      pub codable : Codable formats schema y first start end keep
      codable =
          let h = node_held xs 0 (code_of formats schema first 0) plain.is_fixed_lem start (end - start) within sum source.mask source.slots inside low_body keep exact_nulls in
          record {
            in_order_lem = ranged.0;
            short = short;
            low = omega (arith, sum, within);
            place_low = omega (arith, h.holds, low_body);
            held = h;
          }

      abbrev ends_run_lem : ℕ → Bool
      ends_run_lem = last_in body w keep (rows_at formats schema y first start end) (mask_at formats schema y first start end) (bit_at formats schema y first start end) (end - start)

      valid : (r : ℕ) → r < end - start → Rattle.coding.specs.run_coding.Rows.valid_in body keep (mask_at formats schema y first start end) (bit_at formats schema y first start end) r ≡ ok_at v (start + r)
      valid r l = valid_same xs 0 (code_of formats schema first 0) plain.is_fixed_lem start (end - start) within sum source.mask source.slots inside low_body keep exact_nulls r l

      numbers : (r : ℕ) → r < end - start → Rattle.coding.specs.run_coding.Rows.number_in body w (rows_at formats schema y first start end) r ≡ Rattle.anew.specs.runs.Runs.bits_at k v (start + r)
      numbers r l = number_same xs 0 (code_of formats schema first 0) plain.is_fixed_lem start (end - start) within sum source.mask source.slots inside low_body keep exact_nulls r l

      edges : (r : ℕ) → r < end - start → ends_run_lem r ≡ edge k v start (end - start) r
      unfolding change_in
      edges r l = go (eqb (suc r) (end - start)) refl
        where
          go : (b : Bool) → eqb (suc r) (end - start) ≡ b
              → b || change_in body w keep (rows_at formats schema y first start end) (mask_at formats schema y first start end) (bit_at formats schema y first start end) r
              ≡ b || not (Rattle.anew.specs.runs.Runs.same_at k v (start + r) (start + suc r))
          go true e = refl
          go false e =
              let d = eqb-false (suc r) (end - start) e in
              let z : suc r < end - start = below_next r (end - start) l d in
              ap not (alike_same (valid r l) (valid (suc r) z) (numbers r l) (numbers (suc r) z))
            where
              below_next : (r m : ℕ) → r < m → (suc r ≡ m → ⊥) → suc r < m
              below_next r m l d = omega arith

              alike_same : {a b c d : Bool} {p q s t : ℕ} → a ≡ c → b ≡ d → p ≡ s → q ≡ t → alike a b (eqb p q) ≡ alike c d (eqb s t)
              alike_same e f g h = rw (e, f, g, h)

      abbrev runs : ℕ
      runs = length (last_of formats schema y first start end keep)

      module _ (plan parts : List ℕ) (room : List ℕ) (fits : RoomFor formats schema y first start end target plan parts keep (length room)) where
        did : Did plan parts true (encode_out formats schema x first n target start end) room 0 (all_counts (end - start) runs) (runs_in formats schema y first start end target plan parts keep room)
        did =
            subst (λ b. Did plan parts true (Rattle.coding.specs.run_walks.Encode.encode_walk k (end_width formats schema first target) v start (end - start) b (replicate 96 0)) room 0 (all_counts (end - start) runs) (runs_in formats schema y first start end target plan parts keep room)) exact
            (encode_did plan parts k (end_width formats schema first target) v start (end - start) keep body w (rows_at formats schema y first start end) (mask_at formats schema y first start end) (bit_at formats schema y first start end) (code_width_lem (code_of formats schema first 0) plain.is_fixed_lem)
            valid (λ r l. bytes_same xs 0 (code_of formats schema first 0) plain.is_fixed_lem start (end - start) within sum source.mask source.slots inside low_body keep exact_nulls r l small) edges room short fits)

        -- WHAT THE LOOP WRITES IS THE LOG'S
        pub room_is : runs_in formats schema y first start end target plan parts keep room ≡ apply plan parts (encode_out formats schema x first n target start end).log room
        room_is = made_room_lem plan parts (encode_out formats schema x first n target start end) room did

      -- a room in which any runs fit
      abbrev wide_room : List ℕ
      wide_room = replicate (runs * end_width formats schema first target + runs * w + runs) 0

      did_wide : Did [] [] true (encode_out formats schema x first n target start end) wide_room 0 (all_counts (end - start) runs) (runs_in formats schema y first start end target [] [] keep wide_room)
      did_wide =
          did [] [] wide_room (roomy (end_width formats schema first target) w runs keep)

      -- .. AND SO ARE THE COUNTERS, and its walk is done
      pub counters_are : all_counts (end - start) runs ≡ (encode_out formats schema x first n target start end).counters
      counters_are = did_wide.counters

      pub walk_done : 0 ≡ (encode_out formats schema x first n target start end).ans
      walk_done = did_wide.answer
