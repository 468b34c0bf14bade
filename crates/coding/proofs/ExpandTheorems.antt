-- W1: what an accepted expansion leaves, finished as a join is. Assumes nothing.
use mathlib.Core.Path.{◌≡◌, sym, ap, ap₂, subst, ◌∙◌}
use mathlib.Core.Bool.{false}
use mathlib.Core.List.{List}
use Prim.Native.Nat.{ℕ, ◌+◌, ◌-◌, ◌^◌, ◌≤◌, ◌<◌}
use lib.ListN.{length, get_or, replicate}
use lib.Dec.{ltb}
use Rattle.columnar.specs.Row.{Row, seg}
use Rattle.columnar.specs.Types.{Number, width, fixed, t_plain, t_run_end}
use Rattle.columnar.specs.Array.{null_count_of}
use Rattle.columnar.specs.Plain.{stored}
use Rattle.columnar.specs.Reading.{Column, read, read_all, Source}
use Rattle.array_data.specs.Tables.{Tables, place}
use Rattle.array_data.specs.Typed.{column_of, tables_from}
use Rattle.array_data.specs.type_tree.Lent.{tree_of}
use Rattle.source_rules.specs.kinds.Rows.{tables_of}
use Rattle.walk.specs.State.{keeps_of}
use Rattle.columns.specs.Grounds.{ceiling, column_ground}
use Rattle.refinement.specs.walk_is_model.Holds.{flag}
use Rattle.refinement.specs.log_in_room.Room.{AllBelow}
use Rattle.refinement.specs.orders.Order.{Lent}
use Rattle.refinement.specs.orders.Written.{OnlyUsed}
use Rattle.refinement.specs.finishing.Finish.{null_table}
use Rattle.refinement.specs.finishing.Shows.{finished_tables, Bodied}
use Rattle.refinement.specs.opening.Open.{Opening}
use Rattle.anew.proofs.Laws.{Accepted, anew_accepted}
use Rattle.anew.proofs.Result.{Filled, lent_for}
use Rattle.anew.proofs.Described.{described}
use Rattle.anew.specs.runs.Runs.{ok_at}
use Rattle.anew.specs.runs.Coding.{expanded}
use Rattle.anew.proofs.runs.Expand.{expand_rows, expand_zeros}
use Rattle.coding.proofs.run_walks.Fills.{expand_fills}
use Rattle.coding.specs.Expand.{value_number, run_width, expand_own, run_column, expand_keeps, expand_plan, expand_out, expanding}
use Rattle.coding.proofs.Node.{part_small}
use Rattle.coding.proofs.Expanded as x
use Rattle.coding.proofs.Runs as r
use Rattle.coding.proofs.Finished.{Finished, finish, lends, writes}

module _ (formats schema lengths places buffers body : List ℕ) (first n target start end : ℕ) (low : first < 2 ^ 32) (small : (j : ℕ) → get_or body j 0 < 256) (parts plan counters room : List ℕ)
    (room_bytes : AllBelow 256 room) (ok : (expanding formats schema (tables_of lengths places buffers body) first n target start end parts plan counters room).refusal ≡ 0) where
  abbrev tables : Tables
  tables = tables_of lengths places buffers body

  passed : Accepted formats schema tables first n (expand_own formats schema tables first n target start end) (expand_plan formats schema tables first n target start end) (expand_out formats schema tables first n target start end) parts plan counters room
  passed = anew_accepted formats schema tables first n _ _ _ parts plan counters room ok

  abbrev m : ℕ
  m = end - start

  abbrev k : Number
  k = value_number formats schema first target

  abbrev w : ℕ
  w = run_width formats schema first target

  -- THE COLUMN, as the Columnar Format has it
  abbrev v : Column (t_run_end w (t_plain (fixed k)))
  v = run_column formats schema tables first n target start end

  abbrev after : Opening
  after = expanding formats schema tables first n target start end parts plan counters room

  abbrev lent_to : Lent
  lent_to = lent_for tables (expand_plan formats schema tables first n target start end) parts first n

  source : Source (t_run_end w (t_plain (fixed k))) v
  source = x.source formats schema lengths places buffers body first n target start end low small passed.column_good passed.own_none

  within : start + m ≤ v.len
  within = x.within formats schema lengths places buffers body first n target start end low small passed.column_good passed.own_none

  filled : Filled lent_to buffers (t_plain (fixed k)) (expand_out formats schema tables first n target start end) (expanded k w v start m)
  filled =
      let p = r.planned_rows formats schema lengths places buffers body first n target start end low small passed.column_good passed.own_none in
      expand_fills k w v start m (expand_keeps formats schema tables first n target start end 0) (part_small body small (place (tables_from tables first) 2 3) (place (tables_from tables first) 2 4)) lent_to buffers source within
      (x.short formats schema lengths places buffers body first n target start end low small passed.column_good passed.own_none) p.keeps
      (x.keep_is formats schema lengths places buffers body first n target start end low small passed.column_good passed.own_none) p.values_part p.bits_there

  -- AN ACCEPTED EXPANSION, finished, is the expanded column byte for byte, and can be lent again
  pub expand_finished : (base : ℕ) (whole : List ℕ) → Bodied whole lent_to after.room base
      → Finished (tree_of formats schema target 1) (finished_tables lent_to buffers after.counters after.room base whole) (null_table lent_to buffers after.counters after.room base) (t_plain (fixed k)) (expanded k w v start m)
  expand_finished base whole bodied =
      let d = x.own formats schema lengths places buffers body first n target start end low small passed.column_good passed.own_none in
      finish formats schema tables first n (expand_own formats schema tables first n target start end) target 1 (expand_keeps formats schema tables first n target start end) (expand_out formats schema tables first n target start end) parts plan counters room d.of_type d.low
      (r.no_ends_lem formats schema lengths places buffers body first n target start end low small passed.column_good passed.own_none) room_bytes ok (t_plain (fixed k)) (x.type_is_lem formats schema lengths places buffers body first n target start end low small passed.column_good passed.own_none)
      (expanded k w v start m) filled base whole bodied

  -- LENT AGAIN with the same schema, in tables that hold the finished ones from the target's node on, IT IS ACCEPTED: none of 9, 10 and 12 stands
  pub expand_lent : (base : ℕ) (whole : List ℕ) → Bodied whole lent_to after.room base → length whole ≤ ceiling → (z : Tables)
      → tables_from z target ≡ finished_tables lent_to buffers after.counters after.room base whole → column_ground formats schema z target 1 ≡ 0
  expand_lent base whole bodied =
      let d = x.own formats schema lengths places buffers body first n target start end low small passed.column_good passed.own_none in
      lends formats schema tables first n (expand_own formats schema tables first n target start end) target 1 (expand_keeps formats schema tables first n target start end) (expand_out formats schema tables first n target start end) parts plan counters room d.of_type d.low
      (r.no_ends_lem formats schema lengths places buffers body first n target start end low small passed.column_good passed.own_none) room_bytes ok (t_plain (fixed k)) (x.type_is_lem formats schema lengths places buffers body first n target start end low small passed.column_good passed.own_none)
      (expanded k w v start m) filled base whole bodied

  -- "a node keeping nulls exactly where the node it comes from has one"
  pub expand_keeps_lem : keeps_of (expand_plan formats schema tables first n target start end) 0 ≡ flag (ltb 0 (null_count_of v.body.values))
  expand_keeps_lem =
      (r.planned_rows formats schema lengths places buffers body first n target start end low small passed.column_good passed.own_none).keeps
      ∙ ap flag (x.keep_is formats schema lengths places buffers body first n target start end low small passed.column_good passed.own_none)

  -- ITS ROWS are the column's rows start .. end - 1
  pub expand_reads : (base : ℕ) (whole : List ℕ) → Bodied whole lent_to after.room base
      → read_all (t_plain (fixed k)) (column_of (tree_of formats schema target 1) (finished_tables lent_to buffers after.counters after.room base whole) (t_plain (fixed k)) 0) ≡ seg (read (t_run_end w (t_plain (fixed k))) v) start m
  expand_reads base whole bodied = (expand_finished base whole bodied).reads ∙ expand_rows k w v source start m within

  -- "AFTER THE ENCODER THOSE IT STARTED FROM": of a column that reads as some rows, all of it expanded reads as them
  pub expand_back : {rows : List Row} → read_all (t_run_end w (t_plain (fixed k))) v ≡ rows → start ≡ 0 → m ≡ v.len → (base : ℕ) (whole : List ℕ) → Bodied whole lent_to after.room base
      → read_all (t_plain (fixed k)) (column_of (tree_of formats schema target 1) (finished_tables lent_to buffers after.counters after.room base whole) (t_plain (fixed k)) 0) ≡ rows
  expand_back same from_zero all base whole bodied =
      expand_reads base whole bodied ∙ ap₂ (λ a n. seg (read (t_run_end w (t_plain (fixed k))) v) a n) from_zero all ∙ same

  -- "NULL SLOTS AS ZEROS"
  pub expand_nulls : (j : ℕ) → j < m → ok_at (expanded k w v start m) j ≡ false → stored (fixed k) (expanded k w v start m).body j ≡ replicate (width k) 0
  expand_nulls j l h = expand_zeros k w v source start m within j l h

  -- ---- of the finished tables

  module _ (base : ℕ) (whole : List ℕ) (bodied : Bodied whole lent_to after.room base) where
    abbrev pub described_rows : Column (t_plain (fixed k))
    described_rows = column_of (tree_of formats schema target 1) (finished_tables lent_to buffers after.counters after.room base whole) (t_plain (fixed k)) 0

    -- THE COLUMN THAT THEY DESCRIBE IS THE EXPANDED ONE
    pub expand_is : described_rows ≡ expanded k w v start m
    expand_is =
        described (tree_of formats schema target 1) (finished_tables lent_to buffers after.counters after.room base whole) (t_plain (fixed k)) 0 (expanded k w v start m) tt (expand_finished base whole bodied).shows

    -- a slot whose bit is 0 is zeros
    pub null_rows : (j : ℕ) → j < m → ok_at described_rows j ≡ false → stored (fixed k) described_rows.body j ≡ replicate (width k) 0
    null_rows =
        subst (λ (c : Column (t_plain (fixed k))). (j : ℕ) → j < m → ok_at c j ≡ false → stored (fixed k) c.body j ≡ replicate (width k) 0) (sym expand_is) expand_nulls

  -- ONLY BYTES OF THE PARTS ARE WRITTEN, up to what each needs
  pub expand_writes : OnlyUsed (expand_plan formats schema tables first n target start end) parts room after.counters after.room
  expand_writes =
      let d = x.own formats schema lengths places buffers body first n target start end low small passed.column_good passed.own_none in
      writes formats schema tables first n (expand_own formats schema tables first n target start end) target 1 (expand_keeps formats schema tables first n target start end) (expand_out formats schema tables first n target start end) parts plan counters room d.of_type d.low
      (r.no_ends_lem formats schema lengths places buffers body first n target start end low small passed.column_good passed.own_none) room_bytes ok (t_plain (fixed k)) (x.type_is_lem formats schema lengths places buffers body first n target start end low small passed.column_good passed.own_none)
      (expanded k w v start m) filled
