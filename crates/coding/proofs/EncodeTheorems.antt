-- W1: what an accepted encoding leaves, finished as a join is. Assumes nothing.
use mathlib.Core.Path.{◌≡◌, sym, ap, subst, ◌∙◌}
use mathlib.Core.Bool.{false}
use mathlib.Core.List.{List}
use Prim.Native.Nat.{ℕ, ◌+◌, ◌-◌, ◌^◌, ◌≤◌, ◌<◌}
use lib.ListN.{length, get_or, replicate}
use lib.Dec.{ltb}
use Rattle.columnar.specs.Row.{seg}
use Rattle.columnar.specs.Types.{Number, width, half, fixed, Ty, t_plain, t_run_end}
use Rattle.columnar.specs.Array.{null_count_of}
use Rattle.columnar.specs.Plain.{stored}
use Rattle.columnar.specs.Reading.{Column, read, read_all, Source}
use Rattle.array_data.specs.Tables.{Tables, length_of, place}
use Rattle.array_data.specs.Typed.{column_of, tables_from}
use Rattle.array_data.specs.type_tree.Lent.{tree_of}
use Rattle.source_rules.specs.kinds.Rows.{tables_of}
use Rattle.walk.specs.State.{keeps_of}
use Rattle.columns.specs.Grounds.{ceiling, column_ground}
use Rattle.refinement.specs.walk_is_model.Holds.{flag}
use Rattle.refinement.specs.log_in_room.Room.{AllBelow}
use Rattle.refinement.specs.orders.Order.{Lent}
use Rattle.refinement.specs.orders.Written.{OnlyUsed}
use Rattle.refinement.specs.finishing.Finish.{null_table}
use Rattle.refinement.specs.finishing.Shows.{finished_tables, Bodied}
use Rattle.refinement.specs.opening.Open.{Opening}
use Rattle.anew.proofs.Laws.{Accepted, anew_accepted}
use Rattle.anew.proofs.Result.{Filled, lent_for}
use Rattle.anew.proofs.Described.{described}
use Rattle.anew.specs.runs.Runs.{ok_at, run_rows}
use Rattle.anew.specs.runs.Coding.{encoded}
use Rattle.anew.proofs.runs.Encode.{encode_rows, encode_zeros}
use Rattle.anew.proofs.runs.Fewest.{fewest}
use Rattle.coding.proofs.run_walks.Fills.{encode_fills}
use Rattle.coding.specs.Encode.{number, end_width, encode_own, plain_column, encode_keeps, encode_plan, encode_out, encoding}
use Rattle.coding.proofs.Node.{part_small}
use Rattle.coding.proofs.Encoded as e
use Rattle.coding.proofs.Fitted as f
use Rattle.coding.proofs.Finished.{Finished, finish, lends, writes}

module _ (formats schema lengths places buffers body : List ℕ) (first n target start end : ℕ) (low : first < 2 ^ 32) (small : (j : ℕ) → get_or body j 0 < 256) (parts plan counters room : List ℕ)
    (room_bytes : AllBelow 256 room) (ok : (encoding formats schema (tables_of lengths places buffers body) first n target start end parts plan counters room).refusal ≡ 0) where
  abbrev tables : Tables
  tables = tables_of lengths places buffers body

  passed : Accepted formats schema tables first n (encode_own formats schema tables first n target start end) (encode_plan formats schema tables first n target start end) (encode_out formats schema tables first n target start end) parts plan counters room
  passed = anew_accepted formats schema tables first n _ _ _ parts plan counters room ok

  abbrev m : ℕ
  m = end - start

  abbrev k : Number
  k = number formats schema first target

  abbrev w : ℕ
  w = end_width formats schema first target

  -- THE COLUMN, as the Columnar Format has it
  abbrev v : Column (t_plain (fixed k))
  v = plain_column formats schema tables first n target start end

  abbrev after : Opening
  after = encoding formats schema tables first n target start end parts plan counters room

  abbrev lent_to : Lent
  lent_to = lent_for tables (encode_plan formats schema tables first n target start end) parts first n

  source : Source (t_plain (fixed k)) v
  source = e.source formats schema lengths places buffers body first n target start end low small passed.column_good passed.own_none

  within : start + m ≤ v.len
  within = e.within formats schema lengths places buffers body first n target start end low small passed.column_good passed.own_none

  fits : m < half w
  fits = (e.own formats schema lengths places buffers body first n target start end low small passed.column_good passed.own_none).short

  filled : Filled lent_to buffers (t_run_end w (t_plain (fixed k))) (encode_out formats schema tables first n target start end) (encoded k w v start m)
  filled =
      let p = f.planned_runs formats schema lengths places buffers body first n target start end low small passed.column_good passed.own_none in
      encode_fills k w v start m (encode_keeps formats schema tables first n target start end 2) (part_small body small (place (tables_from tables first) 0 3) (place (tables_from tables first) 0 4)) lent_to buffers source within fits
      (e.short formats schema lengths places buffers body first n target start end low small passed.column_good passed.own_none) p.root_keeps p.ends_keep p.values_keep
      (e.keep_is formats schema lengths places buffers body first n target start end low small passed.column_good passed.own_none) p.ends_part p.values_part p.bits_there

  -- AN ACCEPTED ENCODING, finished, is the encoded column byte for byte, and can be lent again
  pub encode_finished : (base : ℕ) (whole : List ℕ) → Bodied whole lent_to after.room base
      → Finished (tree_of formats schema target 3) (finished_tables lent_to buffers after.counters after.room base whole) (null_table lent_to buffers after.counters after.room base) (t_run_end w (t_plain (fixed k))) (encoded k w v start m)
  encode_finished base whole bodied =
      let d = e.due formats schema lengths places buffers body first n target start end low small passed.column_good passed.own_none in
      finish formats schema tables first n (encode_own formats schema tables first n target start end) target 3 (encode_keeps formats schema tables first n target start end) (encode_out formats schema tables first n target start end) parts plan counters room d.of_type d.low
      (f.no_ends_lem formats schema lengths places buffers body first n target start end low small passed.column_good passed.own_none) room_bytes ok (t_run_end w (t_plain (fixed k))) (f.type_is_lem formats schema lengths places buffers body first n target start end low small passed.column_good passed.own_none)
      (encoded k w v start m) filled base whole bodied

  -- LENT AGAIN with the same schema, in tables that hold the finished ones from the target's node on, IT IS ACCEPTED: none of 9, 10 and 12 stands
  pub encode_lent : (base : ℕ) (whole : List ℕ) → Bodied whole lent_to after.room base → length whole ≤ ceiling → (z : Tables)
      → tables_from z target ≡ finished_tables lent_to buffers after.counters after.room base whole → column_ground formats schema z target 3 ≡ 0
  encode_lent base whole bodied =
      let d = e.due formats schema lengths places buffers body first n target start end low small passed.column_good passed.own_none in
      lends formats schema tables first n (encode_own formats schema tables first n target start end) target 3 (encode_keeps formats schema tables first n target start end) (encode_out formats schema tables first n target start end) parts plan counters room d.of_type d.low
      (f.no_ends_lem formats schema lengths places buffers body first n target start end low small passed.column_good passed.own_none) room_bytes ok (t_run_end w (t_plain (fixed k))) (f.type_is_lem formats schema lengths places buffers body first n target start end low small passed.column_good passed.own_none)
      (encoded k w v start m) filled base whole bodied

  -- "a node keeping nulls exactly where the node it comes from has one"
  pub encode_keeps_lem :
      (keeps_of (encode_plan formats schema tables first n target start end) 0 ≡ 0) × (keeps_of (encode_plan formats schema tables first n target start end) 1 ≡ 0)
      × (keeps_of (encode_plan formats schema tables first n target start end) 2 ≡ flag (ltb 0 (null_count_of v)))
  encode_keeps_lem =
      let p = f.planned_runs formats schema lengths places buffers body first n target start end low small passed.column_good passed.own_none in
      (p.root_keeps, p.ends_keep, p.values_keep ∙ ap flag (e.keep_is formats schema lengths places buffers body first n target start end low small passed.column_good passed.own_none))

  -- ITS ROWS are the column's rows start .. end - 1
  pub encode_reads : (base : ℕ) (whole : List ℕ) → Bodied whole lent_to after.room base
      → read_all (t_run_end w (t_plain (fixed k))) (column_of (tree_of formats schema target 3) (finished_tables lent_to buffers after.counters after.room base whole) (t_run_end w (t_plain (fixed k))) 0) ≡ seg (read (t_plain (fixed k)) v) start m
  encode_reads base whole bodied = (encode_finished base whole bodied).reads ∙ encode_rows k v start m w fits source within

  -- "THE FEWEST RUNS that read as the same rows"
  pub encode_fewest : (u : ℕ) (t : Ty) (y : Column (t_run_end u t)) → Source (t_run_end u t) y → read_all (t_run_end u t) y ≡ seg (read (t_plain (fixed k)) v) start m → (encoded k w v start m).body.ends.len ≤ y.body.ends.len
  encode_fewest u t y = fewest k v (part_small body small (place (tables_from tables first) 0 3) (place (tables_from tables first) 0 4)) start m w u t y

  -- "NULL SLOTS AS ZEROS"
  pub encode_nulls : (j : ℕ) → j < length (run_rows k v start m) → ok_at (encoded k w v start m).body.values j ≡ false → stored (fixed k) (encoded k w v start m).body.values.body j ≡ replicate (width k) 0
  encode_nulls j l h = encode_zeros k v start m source within w j l h

  -- ---- of the finished tables

  module _ (base : ℕ) (whole : List ℕ) (bodied : Bodied whole lent_to after.room base) where
    abbrev pub encoded_tables : Tables
    encoded_tables = finished_tables lent_to buffers after.counters after.room base whole

    abbrev pub described_runs : Column (t_run_end w (t_plain (fixed k)))
    described_runs = column_of (tree_of formats schema target 3) encoded_tables (t_run_end w (t_plain (fixed k))) 0

    -- THE COLUMN THAT THEY DESCRIBE IS THE ENCODED ONE
    pub encode_is : described_runs ≡ encoded k w v start m
    encode_is = described (tree_of formats schema target 3) encoded_tables (t_run_end w (t_plain (fixed k))) 0 (encoded k w v start m) tt (encode_finished base whole bodied).shows

    -- no run-end column that reads as these rows has fewer runs than they have
    pub fewest_runs : (u : ℕ) (t : Ty) (y : Column (t_run_end u t)) → Source (t_run_end u t) y → read_all (t_run_end u t) y ≡ seg (read (t_plain (fixed k)) v) start m → length_of encoded_tables 1 ≤ y.body.ends.len
    fewest_runs u t y s r = subst (λ (c : Column (t_run_end w (t_plain (fixed k)))). c.body.ends.len ≤ y.body.ends.len) (sym encode_is) (encode_fewest u t y s r)

    -- a slot of their values whose bit is 0 is zeros
    pub null_runs_lem : (j : ℕ) → j < described_runs.body.values.len → ok_at described_runs.body.values j ≡ false → stored (fixed k) described_runs.body.values.body j ≡ replicate (width k) 0
    null_runs_lem =
        subst (λ (c : Column (t_run_end w (t_plain (fixed k)))). (j : ℕ) → j < c.body.values.len → ok_at c.body.values j ≡ false → stored (fixed k) c.body.values.body j ≡ replicate (width k) 0)
        (sym encode_is) encode_nulls

  -- ONLY BYTES OF THE PARTS ARE WRITTEN, up to what each needs
  pub encode_writes : OnlyUsed (encode_plan formats schema tables first n target start end) parts room after.counters after.room
  encode_writes =
      let d = e.due formats schema lengths places buffers body first n target start end low small passed.column_good passed.own_none in
      writes formats schema tables first n (encode_own formats schema tables first n target start end) target 3 (encode_keeps formats schema tables first n target start end) (encode_out formats schema tables first n target start end) parts plan counters room d.of_type d.low
      (f.no_ends_lem formats schema lengths places buffers body first n target start end low small passed.column_good passed.own_none) room_bytes ok (t_run_end w (t_plain (fixed k))) (f.type_is_lem formats schema lengths places buffers body first n target start end low small passed.column_good passed.own_none)
      (encoded k w v start m) filled
