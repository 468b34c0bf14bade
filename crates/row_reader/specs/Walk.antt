-- A row of a lent column, level by level: 01, "A row is read from the top of the tree downward, at most eight levels." A node's row i is
-- the slot with its offset added. Ground 12 where the body does not hold what is read. Assumes nothing.
use Rattle.std.specs.Prelude.{Bool, true, false, cond, ◌&&◌, List, [], ◌∷◌, ℕ, zero, suc, ◌+◌, ◌*◌, ◌-◌, ◌^◌, min, length, take, drop, leb, ltb, eqb, Option, Some, None, Result, Ok, Err}
use Rattle.schema.specs.formats.Code.{is_run_end, width_of}
use Rattle.array_data.specs.Tables.{Tables, length_of, offset_of, valid_of, first_buffer, second_buffer}
use Rattle.array_data.specs.NodeKinds.{NodeKind, fixed_node, string_node, view_node, list_view_node, list_node, sparse_node, dense_node, run_end_node, dictionary_node}
use Rattle.run_ends.specs.declared.RunRow.{RunRow}
use Rattle.slot_reader.specs.run.Rows.{row_run}
use Rattle.array_data.specs.node_words.Words.{word}
use Rattle.array_data.specs.entries.Entries.{entry_in, valid_in}
use Rattle.array_data.specs.declared.entries.Validity.{Validity}
use Rattle.array_data.specs.declared.entries.Validity.TheVariants as validity
use Rattle.slot_reader.specs.declared.RowRead.{RowRead}
use Rattle.slot_reader.specs.declared.RowRead.TheVariants as row
use Rattle.slot_reader.specs.Slots.{code_word, known, kind_word, slot_by}
use Rattle.row_reader.specs.declared.Step.{Step}
use Rattle.row_reader.specs.declared.Step.TheVariants as step
use Rattle.std.specs.Prelude.{Some, None, Option}

-- nothing to go on to: a ground of refusal
abbrev pub refused : ℕ → Step
refused refusal = step.Done (row.Refused refusal)

-- ---- unions

module _ (tree : List ℕ) where
  -- where node i's subtree ends; a tree has 32 nodes
  unfoldable pub end_word : ℕ → ℕ
  end_word i = min (word tree i 2) 32

  -- the first of the f nodes one behind the other from node i on that has this id, before `end`
  unfoldable pub child_from : ℕ → ℕ → ℕ → ℕ → Option ℕ
  child_from id end zero i = None
  child_from id end (suc f) i =
      cond (ltb i end) (cond (eqb (word tree i 3) id) (Some i) (child_from id end f (word tree i 2))) None

  -- the child of node i that has this id: "at most 16 union fields"
  abbrev pub child_of : ℕ → ℕ → Option ℕ
  child_of i id = child_from id (end_word i) 16 (suc i)

  abbrev pub chosen : ℕ → ℕ → Option ℕ → Step
  chosen id r (Some j) = step.Choose id j r
  chosen id r None = refused 12

  -- on to row r of the child with this id: "ids 0 to 127"
  unfoldable pub into : ℕ → ℕ → ℕ → Step
  into i id r = cond (leb id 127) (chosen id r (child_of i id)) (refused 12)

  -- .. where both are held
  abbrev pub under_id : ℕ → Option ℕ → Option ℕ → Step
  under_id i (Some id) (Some r) = into i id r
  under_id i (Some id) None = refused 12
  under_id i None r = refused 12

  -- the bytes of node i's numbers
  abbrev pub code_width : ℕ → ℕ
  code_width i = width_of (code_word tree i)

-- ---- run ends

-- the len run ends of w bytes from entry `off` of the buffer s on
abbrev pub ends_in : ℕ → List ℕ → ℕ → ℕ → List ℕ
ends_in w s off len = take (len * w) (drop (off * w) s)

-- the run of row r of a column of `rows` rows at `offset`, as the run reader answers it; ground 12 where the buffer does not hold the run ends
unfoldable pub run_in : ℕ → List ℕ → ℕ → ℕ → ℕ → ℕ → ℕ → Result RunRow ℕ
run_in w s off len offset rows r =
    cond (ltb (off + len) (2 ^ 64) && leb ((off + len) * w) (length s)) (row_run (ends_in w s off len) offset rows w r) (Err 12)

-- "a run-end row [is] the value of the first run whose end is above offset + row"
abbrev pub ran : ℕ → Result RunRow ℕ → Step
ran i (Ok r) = step.Go (suc (suc i)) r.run.0
ran i (Err refusal) = refused 12

module _ (x : Tables) where
  -- the run of row r of node i: its run ends are the next node, with their own offset
  abbrev pub run_of : ℕ → ℕ → ℕ → Result RunRow ℕ
  run_of i w r = run_in w (first_buffer x (suc i)) (offset_of x (suc i)) (length_of x (suc i)) (offset_of x i) (length_of x i) r

  -- slot k of node i: the run reader adds the offset itself
  abbrev pub runs_step : ℕ → ℕ → ℕ → Step
  runs_step i w k = ran i (run_of i w (k - offset_of x i))

-- THE RUN OF ROW r of an opened run-end column, and the rows left in it; any other column is 10
unfoldable pub run_at : List ℕ → Tables → ℕ → Result RunRow ℕ
run_at tree x r = cond (is_run_end (code_word tree 0)) (run_of x 0 (code_width tree 1) r) (Err 10)

-- ---- one level

module _ (tree : List ℕ) (x : Tables) where
  -- slot k of node i
  abbrev pub step_by : NodeKind → ℕ → ℕ → Step
  step_by (fixed_node m) i k = step.Done (slot_by tree x (fixed_node m) i k)
  step_by (string_node w) i k = step.Done (slot_by tree x (string_node w) i k)
  step_by view_node i k = step.Done (slot_by tree x view_node i k)
  step_by (list_view_node w) i k = step.Done (slot_by tree x (list_view_node w) i k)
  step_by (list_node w) i k = step.Done (slot_by tree x (list_node w) i k)
  step_by (sparse_node ids) i k = under_id tree i (entry_in 1 (first_buffer x i) k) (Some k)
  step_by (dense_node ids) i k = under_id tree i (entry_in 1 (first_buffer x i) k) (entry_in 4 (second_buffer x i) k)
  step_by (run_end_node w) i k = runs_step x i w k
  step_by (dictionary_node m) i k = step.Done (slot_by tree x (dictionary_node m) i k)

  abbrev pub step_on : ℕ → ℕ → Step
  step_on i k = cond (known tree i) (step_by (kind_word tree i) i k) (refused 10)

  abbrev pub sighted : Validity → Step → Step
  sighted validity.Valid s = s
  sighted validity.Null s = step.Done row.Null
  sighted validity.Outside s = refused 12

  -- row r of node i: its offset is added here, and nowhere else
  unfoldable pub step_at : ℕ → ℕ → Step
  step_at i r =
      cond (ltb i 32)
      (cond (ltb (offset_of x i + r) (2 ^ 64)) (sighted (valid_in (valid_of x i) (offset_of x i + r)) (step_on i (offset_of x i + r))) (refused 12))
      (refused 9)

-- ---- the whole row

-- what a row reads as, and the ids of the unions on the way to it
pub record Walked : Type 0 where
  pub read : RowRead
  pub ids : List ℕ

abbrev pub walked_to : RowRead → Walked
walked_to r = record { read = r; ids = [] }

abbrev pub under : ℕ → Walked → Walked
under id w = record { read = w.read; ids = id ∷ w.ids }

abbrev pub follow : (ℕ → ℕ → Walked) → Step → Walked
follow f (step.Done r) = walked_to r
follow f (step.Go i r) = f i r
follow f (step.Choose id i r) = under id (f i r)

module _ (tree : List ℕ) (x : Tables) where
  -- row r of node i, at most f levels down
  unfoldable pub walk : ℕ → ℕ → ℕ → Walked
  walk zero i r = walked_to (row.Refused 9)
  walk (suc f) i r = follow (walk f) (step_at tree x i r)

-- "A refusal is the number alone."
abbrev pub is_refused : RowRead → Bool
is_refused row.Null = false
is_refused (row.Number l) = false
is_refused (row.Bytes at len) = false
is_refused (row.List i a n) = false
is_refused (row.Refused g) = true

abbrev pub kept : Walked → Walked
kept w = cond (is_refused w.read) (walked_to w.read) w

-- ROW r OF THE COLUMN: "Reading a row not below the length is ground 2."
unfoldable pub row_at : List ℕ → Tables → ℕ → Walked
row_at tree x r = cond (ltb r (length_of x 0)) (kept (walk tree x 8 0 r)) (walked_to (row.Refused 2))
