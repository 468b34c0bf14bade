-- The encoder on lent memory (02, W1): "an encoder from any fixed-width column to a run-end column". Assumes nothing.
use Rattle.std.specs.Prelude.{Bool, true, cond, ◌&&◌, List, [], ◌∷◌, ℕ, ◌+◌, ◌*◌, ◌-◌, ◌≤◌, ◌<◌, ◌^◌, length, replicate, ltb, eqb}
use Rattle.columnar.specs.Types.{Number, half, fixed, t_plain}
use Rattle.columnar.specs.Reading.{Column}
use Rattle.schema.specs.formats.Code.{is_fixed, is_run_end, width_of}
use Rattle.schema.specs.formats.Types.{number_of, number_or}
use Rattle.schema.specs.Tree.{dictionary, code_of, ceilings, typed}
use Rattle.array_data.specs.Tables.{Tables, offset_of, place}
use Rattle.array_data.specs.Typed.{column_of, tables_from}
use Rattle.array_data.specs.lent_tables.Lent.{tables}
use Rattle.array_data.specs.type_tree.Lent.{tree_of}
use Rattle.columns.specs.column_pair.Pair.{range_in}
use Rattle.walk.specs.Log.{Out, start_of}
use Rattle.refinement.specs.opening.Open.{Opening}
use Rattle.anew.specs.Anew.{Asking, asking, anew}
use Rattle.anew.specs.ResultPlan.{keeps_from, plan_anew}
use Rattle.coding.specs.run_walks.Encode.{encode_walk}
use Rattle.coding.specs.run_coding.Rows.{Held, last_rows}
use Rattle.coding.specs.run_coding.Writes.{Fits, runs_written}

-- "all but a fixed-width column": numbers without a dictionary
unfoldable pub plain_at : List ℕ → List ℕ → ℕ → ℕ → Bool
plain_at formats schema first i = is_fixed (code_of formats schema first i) && eqb (dictionary schema first i) 0

-- only the values come from the column
abbrev pub from_column : List ℕ
from_column = 0 ∷ 0 ∷ 1 ∷ []

module _ (formats schema : List ℕ) (first target : ℕ) where
  -- the number of the column's format
  abbrev pub number : Number
  number = number_or (number_of (code_of formats schema first 0))

  -- the bytes of a run end
  abbrev pub end_width : ℕ
  end_width = width_of (code_of formats schema target 1)

  -- the three nodes from node `target` on are a run-end type over the column's format
  unfoldable pub runs_over : Bool
  runs_over =
      ceilings formats schema target 3 && typed formats schema target 3 && is_run_end (code_of formats schema target 0) && plain_at formats schema target 2
      && eqb (code_of formats schema target 2) (code_of formats schema first 0)

module _ (formats schema : List ℕ) (x : Tables) (first n target start end : ℕ) where
  -- "It refuses with 10 all but a fixed-width column .., with 2 a range outside the column, with 7 a range too long for the run-end type": also
  -- 10 where the target is not the type that is due
  unfoldable pub encode_own : ℕ
  encode_own =
      cond (plain_at formats schema first 0 && runs_over formats schema first target)
      (cond (range_in x first start end) (cond (ltb (end - start) (half (end_width formats schema first target))) 0 7) 2)
      10

  -- the column as the Columnar Format has it
  abbrev pub plain_column : Column (t_plain (fixed (number formats schema first target)))
  plain_column = column_of (tree_of formats schema first n) (tables_from x first) (t_plain (fixed (number formats schema first target))) 0

  abbrev pub encode_keeps : ℕ → Bool
  encode_keeps = keeps_from (tables x.lengths x.places x.body) first from_column

  abbrev pub encode_plan : List ℕ
  encode_plan = plan_anew formats schema target 3 encode_keeps true 0

  abbrev pub encode_out : Out
  encode_out = encode_walk (number formats schema first target) (end_width formats schema first target) plain_column start (end - start) (encode_keeps 2) (replicate 96 0)

  -- THE QUESTION
  abbrev pub encode_asked : List ℕ → List ℕ → Asking
  encode_asked plan counters = asking formats schema x first n encode_own encode_plan encode_out plan counters

  -- THE CALL
  abbrev pub encoding : List ℕ → List ℕ → List ℕ → List ℕ → Opening
  encoding parts plan counters room = anew formats schema x first n encode_own encode_plan encode_out parts plan counters room

-- ---- as the rows stand in the body

module _ (formats schema : List ℕ) (x : Tables) (first start end : ℕ) where
  -- the bytes of a row, where the first one begins, and its validity bit
  abbrev pub wide : ℕ
  wide = width_of (code_of formats schema first 0)

  abbrev pub rows_at : ℕ
  rows_at = place (tables_from x first) 0 3 + (offset_of (tables_from x first) 0 + start) * wide

  abbrev pub mask_at : ℕ
  mask_at = place (tables_from x first) 0 1

  abbrev pub bit_at : ℕ
  bit_at = offset_of (tables_from x first) 0 + start

  -- the body holds them
  pub record Codable (keep : Bool) : Type 0 where
    pub in_order_lem : start ≤ end
    pub short : end - start < 2 ^ 63
    pub low : bit_at < 2 ^ 63
    pub place_low : rows_at < 2 ^ 64
    pub held : Held x.body wide keep rows_at mask_at bit_at (end - start)

  -- the last rows of the runs
  abbrev pub last_of : Bool → List ℕ
  last_of keep = last_rows x.body wide keep rows_at mask_at bit_at (end - start)

  module _ (target : ℕ) (plan parts : List ℕ) (keep : Bool) where
    -- the parts have room for the runs
    abbrev pub RoomFor : ℕ → Type 0
    RoomFor size = Fits wide keep (width_of (code_of formats schema target 1)) (start_of plan parts 1 1) (start_of plan parts 2 1) (start_of plan parts 2 0) size (length (last_of keep))

    -- the runs in their parts
    abbrev pub runs_in : List ℕ → List ℕ
    runs_in room =
        runs_written x.body wide keep rows_at mask_at bit_at (width_of (code_of formats schema target 1)) (start_of plan parts 1 1) (start_of plan parts 2 1) (start_of plan parts 2 0) 0 (last_of keep) room
