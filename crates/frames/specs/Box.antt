-- The box around rows of two lent columns (02, W11): the frame of the rows that the Columnar Format reads of them, or the ground. Assumes nothing.
use Rattle.std.specs.Prelude.{Bool, cond, Result, Ok, Err, ◌&&◌, List, ℕ, ◌-◌, eqb}
use Rattle.std.proofs.Math.Option.{Option, none, some}
use Rattle.columnar.specs.Row.{Row, seg}
use Rattle.columnar.specs.Reading.{read}
use Rattle.array_data.specs.Tables.{Tables}
use Rattle.array_data.specs.Typed.{column_of, tables_from}
use Rattle.array_data.specs.type_tree.Lent.{tree_of, type_of}
use Rattle.columns.specs.Grounds.{column_ground}
use Rattle.columns.specs.column_pair.Pair.{pair_ground, plain_code, range_in}
use Rattle.frames.specs.declared.Frame.{Frame}
use Rattle.frames.specs.Frames.{Stop, framed}

-- the number of each answer; 0 where it is a frame
abbrev pub ground_of : Result Frame ℕ → ℕ
ground_of (Ok f) = 0
ground_of (Err g) = g

-- "with 17 a range without a counted row"
abbrev pub found : Option Frame → Result Frame ℕ
found none = Err 17
found (some f) = Ok f

-- "both `g`": one node of that format
abbrev pub is_double : List ℕ → List ℕ → ℕ → ℕ → Bool
is_double formats schema first n = eqb (plain_code formats schema first n) 10

module _ (formats schema : List ℕ) (x : Tables) where
  -- row i of the column of n nodes that begins at node `first`
  abbrev pub row_at : ℕ → ℕ → ℕ → Row
  row_at first n i = read (type_of formats schema first n) (column_of (tree_of formats schema first n) (tables_from x first) (type_of formats schema first n) 0) i

  -- a latitude column of n nodes that begins at node a, a longitude column of m nodes that begins at node b
  module _ (a n b m : ℕ) where
    abbrev pub stop_at : ℕ → Stop
    stop_at i = record { latitude = row_at a n i; longitude = row_at b m i }

    -- the rows start .. end - 1
    abbrev pub stops : ℕ → ℕ → List Stop
    stops start end = seg stop_at start (end - start)

    abbrev pub both_ground : ℕ
    both_ground = pair_ground (column_ground formats schema x a n) (column_ground formats schema x b m)

    -- THE BOX: 9, 10 and 12 of malformed columns, then 2, 10 and 17, each asked of both columns before the next
    unfoldable pub box_of : ℕ → ℕ → Result Frame ℕ
    box_of start end =
        cond (eqb both_ground 0)
        (cond (range_in x a start end && range_in x b start end)
        (cond (is_double formats schema a n && is_double formats schema b m) (found (framed (stops start end))) (Err 10))
        (Err 2))
        (Err both_ground)
