-- Where the run ends of a column stand. Assumes nothing.
use Rattle.std.specs.Prelude.{ℕ, ◌+◌, ◌*◌}
use Rattle.array_data.specs.Tables.{Tables, length_of, offset_of, place}
use Rattle.aggregates.specs.declared.stretches.Ends.{Ends}

-- the run ends of w bytes are the first buffer of the column's second node
abbrev pub ends_of : Tables → ℕ → Ends
ends_of x w =
    record {
      start = place x 1 3 + w * offset_of x 1;
      stop = place x 1 3 + w * (offset_of x 1 + length_of x 1);
      width = w;
      offset = offset_of x 0;
      len = length_of x 0;
    }
