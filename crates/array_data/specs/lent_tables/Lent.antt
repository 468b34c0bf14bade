-- Lent slices as the tables of `array_data`, and what is asked of a node's counts. Assumes nothing.
use Rattle.std.specs.Prelude.{Bool, List, [], ℕ, ◌+◌, ◌<◌, ◌^◌}
use Rattle.columnar.specs.Test.{mask_test}
use Rattle.array_data.specs.Tables.{Tables, length_of, offset_of, valid_of}

-- the tables without the data buffers of views, which the rules here do not read
abbrev pub tables : List ℕ → List ℕ → List ℕ → Tables
tables lengths places body = record { lengths = lengths; places = places; buffers = []; body = body }

-- a node number, with a length and an offset that ground 9 lets through: "their sum at most 2^63−1"
pub record Counted (x : Tables) (k : ℕ) : Type 0 where
  pub small : k < 2 ^ 33
  pub sum : offset_of x k + length_of x k < 2 ^ 63

-- the test of a node's validity
abbrev pub mask_of : Tables → ℕ → Bool → Bool
mask_of x k may = mask_test may (valid_of x k) (offset_of x k + length_of x k)
