-- Node i of each source, and the dictionary whose values stand there (docs/FORMAT.md): all that the tests of an opening look at. Assumes nothing.
use Rattle.std.specs.Prelude.{◌≡◌, Bool, true, false, cond, List, [], ◌∷◌, ℕ, ◌-◌, ◌^◌, min, ◌<◌}
use Rattle.columnar.specs.Types.{Plain, fixed, string}
use Rattle.columnar.specs.Array.{Array}
use Rattle.columnar.specs.Dictionary.{Dictionary}
use Rattle.array_data.specs.Tables.{Tables, place, array_with}
use Rattle.array_data.specs.Sources.{first_of}
use Rattle.array_data.specs.Typed.{tables_from, valid_start}
use Rattle.array_data.specs.lent_tables.Lent.{mask_of}

-- node k, without its buffers and children
abbrev pub array_of : Tables → ℕ → Array (Unit {0})
array_of x k = array_with x tt k

-- node i of source s
abbrev pub array_at : Tables → List ℕ → ℕ → ℕ → Array (Unit {0})
array_at x sources i s = array_of (tables_from x (first_of sources s)) i

-- whether the values of a dictionary are byte strings
abbrev pub of_strings : Plain → Bool
of_strings (fixed n) = false
of_strings (string w) = true

-- where the values of a dictionary begin: byte strings (true) have two buffers, numbers one
abbrev pub starts_of : Tables → Bool → ℕ → List ℕ
starts_of x strings k = valid_start x k ∷ place x k 3 ∷ cond strings (place x k 5 ∷ []) []

-- the dictionary whose values are node k
abbrev pub dict_with : Tables → Bool → ℕ → Dictionary (Unit {0})
dict_with x strings k = record { keys = []; values = array_of x k; starts = starts_of x strings k }

-- the dictionary of source s whose values are node i of it
abbrev pub dict_at : Tables → List ℕ → Bool → ℕ → ℕ → Dictionary (Unit {0})
dict_at x sources strings i s = dict_with (tables_from x (first_of sources s)) strings i

-- the nulls of node k can be counted: it is a node number, and its validity has a bit for each slot
pub record Countable (x : Tables) (k : ℕ) : Type 0 where
  pub small : k < 2 ^ 33
  pub bits : mask_of x k true ≡ true

-- a number, or the largest of 64 bits where it is above that
abbrev pub capped : ℕ → ℕ
capped n = min n (2 ^ 64 - 1)
