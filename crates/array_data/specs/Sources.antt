-- The sources of a join: two numbers a source, its first node and how many nodes it has (docs/FORMAT.md). Assumes nothing.
use Rattle.std.specs.Prelude.{List, ℕ, ◌+◌, ◌*◌, ◌/◌, length, get_or}

abbrev pub source_count : List ℕ → ℕ
source_count sources = length sources / 2

abbrev pub first_of : List ℕ → ℕ → ℕ
first_of sources s = get_or sources (2 * s) 0

abbrev pub nodes_of : List ℕ → ℕ → ℕ
nodes_of sources s = get_or sources (2 * s + 1) 0
