-- A plan that has the words of a type tree, and what an order is carried out with. Assumes nothing.
use Rattle.std.specs.Prelude.{◌≡◌, List, ℕ, ◌<◌}
use Rattle.array_data.specs.Tables.{Tables}
use Rattle.array_data.specs.node_words.Words.{word_of}
use Rattle.walk.specs.State.{Join, word}

-- the first five words of each node are those of the tree of n nodes from node `first` of the schema on
abbrev pub Planted : List ℕ → List ℕ → List ℕ → ℕ → ℕ → Type 0
Planted plan formats schema first n = (i j : ℕ) → i < 32 → j < 5 → word plan i j ≡ word_of formats schema first n i j

-- an order with source s, whose first node in the tables is `first`
abbrev pub join_of : Tables → List ℕ → List ℕ → ℕ → ℕ → Join
join_of x plan parts first s =
    record { plan = plan; parts = parts; lengths = x.lengths; places = x.places; body = x.body; first = first; source = s }
