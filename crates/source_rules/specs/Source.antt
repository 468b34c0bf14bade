-- What is asked of the nodes of one source before its rules are tested. Assumes nothing.
use Rattle.std.specs.Prelude.{◌≡◌, Bool, true, false, List, ℕ, ◌+◌, ◌≤◌, ◌<◌, ◌^◌}
use Rattle.columnar.specs.Types.{Number}
use Rattle.schema.specs.Tree.{typed}
use Rattle.array_data.specs.Tables.{Tables}
use Rattle.array_data.specs.Rules.{fixed_rule, dictionary_rule}
use Rattle.array_data.specs.lent_tables.Lent.{Counted}

-- n nodes from node `first` on that 9 and 10 let through: at most 32, of a type that 01 admits, each with a length and an offset
pub record Ready (formats schema : List ℕ) (x : Tables) (first n : ℕ) : Type 0 where
  pub few : n ≤ 32
  pub low : first < 2 ^ 32
  pub is_typed : typed formats schema first n ≡ true
  pub counted : (j : ℕ) → j < n → Counted x (first + j)

-- the rule of a node of a fixed-width format: of numbers where the node has no dictionary (true), and else of keys
abbrev pub number_rule : Tables → ℕ → Bool → Number → Bool
number_rule x k true m = fixed_rule x k m
number_rule x k false m = dictionary_rule x k m
