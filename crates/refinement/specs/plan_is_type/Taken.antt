-- The sources that an opening takes, as their tables describe them, and A plan that has the words of their type. Assumes nothing.
use Rattle.std.specs.Prelude.{◌≡◌, true, List, ℕ, ◌+◌, ◌<◌, ◌^◌, length, T}
use Rattle.columnar.specs.Types.{Ty}
use Rattle.columnar.specs.Reading.{Column}
use Rattle.schema.specs.Tree.{ceilings, typed, same_type}
use Rattle.array_data.specs.Tables.{Tables, length_of, offset_of}
use Rattle.array_data.specs.Typed.{tables_from, column_of, source_rule}
use Rattle.array_data.specs.type_tree.Lent.{tree_of, type_of}
use Rattle.walk.specs.State.{far}
use Rattle.refinement.specs.plan_is_type.Planted.{Planted}

-- source s: its first node in the tables, and how many it has; the type is that of the first source
abbrev pub type_is : List ℕ → List ℕ → (ℕ → ℕ) → (ℕ → ℕ) → Ty
type_is formats schema first_of nodes_of = type_of formats schema (first_of 0) (nodes_of 0)

module _ (formats schema : List ℕ) (x : Tables) (first_of nodes_of : ℕ → ℕ) where
  -- the column of each, by its own tree
  abbrev pub columns : ℕ → Column (type_is formats schema first_of nodes_of)
  columns s = column_of (tree_of formats schema (first_of s) (nodes_of s)) (tables_from x (first_of s)) (type_is formats schema first_of nodes_of) 0

  -- .. and by the first source's, whose children stand at the same nodes
  abbrev pub columns_as : ℕ → Column (type_is formats schema first_of nodes_of)
  columns_as s = column_of (tree_of formats schema (first_of 0) (nodes_of 0)) (tables_from x (first_of s)) (type_is formats schema first_of nodes_of) 0

  -- m sources that pass grounds 9 to 12
  pub record Taken (plan : List ℕ) (m : ℕ) : Type 0 where
    pub is_typed : typed formats schema (first_of 0) (nodes_of 0) ≡ true
    pub low : ceilings formats schema (first_of 0) (nodes_of 0) ≡ true
    pub planted : Planted plan formats schema (first_of 0) (nodes_of 0)
    pub body_small : length x.body < 2 ^ 63
    pub alike : (s : ℕ) → 0 < s → s < m → same_type formats schema (first_of 0) (nodes_of 0) (first_of s) (nodes_of s) ≡ true
    pub rules : (s : ℕ) → s < m → T (source_rule (tree_of formats schema (first_of s) (nodes_of s)) (tables_from x (first_of s)))
    pub sums : (s : ℕ) → s < m → (i : ℕ) → i < nodes_of s → offset_of (tables_from x (first_of s)) i + length_of (tables_from x (first_of s)) i < far
