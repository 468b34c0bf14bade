-- A lent column whose type tree passes and whose nodes obey their rules is a source, and the other way around. Assumes nothing.
use mathlib.Core.Path.{◌≡◌}
use mathlib.Core.Bool.{true}
use mathlib.Core.List.{List}
use Prim.Native.Nat.{ℕ, ◌<◌}
use lib.Dec.{T}
use Rattle.columnar.specs.Reading.{Source}
use Rattle.columnar.specs.Test.{test}
use Rattle.schema.specs.Tree.{ceilings, typed, same_type}
use Rattle.array_data.specs.Tables.{Tables}
use Rattle.array_data.specs.Typed.{column_of, source_rule, placed}
use Rattle.array_data.proofs.Typed.{column_source, source_complete}
use Rattle.array_data.specs.type_tree.Lent.{tree_of, type_of}
use Rattle.array_data.proofs.type_tree.Lent.{means}
use Rattle.array_data.proofs.type_tree.Covered.{covered}
use Rattle.array_data.proofs.type_tree.Same.{same_means, same_covered}

module _ (formats schema : List ℕ) (first n : ℕ) (x : Tables) (t : typed formats schema first n ≡ true) (c : ceilings formats schema first n ≡ true) where
  -- THE COLUMN IS A SOURCE where every node obeys
  pub lent_source : T (source_rule (tree_of formats schema first n) x)
      → Source (type_of formats schema first n) (column_of (tree_of formats schema first n) x (type_of formats schema first n) 0)
  lent_source all = column_source (tree_of formats schema first n) x all (type_of formats schema first n) 0 (means formats schema first n t c)

  -- EVERY NODE OBEYS where the column passes the test of a source and the buffers lie in the body
  pub lent_obeys : ((j : ℕ) → j < n → T (placed (tree_of formats schema first n) x j))
      → T (test (type_of formats schema first n) (column_of (tree_of formats schema first n) x (type_of formats schema first n) 0))
      → T (source_rule (tree_of formats schema first n) x)
  lent_obeys lies e =
      source_complete (tree_of formats schema first n) x lies (type_of formats schema first n) (means formats schema first n t c) (covered formats schema first n x t c) e

  -- ---- another column, of n' nodes from node first' on, whose type tree passes as the same
  module _ (first' n' : ℕ) (s : same_type formats schema first n first' n' ≡ true) where
    -- IT IS A SOURCE OF THE SAME TYPE where every node of it obeys
    pub same_source : T (source_rule (tree_of formats schema first' n') x)
        → Source (type_of formats schema first n) (column_of (tree_of formats schema first' n') x (type_of formats schema first n) 0)
    same_source all = column_source (tree_of formats schema first' n') x all (type_of formats schema first n) 0 (same_means formats schema first n first' n' t c s)

    -- .. and the other way around
    pub same_obeys : ((j : ℕ) → j < n' → T (placed (tree_of formats schema first' n') x j))
        → T (test (type_of formats schema first n) (column_of (tree_of formats schema first' n') x (type_of formats schema first n) 0))
        → T (source_rule (tree_of formats schema first' n') x)
    same_obeys lies e =
        source_complete (tree_of formats schema first' n') x lies (type_of formats schema first n) (same_means formats schema first n first' n' t c s) (same_covered formats schema first n first' n' t c s x) e
