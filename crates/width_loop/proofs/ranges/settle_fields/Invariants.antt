use mathlib.Core.Path.{◌≡◌}
use mathlib.Core.Bool.{cond}
use mathlib.Core.List.{List}
use Prim.Native.Nat.{ℕ, ◌≤◌}
use Rattle.schema.specs.Tree.{child_at}
use Rattle.array_data.specs.Tables.{length_of}
use Rattle.array_data.specs.Typed.{Tree}
use Rattle.array_data.specs.entries.Entries.{column}
use Rattle.array_data.specs.type_tree.Lent.{tree_of}
use Rattle.width_walks.specs.Nodes.{child_ranges}
use Rattle.width_loop.proofs.ranges.settle_fields.Given as goal

abbrev pub invariant-loop-j : goal.invariant-loop-j
invariant-loop-j l =
    (l.node ≤ l.count) × (l.node ≡ child_at l.schema l.first l.count l.i l._j)
    × ((formats places buffers body plan : List ℕ) (t : Tree) → l.ranges ≡ child_ranges (tree_of formats l.schema l.first l.count) t (column l.lengths places buffers body l.first) plan (λ k. cond l.whole 0 l.s) (λ k. cond l.whole (length_of (column l.lengths places buffers body l.first) k) l.n) l.i l._j l.initial.ranges)
