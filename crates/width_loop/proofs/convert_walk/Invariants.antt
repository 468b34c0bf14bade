use mathlib.Core.List.{List, []}
use Prim.Native.Nat.{ℕ, ◌-◌}
use Rattle.array_data.specs.entries.Entries.{column}
use Rattle.array_data.specs.type_tree.Lent.{tree_of}
use Rattle.walk.proofs.Laws.{Rest}
use Rattle.width_walks.specs.Nodes.{nodes_walk, tree_walk}
use Rattle.width_loop.proofs.Fits.{Fits}
use Rattle.width_loop.proofs.convert_walk.Given as goal

abbrev pub invariant-loop-i : goal.invariant-loop-i
invariant-loop-i l =
    Fits (column l.lengths l.places [] l.body l.first) l.ranges
    × ((buffers : List ℕ) → Rest l.plan l.parts l.write (tree_walk (tree_of l.formats l.schema l.first l.n) (tree_of l.formats l.schema l.target l.n) (column l.lengths l.places buffers l.body l.first) l.plan l.initial.counters) l.initial.room (nodes_walk (tree_of l.formats l.schema l.first l.n) (tree_of l.formats l.schema l.target l.n) (column l.lengths l.places buffers l.body l.first) l.plan (l.n - l.i) l.i l.ranges l.counters) l.room)
