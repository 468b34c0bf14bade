use Prim.Native.Nat.{ℕ, ◌+◌, ◌≤◌, ◌<◌}
use mathlib.Core.Path.{◌≡◌}
use mathlib.Core.List.{[]}
use lib.ListN.{length, get_or}
use Rattle.schema.specs.Tree.{child_at}
use Rattle.array_data.specs.Tables.{length_of}
use Rattle.array_data.specs.lent_tables.Lent.{tables}
use Rattle.source_rules.proofs.field_lengths.Given as goal

abbrev pub invariant-loop-j : goal.invariant-loop-j
invariant-loop-j l =
    (length l.lens ≡ 16) × (l.node ≤ l.n) × (l.node ≡ child_at l.schema l.first l.n l.i l.j)
    × ((k : ℕ) → k < l.j → get_or l.lens k 0 ≡ length_of (tables l.lengths [] []) (l.first + child_at l.schema l.first l.n l.i k))
