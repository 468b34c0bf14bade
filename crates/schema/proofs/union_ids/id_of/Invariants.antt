use Prim.Native.Nat.{ℕ, ◌≤◌, ◌<◌}
use mathlib.Core.Path.{◌≡◌}
use mathlib.Core.Bool.{true}
use lib.ListN.{drop, get_or}
use Rattle.schema.specs.formats.Code.{between}
use Rattle.schema.specs.union_ids.Ids.{decimal}
use Rattle.schema.proofs.union_ids.id_of.Given as goal

-- the digits so far, and that they are few
abbrev pub invariant-loop-b : goal.invariant-loop-b
invariant-loop-b l =
    (decimal l.x (drop l.b-index l.piece) ≡ decimal 0 l.piece)
    × ((k : ℕ) → k < l.b-index → between 48 57 (get_or l.piece k 0) ≡ true)
    × (l.b-index ≤ 0 → l.x ≤ 0)
    × (l.b-index ≤ 1 → l.x ≤ 9)
    × (l.b-index ≤ 2 → l.x ≤ 99)
