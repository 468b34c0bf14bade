use Prim.Native.Nat.{ℕ, ◌<◌}
use mathlib.Core.Path.{◌≡◌}
use mathlib.Core.Bool.{true, ◌&&◌}
use lib.Dec.{leb}
use Rattle.schema.specs.Tree.{few_fields, depth}
use Rattle.schema.proofs.is_within_ceilings.Given as goal

abbrev pub invariant-loop-i : goal.invariant-loop-i
invariant-loop-i l = (j : ℕ) → j < l.i → few_fields l.formats l.schema l.first j && leb (depth l.schema l.first l.n j) 8 ≡ true
