use mathlib.Core.Path.{◌≡◌}
use mathlib.Core.Bool.{true}
use Prim.Native.Nat.{◌+◌, ◌*◌, ◌≤◌}
use lib.ListN.{length}
use Rattle.columnar.specs.Test.{every}
use Rattle.source_rules.proofs.kinds.Laws.{lies}
use Rattle.source_rules.proofs.kinds.buffers_in.Given as goal

abbrev pub invariant-loop-i : goal.invariant-loop-i
invariant-loop-i l = (true ≡ every (lies l.buffers l.body l.first) l.i) × (2 * (l.first + l.count) ≤ length l.buffers)
