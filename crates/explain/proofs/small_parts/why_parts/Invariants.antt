use mathlib.Core.Path.{◌≡◌}
use Prim.Native.Nat.{◌+◌, ◌-◌, ◌≤◌}
use Rattle.explain.specs.stops.Parts.{why_parts_from}
use Rattle.explain.proofs.small_parts.why_parts.Given as goal

abbrev pub invariant-loop-i : goal.invariant-loop-i
invariant-loop-i l = why_parts_from l.plan l.counters l.parts (l.r + l.n) l.nodes 0 ≡ why_parts_from l.plan l.counters l.parts (l.r + l.n) (l.nodes - l.i) l.i
