use mathlib.Core.Path.{◌≡◌}
use mathlib.Core.List.{[]}
use Prim.Native.Nat.{◌-◌}
use Rattle.leaf_walk.specs.Join.{join}
use Rattle.explain.specs.stops.Nulls.{why_nulls}
use Rattle.explain.proofs.nulls.why_null_walk.Given as goal

abbrev pub invariant-loop-left : goal.invariant-loop-left
invariant-loop-left l = why_nulls (join l.plan l.parts [] [] [] 0 0) l.depth l.i l.n l.initial.counters ≡ why_nulls (join l.plan l.parts [] [] [] 0 0) l.left l.node l.len l.counters

abbrev pub decreases-loop-left : goal.decreases-loop-left
decreases-loop-left l = l.left
