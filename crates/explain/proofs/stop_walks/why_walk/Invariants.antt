use mathlib.Core.Path.{◌≡◌}
use Prim.Native.Nat.{◌-◌}
use Rattle.leaf_walk.specs.Join.{join}
use Rattle.explain.specs.stops.Copy.{why_copy}
use Rattle.explain.proofs.stop_walks.why_walk.Given as goal

abbrev pub invariant-loop-left : goal.invariant-loop-left
invariant-loop-left l = why_copy (join l.plan l.parts l.lengths l.places l.body l.first l.source) l.depth l.i l.a l.n l.initial.counters ≡ why_copy (join l.plan l.parts l.lengths l.places l.body l.first l.source) l.left l.node l.start l.len l.counters

abbrev pub decreases-loop-left : goal.decreases-loop-left
decreases-loop-left l = l.left
