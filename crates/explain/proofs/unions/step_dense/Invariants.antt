use mathlib.Core.Path.{◌≡◌}
use Prim.Native.Nat.{◌-◌, ◌≤◌}
use Rattle.walk.specs.Copy.{dense_row, copy_walk}
use Rattle.leaf_walk.specs.Join.{join}
use Rattle.explain.specs.stops.Why.{first_of}
use Rattle.explain.specs.stops.Copy.{why_dense_row, why_copy}
use Rattle.explain.proofs.unions.step_dense.Given as goal

abbrev pub invariant-loop-r : goal.invariant-loop-r
invariant-loop-r l = first_of (dense_row (join l.plan l.parts l.lengths l.places l.body l.first l.source) (copy_walk (join l.plan l.parts l.lengths l.places l.body l.first l.source) l.depth) l.i l.slot) (why_dense_row (join l.plan l.parts l.lengths l.places l.body l.first l.source) (copy_walk (join l.plan l.parts l.lengths l.places l.body l.first l.source) l.depth) (why_copy (join l.plan l.parts l.lengths l.places l.body l.first l.source) l.depth) l.i l.slot) l.n 0 l.initial.counters ≡ first_of (dense_row (join l.plan l.parts l.lengths l.places l.body l.first l.source) (copy_walk (join l.plan l.parts l.lengths l.places l.body l.first l.source) l.depth) l.i l.slot) (why_dense_row (join l.plan l.parts l.lengths l.places l.body l.first l.source) (copy_walk (join l.plan l.parts l.lengths l.places l.body l.first l.source) l.depth) (why_copy (join l.plan l.parts l.lengths l.places l.body l.first l.source) l.depth) l.i l.slot) (l.n - l.r) l.r l.counters
