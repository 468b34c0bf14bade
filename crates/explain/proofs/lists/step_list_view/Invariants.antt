use mathlib.Core.Path.{◌≡◌}
use Prim.Native.Nat.{◌-◌, ◌≤◌}
use Rattle.walk.specs.Copy.{list_view_row, copy_walk}
use Rattle.leaf_walk.specs.Join.{join}
use Rattle.explain.specs.stops.Why.{first_of}
use Rattle.explain.specs.stops.Copy.{why_list_row, why_copy}
use Rattle.explain.proofs.lists.step_list_view.Given as goal

abbrev pub invariant-loop-r : goal.invariant-loop-r
invariant-loop-r l = first_of (list_view_row (join l.plan l.parts l.lengths l.places l.body l.first l.source) (copy_walk (join l.plan l.parts l.lengths l.places l.body l.first l.source) l.depth) l.w l.i l.slot) (why_list_row (join l.plan l.parts l.lengths l.places l.body l.first l.source) (copy_walk (join l.plan l.parts l.lengths l.places l.body l.first l.source) l.depth) (why_copy (join l.plan l.parts l.lengths l.places l.body l.first l.source) l.depth) l.w l.i l.slot) l.n 0 l.initial.counters ≡ first_of (list_view_row (join l.plan l.parts l.lengths l.places l.body l.first l.source) (copy_walk (join l.plan l.parts l.lengths l.places l.body l.first l.source) l.depth) l.w l.i l.slot) (why_list_row (join l.plan l.parts l.lengths l.places l.body l.first l.source) (copy_walk (join l.plan l.parts l.lengths l.places l.body l.first l.source) l.depth) (why_copy (join l.plan l.parts l.lengths l.places l.body l.first l.source) l.depth) l.w l.i l.slot) (l.n - l.r) l.r l.counters
