use mathlib.Core.Path.{◌≡◌}
use Prim.Native.Nat.{◌-◌, ◌≤◌}
use Rattle.walk.specs.Copy.{copy_walk}
use Rattle.leaf_walk.specs.Join.{join}
use Rattle.explain.specs.stops.Copy.{why_fields, why_copy}
use Rattle.explain.proofs.unions.step_sparse.Given as goal

abbrev pub invariant-loop-t : goal.invariant-loop-t
invariant-loop-t l = why_fields (join l.plan l.parts l.lengths l.places l.body l.first l.source) (copy_walk (join l.plan l.parts l.lengths l.places l.body l.first l.source) l.depth) (why_copy (join l.plan l.parts l.lengths l.places l.body l.first l.source) l.depth) l.slot l.n l.end 32 l.initial.k l.initial.counters ≡ why_fields (join l.plan l.parts l.lengths l.places l.body l.first l.source) (copy_walk (join l.plan l.parts l.lengths l.places l.body l.first l.source) l.depth) (why_copy (join l.plan l.parts l.lengths l.places l.body l.first l.source) l.depth) l.slot l.n l.end (32 - l.t) l.k l.counters
