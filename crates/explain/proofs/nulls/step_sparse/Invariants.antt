use mathlib.Core.Path.{◌≡◌}
use mathlib.Core.List.{[]}
use Prim.Native.Nat.{◌-◌, ◌≤◌}
use Rattle.walk.specs.Nulls.{null_walk}
use Rattle.leaf_walk.specs.Join.{join}
use Rattle.explain.specs.stops.Nulls.{why_null_fields, why_nulls}
use Rattle.explain.proofs.nulls.step_sparse.Given as goal

abbrev pub invariant-loop-t : goal.invariant-loop-t
invariant-loop-t l = why_null_fields (join l.plan l.parts [] [] [] 0 0) (null_walk (join l.plan l.parts [] [] [] 0 0) l.depth) (why_nulls (join l.plan l.parts [] [] [] 0 0) l.depth) l.n l.end 32 l.initial.k l.initial.counters ≡ why_null_fields (join l.plan l.parts [] [] [] 0 0) (null_walk (join l.plan l.parts [] [] [] 0 0) l.depth) (why_nulls (join l.plan l.parts [] [] [] 0 0) l.depth) l.n l.end (32 - l.t) l.k l.counters
