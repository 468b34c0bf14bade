use mathlib.Core.Path.{◌≡◌}
use Prim.Native.Nat.{◌-◌}
use Rattle.walk.specs.Nulls.{nullable_child}
use Rattle.nested_rows.proofs.lookups.nullable_child.Given as goal

abbrev pub invariant-loop-t : goal.invariant-loop-t
invariant-loop-t l = nullable_child l.plan l.end (32 - l._t) l.k ≡ nullable_child l.plan l.end 32 l.from
