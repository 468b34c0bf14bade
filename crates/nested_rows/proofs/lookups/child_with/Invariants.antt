use mathlib.Core.Path.{◌≡◌}
use Prim.Native.Nat.{◌-◌}
use Rattle.walk.specs.Copy.{child_with}
use Rattle.nested_rows.proofs.lookups.child_with.Given as goal

abbrev pub invariant-loop-t : goal.invariant-loop-t
invariant-loop-t l = child_with l.plan l.id l.end (32 - l._t) l.k ≡ child_with l.plan l.id l.end 32 l.from
