use mathlib.Core.Path.{◌≡◌}
use Prim.Native.Nat.{◌-◌}
use Rattle.batch.specs.batch_walk.Ends.{end_from}
use Rattle.batch.proofs.rise.parts_rise.Given as goal

abbrev pub invariant-loop-i : goal.invariant-loop-i
invariant-loop-i l = end_from l.plan l.parts (l.n - l.i) l.i l.end ≡ end_from l.plan l.parts l.n 0 0
