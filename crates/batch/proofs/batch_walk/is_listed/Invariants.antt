use mathlib.Core.Path.{◌≡◌}
use Prim.Native.Nat.{◌-◌}
use Rattle.batch.specs.batch_walk.Plain.{is_listed}
use Rattle.batch.proofs.batch_walk.is_listed.Given as goal

abbrev pub invariant-loop-k : goal.invariant-loop-k
invariant-loop-k l = is_listed l.plan 7 0 ≡ is_listed l.plan (7 - l.k) l.k
