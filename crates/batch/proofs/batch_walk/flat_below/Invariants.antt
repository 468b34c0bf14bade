use mathlib.Core.Path.{◌≡◌}
use mathlib.Core.Bool.{true}
use Prim.Native.Nat.{suc, ◌-◌}
use Rattle.columnar.specs.Test.{every}
use Rattle.batch.specs.batch_walk.Plain.{is_flat}
use Rattle.batch.proofs.batch_walk.flat_below.Given as goal

abbrev pub invariant-loop-k : goal.invariant-loop-k
invariant-loop-k l = true ≡ every (λ j. is_flat l.plan (suc j)) (l.k - 1)
