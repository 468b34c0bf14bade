use Prim.Native.Nat.{suc, ◌-◌}
use mathlib.Core.Path.{◌≡◌}
use mathlib.Core.Bool.{true}
use Rattle.columnar.specs.Test.{every}
use Rattle.sound.proofs.Laws.{Inside}
use Rattle.sound.proofs.is_nested.Given as goal

abbrev pub invariant-loop-k : goal.invariant-loop-k
invariant-loop-k l = every (Inside l.plan l.i) (l.k - suc l.i) ≡ true
