-- `growth::grow` meets its contract. Assumes nothing.
use native.Mathlib.Omega.{arith}
use Rattle.walk.specs.State.{grown}
use Rattle.walk.proofs.plan_words.grow.Goals as goal

pub returns : goal.returns
unfolding grown
returns c = omega arith
