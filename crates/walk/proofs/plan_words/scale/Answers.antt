-- `growth::scale` meets its contract. Assumes nothing.
use native.Mathlib.Omega.{arith}
use Rattle.walk.specs.State.{scaled}
use Rattle.walk.proofs.plan_words.scale.Goals as goal

pub returns : goal.returns
unfolding scaled
returns c = omega arith
