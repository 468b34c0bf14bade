-- `stop_walks::nulls::first_position` meets its contract. Assumes nothing.
use native.Mathlib.Omega.{arith}
use Rattle.explain.proofs.nulls.first_position.Goals as goal

pub returns-then-rows-lt-POSITIONS : goal.returns-then-rows-lt-POSITIONS
returns-then-rows-lt-POSITIONS c = omega arith

pub returns : goal.returns
returns c = omega arith
