-- `explain::source_of` meets its contract. Assumes nothing.
use native.Mathlib.Omega.{arith}
use Rattle.explain.proofs.source_of.Goals as goal

pub returns-then-a-gt-LARGEST_SOURCE : goal.returns-then-a-gt-LARGEST_SOURCE
returns-then-a-gt-LARGEST_SOURCE c = omega arith

pub returns : goal.returns
returns c = omega arith
