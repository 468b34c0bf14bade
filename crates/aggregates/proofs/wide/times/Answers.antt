-- `wide::times` meets its contract. Assumes nothing.
use Rattle.std.proofs.Common.{refl, arith}
use Rattle.aggregates.proofs.wide.Products.{small}
use Rattle.aggregates.proofs.wide.times.Goals as goal

pub overflow_mul-result : goal.overflow_mul-result
overflow_mul-result c = omega (arith, small _ _ c.requires.0 c.requires.1)

pub returns : goal.returns
returns c = (refl, small _ _ c.requires.0 c.requires.1)
