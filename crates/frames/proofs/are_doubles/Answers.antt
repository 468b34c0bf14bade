-- `frames::are_doubles` meets its contract. Assumes nothing.
use mathlib.Core.Path.{ap₂}
use mathlib.Core.Bool.{◌&&◌}
use lib.Dec.{eqb}
use Rattle.frames.proofs.are_doubles.Goals as goal

pub returns : goal.returns
returns c = ap₂ (λ p q. eqb p 10 && eqb q 10) c.plain_code-code.ensures c.plain_code-code2.ensures
