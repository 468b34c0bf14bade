-- `schema::is_shallow` meets its contract. Assumes nothing.
use mathlib.Core.Path.{sym}
use Rattle.schema.proofs.Shapes.{shallow_low}
use Rattle.schema.proofs.is_shallow.Goals as goal

pub returns-then-i-lt8 : goal.returns-then-i-lt8
returns-then-i-lt8 c = let z = c.args in sym (shallow_low z.schema.now z.first z.n z.i c.if-i-lt8.true)

pub returns : goal.returns
returns c = cc
