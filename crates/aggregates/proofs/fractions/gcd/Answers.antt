-- `fractions::gcd` meets its contract. The invariant: x and y have the divisor of a and b. Assumes nothing.
use Rattle.std.proofs.Common.{refl, ◌∙◌, mod-lt, pos_of_ne-zero}
use Rattle.aggregates.proofs.fractions.Euclid.{stop, turn}
use Rattle.aggregates.proofs.fractions.gcd.Goals as goal

pub loop-y-init : goal.loop-y-init
loop-y-init c = refl

pub nonzero_rem-t : goal.nonzero_rem-t
nonzero_rem-t c = pos_of_ne-zero c.loop-y-test.true

pub loop-y-smaller : goal.loop-y-smaller
loop-y-smaller c = mod-lt c.loop-y.x (pos_of_ne-zero c.loop-y-test.true)

pub loop-y-preserved : goal.loop-y-preserved
loop-y-preserved c = turn c.loop-y.x c.loop-y.y c.loop-y-test.true ∙ c.loop-y.invariant

pub returns : goal.returns
returns c = stop c.loop-y.x c.loop-y.y c.loop-y-test.false ∙ c.loop-y.invariant
