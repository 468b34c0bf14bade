-- `parts::fits` meets its contract. Assumes nothing.
use native.Mathlib.Omega.{arith}
use mathlib.Core.Path.{◌≡◌}
use Rattle.plan.proofs.parts.fits.Goals as goal

pub returns-then-b-eq0 : goal.returns-then-b-eq0
returns-then-b-eq0 c = rw c.if-b-eq0.true c.bits_fit.ensures

pub returns-then-b-eq1 : goal.returns-then-b-eq1
returns-then-b-eq1 c = rw c.if-b-eq1.true c.first_fits.ensures

pub returns : goal.returns
returns c =
    let e : c.args.b ≡ 2 = omega arith in
    rw e c.second_fits.ensures
