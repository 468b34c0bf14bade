-- `fractions::is_minus` meets its contract. Assumes nothing.
use Rattle.std.proofs.Common.{◌≡◌, ℤ, pos, negsuc, refl, arith, to_z-of_z, le-ltb}
use lib.Signed.{lt_z}
use Rattle.aggregates.specs.fractions.Lowest.{is_minus}
use Rattle.aggregates.proofs.fractions.is_minus.Goals as goal

below_zero : (z : ℤ) → lt_z z (pos 0) ≡ is_minus z
below_zero (pos n) = le-ltb n 0 (omega arith)
below_zero (negsuc n) = refl

pub returns : goal.returns
returns c = rw (to_z-of_z c.ranges.z) (below_zero c.args.z)
