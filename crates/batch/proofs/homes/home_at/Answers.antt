-- `homes::home_at` meets its contract. Assumes nothing.
use mathlib.Core.Path.{ap, ◌∙◌}
use native.Mathlib.Omega.{arith}
use lib.ListN.{get_or}
use Rattle.number.proofs.Laws.{one}
use Rattle.batch.proofs.homes.home_at.Goals as goal

pub returns : goal.returns
returns c = ap (λ v. get_or c.args.homes.now v 0) (c.read-id.ensures ∙ one c.args.q c.args.body.now (omega arith))
