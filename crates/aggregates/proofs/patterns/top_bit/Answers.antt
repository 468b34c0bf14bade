-- `patterns::top_bit` meets its contract. Assumes nothing.
use Rattle.std.proofs.Common.{◌*◌, ◌-◌, ◌/◌, ◌^◌, ap}
use Rattle.aggregates.proofs.patterns.top_bit.Goals as goal

pub returns : goal.returns
returns g c = ap (λ k. c.args.x / 2 ^ (8 * k - 1)) c.SIZE.ensures
