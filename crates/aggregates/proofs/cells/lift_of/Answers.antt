-- `whole_cells::lift_of` meets its contract. Assumes nothing.
use Rattle.std.proofs.Common.{◌+◌, ◌^◌, ap}
use Rattle.aggregates.proofs.cells.lift_of.Goals as goal

pub returns-in_default : goal.returns-in_default
returns-in_default c = let r = c.in_default.in_default-own.rest in ap (λ w. 256 ^ w + 0) (c.requires r.0.0.1 r.0.1 r.1)
