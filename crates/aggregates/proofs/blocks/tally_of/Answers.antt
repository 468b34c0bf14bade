-- `cell_blocks::tally_of` meets its contract. Assumes nothing.
use Rattle.std.proofs.Common.{◌-◌, ◌/◌, ◌^◌, arith}
use Rattle.aggregates.specs.patterns.Parts.{top_bit}
use Rattle.aggregates.proofs.patterns.Laws.{some_bytes, times_bit}
use Rattle.aggregates.proofs.blocks.Sums.{top_one}
use Rattle.aggregates.proofs.blocks.tally_of.Goals as goal

pub overflow_mul-signed : goal.overflow_mul-signed
overflow_mul-signed c = omega (arith, (some_bytes _ c.requires.0).1)

pub overflow_sub-signed : goal.overflow_sub-signed
overflow_sub-signed c = omega (arith, (some_bytes _ c.requires.0).0)

pub overflow_cast-signed : goal.overflow_cast-signed
overflow_cast-signed c = omega (arith, (some_bytes _ c.requires.0).1)

pub overflow_shr-signed : goal.overflow_shr-signed
overflow_shr-signed c = omega (arith, (some_bytes _ c.requires.0).1)

pub overflow_sub-signed-2 : goal.overflow_sub-signed-2
overflow_sub-signed-2 c = top_one c.args.w c.args.top c.requires.0 c.requires.1

pub overflow_mul-p : goal.overflow_mul-p
overflow_mul-p c =
    omega (arith, times_bit c.args.p.below (1 - c.args.top / 2 ^ top_bit c.args.w) (omega arith))

pub returns : goal.returns
returns c = c.of_halves.ensures
