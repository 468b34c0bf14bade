-- `cell_sums::sum_block` meets its contract. Assumes nothing.
use Rattle.std.proofs.Common.{◌+◌, ◌-◌, arith}
use Rattle.aggregates.proofs.tally.Sums.{alike}
use Rattle.aggregates.specs.cell_sums.Numbers.{cell_in}
use Rattle.aggregates.proofs.cell_sums.Plain.{first_low, last_held, number_in}
use Rattle.aggregates.proofs.cell_sums.sum_block.Goals as goal

pub overflow_add-a : goal.overflow_add-a
overflow_add-a c =
    record { fits = first_low c.args.body.now c.args.a c.requires.row_lt_stop.2 c.args.row c.args.stop c.requires.all_ready c.requires.row_lt_stop.0 }

pub overflow_sub-stop : goal.overflow_sub-stop
overflow_sub-stop c = omega (arith, c.requires.row_lt_stop.0)

pub sum_slots-requires : goal.sum_slots-requires
sum_slots-requires c = (
  omega (arith, c.requires.row_lt_stop.0),
  omega (arith, c.requires.row_lt_stop.1),
  last_held c.args.body.now c.args.a c.requires.row_lt_stop.2 c.args.row c.args.stop c.requires.all_ready c.requires.row_lt_stop.0,
)

pub returns : goal.returns
returns c =
    alike (cell_in c.args.body.now c.args.a) _ c.args.row (c.args.a.skip + c.args.row) (c.args.stop - c.args.row) _ c.sum_slots.ensures (λ j l. number_in c.args.body.now c.args.a c.requires.row_lt_stop.2 c.requires.row_lt_stop.3 c.args.row j)
