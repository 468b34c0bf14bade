-- `cell_sums::sum_rows` meets its contract. Assumes nothing.
use Rattle.std.proofs.Common.{◌+◌, ◌-◌}
use Rattle.aggregates.proofs.tally.Sums.{alike}
use Rattle.aggregates.specs.cell_sums.Numbers.{cell_in, both_cells}
use Rattle.aggregates.proofs.cell_sums.Plain.{self_in}
use Rattle.aggregates.proofs.cell_sums.sum_rows.Goals as goal

pub sum_stretches-requires : goal.sum_stretches-requires
sum_stretches-requires c = record { start_le_end = c.requires.start_le_end; all_ready = c.requires.all_ready }

pub returns-then-n : goal.returns-then-n
returns-then-n c = c.sum_stretches.ensures

pub sum_plain-requires : goal.sum_plain-requires
sum_plain-requires c =
    record { start_le_end = (c.requires.start_le_end.0, c.requires.start_le_end.1, c.if-n.false, c.if-n.false); all_ready = (c.requires.all_ready, c.requires.all_ready) }

pub returns : goal.returns
returns c =
    let f = cell_in c.args.body.now c.args.n in
    alike f (both_cells f f) c.args.start c.args.start (c.args.end - c.args.start) _ c.sum_plain.ensures
    (λ j l. self_in c.args.body.now c.args.n c.if-n.false (c.args.start + j))
