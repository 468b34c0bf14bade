-- `cell_sums::sum_plain` meets its contract. Assumes nothing.
use Rattle.std.proofs.Common.{◌+◌, ◌-◌}
use Rattle.aggregates.proofs.tally.Sums.{alike}
use Rattle.aggregates.specs.cell_sums.Numbers.{cell_in, both_cells}
use Rattle.aggregates.proofs.cell_sums.Plain.{other_in}
use Rattle.aggregates.proofs.cell_sums.sum_plain.Goals as goal

pub sum_masked-requires : goal.sum_masked-requires
sum_masked-requires c = record { start_le_end = c.requires.start_le_end; all_ready = c.requires.all_ready }

pub returns-then-c : goal.returns-then-c
returns-then-c c = c.sum_masked.ensures

pub sum_masked-requires-then-d : goal.sum_masked-requires-then-d
sum_masked-requires-then-d c = record { start_le_end = c.requires.start_le_end; all_ready = c.requires.all_ready }

pub returns-then-d : goal.returns-then-d
returns-then-d c = c.sum_masked-then-d.ensures

pub sum_blocks-requires : goal.sum_blocks-requires
sum_blocks-requires c =
    record { start_le_end = (c.requires.start_le_end.0, c.requires.start_le_end.1, c.requires.start_le_end.2, c.if-c.false); all_ready = c.requires.all_ready.0 }

pub returns : goal.returns
returns c =
    let f = cell_in c.args.body.now c.args.a in
    alike (both_cells f (cell_in c.args.body.now c.args.b)) f c.args.start c.args.start (c.args.end - c.args.start) _ c.sum_blocks.ensures
    (λ j l. other_in c.args.body.now c.args.a c.requires.start_le_end.2 c.args.b c.requires.start_le_end.3 c.if-d.false (c.args.start + j))
