-- `cell_sums::sum_both` meets its contract. Assumes nothing.
use Rattle.aggregates.proofs.cell_sums.sum_both.Goals as goal

pub sum_both_stretches-requires : goal.sum_both_stretches-requires
sum_both_stretches-requires c = record { start_le_end = c.requires.start_le_end; all_ready = c.requires.all_ready }

pub returns-then-a : goal.returns-then-a
returns-then-a c = c.sum_both_stretches.ensures

pub sum_both_stretches-requires-then-b : goal.sum_both_stretches-requires-then-b
sum_both_stretches-requires-then-b c = record { start_le_end = c.requires.start_le_end; all_ready = c.requires.all_ready }

pub returns-then-b : goal.returns-then-b
returns-then-b c = c.sum_both_stretches-then-b.ensures

pub sum_plain-first-requires : goal.sum_plain-first-requires
sum_plain-first-requires c =
    record { start_le_end = (c.requires.start_le_end.0, c.requires.start_le_end.1, c.if-a.false, c.if-b.false); all_ready = c.requires.all_ready }

pub sum_plain-second-requires : goal.sum_plain-second-requires
sum_plain-second-requires c =
    record { start_le_end = (c.requires.start_le_end.0, c.requires.start_le_end.1, c.if-b.false, c.if-a.false); all_ready = (c.requires.all_ready.1, c.requires.all_ready.0) }

pub returns : goal.returns
returns c = (c.sum_plain-first.ensures, c.sum_plain-second.ensures)
