-- `cell_sums::plain_cell` meets its contract. Assumes nothing.
use Rattle.std.proofs.Common.{◌∙◌}
use Rattle.aggregates.proofs.cell_sums.Laws.{bounded_by, plain_in}
use Rattle.aggregates.proofs.cell_sums.plain_cell.Goals as goal

pub overflow_add-n : goal.overflow_add-n
overflow_add-n c = record { fits = (c.requires.1.plain c.requires.0).0 }

pub cell_at-requires : goal.cell_at-requires
cell_at-requires c = (c.requires.1.plain c.requires.0).1

pub returns : goal.returns
returns c =
    (c.cell_at.ensures.value ∙ plain_in _ c.args.n c.args.row c.requires.0, bounded_by _ c.cell_at.ensures.count_bound)
