-- `whole_cells::is_valid` meets its contract. Assumes nothing.
use Rattle.std.proofs.Common.{◌∙◌}
use Rattle.aggregates.specs.cells.Cells.{valid_at}
use Rattle.aggregates.proofs.cells.is_valid.Goals as goal

pub is_set-requires : goal.is_set-requires
is_set-requires c = c.requires c.if-c.true

pub returns-then-c : goal.returns-then-c
unfolding valid_at
returns-then-c c = c.is_set.ensures ∙ rw c.if-c.true

pub returns : goal.returns
unfolding valid_at
returns c = rw c.if-c.false
