-- `column_reader::open_column` meets its contract. Assumes nothing.
use mathlib.Core.Path.{◌∙◌}
use Rattle.row_reader.proofs.column_reader.Laws.{tree_accepted, tree_refused}
use Rattle.row_reader.proofs.column_reader.open_column.Goals as goal

pub returns-then-refusal-eq0 : goal.returns-then-refusal-eq0
returns-then-refusal-eq0 c =
    let g = c.column_ground-refusal.ensures in
    record { value = g; tree_value = c.plant.ensures ∙ tree_accepted _ _ _ _ _ _ g c.if-refusal-eq0.true _ }

pub returns-else-refusal-eq0 : goal.returns-else-refusal-eq0
returns-else-refusal-eq0 c =
    let g = c.column_ground-refusal.ensures in
    record { value = g; tree_value = tree_refused _ _ _ _ _ _ g c.if-refusal-eq0.false _ }
