-- `column_runs::read_run` meets its contract. Assumes nothing.
use Rattle.row_reader.proofs.runs.Laws.{run_refused, run_read}
use Rattle.row_reader.proofs.runs.read_run.Goals as goal

pub returns-then-refused-ne0 : goal.returns-then-refused-ne0
returns-then-refused-ne0 c =
    let z = c.args in
    run_refused z.formats.now z.schema.now z.lengths.now z.places.now z.buffers.now z.body.now z.first z.n _ c.open_column-refused.ensures.value z.row.0 c.if-refused-ne0.true

pub returns : goal.returns
returns c =
    let z = c.args in
    let g = c.open_column-refused.ensures in
    run_read z.formats.now z.schema.now z.lengths.now z.places.now z.buffers.now z.body.now z.first z.n _ g.value z.row.0 c.if-refused-ne0.false _ _ _ g.tree_value c.copied-words.ensures c.run_at.ensures
