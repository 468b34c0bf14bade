-- `row_reader::run_at` meets its contract. Assumes nothing.
use mathlib.Core.Path.{◌∙◌}
use mathlib.Core.List.{[]}
use Rattle.array_data.proofs.lent_tables.Laws.{no, yes}
use Rattle.array_data.specs.entries.Entries.{column}
use Rattle.row_reader.proofs.Laws.{at_other, at_runs}
use Rattle.row_reader.proofs.run_at.Goals as goal

pub returns-then-not-is_run_end : goal.returns-then-not-is_run_end
returns-then-not-is_run_end c =
    let z = c.args in
    let y = column z.lengths.now z.places.now [] z.body.now z.first in
    at_other z.tree.now y z.row.0 _ c.code_word.ensures (no c.is_run_end.ensures c.if-not-is_run_end.true-raw)

pub returns : goal.returns
returns c =
    let z = c.args in
    let y = column z.lengths.now z.places.now [] z.body.now z.first in
    c.run_of.ensures ∙ at_runs z.tree.now y z.row.0 _ c.code_word.ensures (yes c.is_run_end.ensures c.if-not-is_run_end.false-raw)
