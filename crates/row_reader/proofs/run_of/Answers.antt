-- `row_reader::run_of` meets its contract. Assumes nothing.
use mathlib.Core.Path.{◌∙◌}
use mathlib.Core.List.{[]}
use native.Mathlib.Numerals.{add-one}
use Rattle.array_data.specs.entries.Entries.{column}
use Rattle.row_reader.proofs.Laws.{runs_as}
use Rattle.row_reader.proofs.run_of.Goals as goal

pub returns : goal.returns
returns c =
    let z = c.args in
    let y = column z.lengths.now z.places.now [] z.body.now z.first in
    c.find_run.ensures ∙ runs_as z.tree.now y z.i _ _ _ _ _ _ _ _ _ z.row.0 (add-one z.i) c.width_of-w.ensures c.code_word.ensures c.place_at-start.ensures c.place_at-size.ensures c.offset_at-off.ensures c.length_at-len.ensures c.offset_at-offset.ensures c.length_at-rows.ensures
