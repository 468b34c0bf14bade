-- `columns::count_fits` meets its contract. Assumes nothing.
use mathlib.Core.Path.{sym}
use mathlib.Core.List.{[]}
use Rattle.array_data.specs.lent_tables.Lent.{tables}
use Rattle.columns.proofs.Laws.{count_over, count_under}
use Rattle.columns.proofs.count_fits.Goals as goal

pub returns-then-top-off : goal.returns-then-top-off
returns-then-top-off c =
    let z = c.args in
    sym (count_over (tables z.lengths.now [] []) z.k _ c.offset_of-off.ensures c.if-top-off.true)

pub returns : goal.returns
returns c =
    let z = c.args in
    count_under (tables z.lengths.now [] []) z.k _ _ c.offset_of-off.ensures c.length_of.ensures c.if-top-off.false
