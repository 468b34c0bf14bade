-- `kind_rules::dense_rows` meets its contract. Assumes nothing.
use native.Mathlib.Omega.{arith}
use Rattle.array_data.specs.lent_tables.Lent.{tables}
use Rattle.source_rules.specs.kinds.Rows.{dense_rows}
use Rattle.source_rules.proofs.kinds.Laws.{fit_is, ids_short, ids_fit, slots_are}
use Rattle.source_rules.proofs.kinds.dense_rows.Goals as goal

pub returns-then-place-count : goal.returns-then-place-count
unfolding dense_rows
returns-then-place-count c =
    let a = c.args in
    let x = tables a.lengths.now a.places.now a.body.now in
    rw (ids_short x a.k c.count_of-count.ensures c.place.ensures (omega arith))

pub returns-then-not-rows_fit : goal.returns-then-not-rows_fit
unfolding dense_rows
returns-then-not-rows_fit c =
    let a = c.args in
    let x = tables a.lengths.now a.places.now a.body.now in
    rw ((ids_fit x a.k c.count_of-count.ensures c.place.ensures (omega arith)), fit_is 4 c.rows_fit.ensures c.count_of-count.ensures c.place-2.ensures c.if-not-rows_fit.true)

pub returns : goal.returns
unfolding dense_rows
returns c =
    let a = c.args in
    let x = tables a.lengths.now a.places.now a.body.now in
    rw ((ids_fit x a.k c.count_of-count.ensures c.place.ensures (omega arith)), fit_is 4 c.rows_fit.ensures c.count_of-count.ensures c.place-2.ensures c.if-not-rows_fit.false) (slots_are x a.k c.place-3.ensures c.offset_of-off.ensures c.length_of-n.ensures a.ids.now a.lens.now c.place-4.ensures c.dense_good.ensures)
