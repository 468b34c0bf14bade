-- `kind_rules::view_rows` meets its contract. Assumes nothing.
use Rattle.array_data.proofs.lent_tables.Laws.{is_none, is_some}
use Rattle.source_rules.specs.kinds.Rows.{tables_of, view_rows}
use Rattle.source_rules.proofs.kinds.Laws.{fit_is, views_all, views_valid}
use Rattle.source_rules.proofs.kinds.view_rows.Goals as goal

pub returns-then-not-rows_fit : goal.returns-then-not-rows_fit
unfolding view_rows
returns-then-not-rows_fit c = rw (fit_is 16 c.rows_fit.ensures c.count_of-count.ensures c.place.ensures c.if-not-rows_fit.true)

pub returns-then-place-eq0 : goal.returns-then-place-eq0
returns-then-place-eq0 c =
    let a = c.args in
    let x = tables_of a.lengths.now a.places.now a.buffers.now a.body.now in
    views_all x a.k c.place-2.ensures c.offset_of-off.ensures c.length_of-n.ensures c.place-first.ensures c.place-many.ensures (fit_is 16 c.rows_fit.ensures c.count_of-count.ensures c.place.ensures c.if-not-rows_fit.false) (is_none c.place-3.ensures c.if-place-eq0.true) c.views_good.ensures

pub returns : goal.returns
returns c =
    let a = c.args in
    let x = tables_of a.lengths.now a.places.now a.buffers.now a.body.now in
    views_valid x a.k c.place-2.ensures c.offset_of-off.ensures c.length_of-n.ensures c.place-first.ensures c.place-many.ensures (fit_is 16 c.rows_fit.ensures c.count_of-count.ensures c.place.ensures c.if-not-rows_fit.false) (is_some c.place-3.ensures c.if-place-eq0.false) c.place-from.ensures c.valid_views_good.ensures
