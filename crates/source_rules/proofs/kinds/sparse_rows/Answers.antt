-- `kind_rules::sparse_rows` meets its contract. Assumes nothing.
use native.Mathlib.Omega.{arith}
use Rattle.array_data.specs.lent_tables.Lent.{tables}
use Rattle.source_rules.specs.kinds.Rows.{sparse_rows}
use mathlib.Core.Path.{sym, ◌∙◌}
use Rattle.source_rules.proofs.kinds.Laws.{ids_short, ids_fit, ids_are, children_are}
use Rattle.source_rules.proofs.kinds.sparse_rows.Goals as goal

pub returns-then-place-count : goal.returns-then-place-count
unfolding sparse_rows
returns-then-place-count c =
    let a = c.args in
    let x = tables a.lengths.now a.places.now a.body.now in
    rw (ids_short x a.k c.count_of-count.ensures c.place.ensures (omega arith))

pub returns-then-not-ids_declared : goal.returns-then-not-ids_declared
unfolding sparse_rows
returns-then-not-ids_declared c =
    let a = c.args in
    let x = tables a.lengths.now a.places.now a.body.now in
    rw ((ids_fit x a.k c.count_of-count.ensures c.place.ensures (omega arith)), sym (ids_are x a.k c.place-start.ensures c.offset_of-off.ensures c.length_of-n.ensures a.ids.now c.ids_declared.ensures) ∙ c.if-not-ids_declared.true)

pub returns : goal.returns
unfolding sparse_rows
returns c =
    let a = c.args in
    let x = tables a.lengths.now a.places.now a.body.now in
    rw ((ids_fit x a.k c.count_of-count.ensures c.place.ensures (omega arith)), sym (ids_are x a.k c.place-start.ensures c.offset_of-off.ensures c.length_of-n.ensures a.ids.now c.ids_declared.ensures) ∙ c.if-not-ids_declared.false) (children_are x a.k c.count_of-count.ensures c.place.ensures a.ids.now a.lens.now c.children_reach.ensures)
