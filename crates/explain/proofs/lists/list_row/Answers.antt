-- `stop_walks::lists::list_row` meets its contract. Assumes nothing.
use native.Mathlib.Omega.{arith}
use native.Mathlib.Numerals.{add-one}
use Rattle.leaf_walk.specs.Join.{join}
use Rattle.explain.proofs.stop_walks.Laws.{list_over, list_into}
use Rattle.explain.proofs.lists.list_row.Goals as goal

pub entry_at-offset-requires : goal.entry_at-offset-requires
entry_at-offset-requires c = record { w_value = c.requires.w_value; k_in_bounds = omega arith }

pub entry_at-size-requires : goal.entry_at-size-requires
entry_at-size-requires c = record { w_value = c.requires.w_value; k_in_bounds = omega arith }

pub sum_fits-requires : goal.sum_fits-requires
sum_fits-requires c = λ p q. c.requires.w_value q

pub largest-requires : goal.largest-requires
largest-requires c = λ p q. c.requires.w_value q

pub returns-then-not-sum_fits : goal.returns-then-not-sum_fits
returns-then-not-sum_fits c =
    let a = c.args in
    let x = join a.plan.now a.parts.now a.lengths.now a.places.now a.body.now a.first a.source in
    list_over x a.depth a.w a.i a.slot a.r a.counters.now (rw c.place-2.ensures at c.entry_at-size.ensures) (add-one a.i) c.rows_of-child.ensures c.sum_fits.ensures c.if-not-sum_fits.true-raw c.grow.ensures c.largest.ensures

pub step_into-requires : goal.step_into-requires
step_into-requires c = (c.requires.first_bound.0, c.requires.first_bound.1)

pub returns : goal.returns
returns c =
    let a = c.args in
    let x = join a.plan.now a.parts.now a.lengths.now a.places.now a.body.now a.first a.source in
    list_into x a.depth a.w a.i a.slot a.r a.counters.now (rw c.place-2.ensures at c.entry_at-size.ensures) (add-one a.i) c.rows_of-child.ensures c.sum_fits.ensures c.if-not-sum_fits.false-raw (rw c.place.ensures at c.entry_at-offset.ensures) c.step_into.result c.step_into.ensures
