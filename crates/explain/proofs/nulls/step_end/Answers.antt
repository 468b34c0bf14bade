-- `stop_walks::nulls::step_end` meets its contract. Assumes nothing.
use mathlib.Core.List.{[]}
use native.Mathlib.Omega.{arith}
use native.Mathlib.Numerals.{add-one}
use Rattle.leaf_walk.specs.Join.{join}
use Rattle.explain.proofs.nulls.Laws.{end_on, end_over, width_of_lem}
use Rattle.explain.proofs.nulls.step_end.Goals as goal

pub width_at-w-requires : goal.width_at-w-requires
width_at-w-requires c = omega arith

pub rows_of-last-requires : goal.rows_of-last-requires
rows_of-last-requires c = omega arith

pub sum_fits-requires : goal.sum_fits-requires
sum_fits-requires c =
    let a = c.args in
    width_of_lem (join a.plan.now [] [] [] [] 0 0) a.i (add-one a.i) c.width_at-w.ensures c.requires.i_value

pub returns-then-sum_fits : goal.returns-then-sum_fits
returns-then-sum_fits c =
    let a = c.args in
    λ parts depth. end_on (join a.plan.now parts [] [] [] 0 0) depth a.i a.n a.counters.now (add-one a.i) c.width_at-w.ensures c.rows_of-last.ensures c.at_most_far.ensures c.sum_fits.ensures c.if-sum_fits.true

pub largest-requires : goal.largest-requires
largest-requires c =
    let a = c.args in
    width_of_lem (join a.plan.now [] [] [] [] 0 0) a.i (add-one a.i) c.width_at-w.ensures c.requires.i_value

pub returns : goal.returns
returns c =
    let a = c.args in
    λ parts depth. end_over (join a.plan.now parts [] [] [] 0 0) depth a.i a.n a.counters.now (add-one a.i) c.width_at-w.ensures c.rows_of-last.ensures c.at_most_far.ensures c.sum_fits.ensures c.if-sum_fits.false c.grow.ensures c.largest.ensures
