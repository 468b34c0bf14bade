-- `rows::runs_at` meets its contract. Assumes nothing.
use mathlib.Core.List.{[]}
use native.Mathlib.Omega.{arith}
use Rattle.leaf_walk.specs.Join.{join}
use Rattle.nested_rows.proofs.Laws.{ends_from, runs_from, runs_given}
use Rattle.nested_rows.proofs.runs_at.Goals as goal

pub overflow_mul-from : goal.overflow_mul-from
overflow_mul-from c =
    let a = c.args in
    omega (arith, ends_from (join [] [] a.lengths.now a.places.now a.body.now a.first 0) a.w a.i _ (omega arith) c.place-at.ensures c.offset_of.ensures c.requires.i_in_bounds)

pub overflow_add-from : goal.overflow_add-from
overflow_add-from c =
    let a = c.args in
    omega (arith, ends_from (join [] [] a.lengths.now a.places.now a.body.now a.first 0) a.w a.i _ (omega arith) c.place-at.ensures c.offset_of.ensures c.requires.i_in_bounds)

pub runs_of-requires : goal.runs_of-requires
runs_of-requires c =
    let a = c.args in
    record { w_value = c.requires.w_value; n_in_bounds = runs_from (join [] [] a.lengths.now a.places.now a.body.now a.first 0) a.w a.i (omega arith) c.place-at.ensures c.offset_of.ensures c.length_of-m.ensures c.requires.i_in_bounds }

pub returns : goal.returns
returns c =
    let a = c.args in
    λ plan parts source child. runs_given (join plan parts a.lengths.now a.places.now a.body.now a.first source) child a.w a.i a.start.0 a.n (omega arith) c.place-at.ensures c.offset_of.ensures c.length_of-m.ensures c.runs_of.ensures
