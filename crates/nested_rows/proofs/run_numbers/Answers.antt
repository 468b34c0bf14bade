-- `rows::run_numbers` meets its contract. Assumes nothing.
use mathlib.Core.List.{[]}
use native.Mathlib.Omega.{arith}
use native.Mathlib.Numerals.{add-one}
use Rattle.leaf_walk.specs.Join.{join}
use Rattle.nested_rows.proofs.Laws.{wide_in, ends_from, run_did}
use Rattle.nested_rows.proofs.run_numbers.Goals as goal

pub overflow_mul-ends : goal.overflow_mul-ends
overflow_mul-ends c =
    let a = c.args in
    omega (arith, ends_from (join [] [] a.lengths.now a.places.now a.body.now a.first 0) a.w a.i _ (omega arith) c.place-at.ensures c.offset_of.ensures c.requires.count_in_bounds)

pub overflow_add-ends : goal.overflow_add-ends
overflow_add-ends c =
    let a = c.args in
    omega (arith, ends_from (join [] [] a.lengths.now a.places.now a.body.now a.first 0) a.w a.i _ (omega arith) c.place-at.ensures c.offset_of.ensures c.requires.count_in_bounds)

pub overflow_mul-from : goal.overflow_mul-from
overflow_mul-from c =
    let a = c.args in
    omega (arith, ends_from (join [] [] a.lengths.now a.places.now a.body.now a.first 0) a.w a.i _ (omega arith) c.place-at.ensures c.offset_of.ensures c.requires.count_in_bounds)

pub overflow_add-from : goal.overflow_add-from
overflow_add-from c =
    let a = c.args in
    omega (arith, ends_from (join [] [] a.lengths.now a.places.now a.body.now a.first 0) a.w a.i _ (omega arith) c.place-at.ensures c.offset_of.ensures c.requires.count_in_bounds)

pub scale-o-requires : goal.scale-o-requires
scale-o-requires c = omega (arith, wide_in c.args.w c.requires.w_value)

pub put_run_ends-requires : goal.put_run_ends-requires
put_run_ends-requires c =
    let a = c.args in
    record { i_bound = omega (arith, ends_from (join [] [] a.lengths.now a.places.now a.body.now a.first 0) a.w a.i _ (omega arith) c.place-at.ensures c.offset_of.ensures c.requires.count_in_bounds); w_value = c.requires.w_value }

pub returns : goal.returns
returns c =
    let a = c.args in
    λ source. run_did (join a.plan.now a.parts.now a.lengths.now a.places.now a.body.now a.first source) a.write a.w a.i a.start.0 a.n a.last a.run.0 a.count a.counters.now a.room.now (add-one a.i) (omega arith) c.place-at.ensures c.offset_of.ensures c.rows_of.ensures c.scale-o.ensures (omega (arith, c.well_formed)) c.put_run_ends.ensures c.count_runs.ensures
