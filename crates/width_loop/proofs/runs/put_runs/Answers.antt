-- `width_loop::runs::put_runs` meets its contract. Assumes nothing.
use mathlib.Core.Path.{refl}
use mathlib.Core.List.{[]}
use native.Mathlib.Omega.{arith}
use Rattle.array_data.specs.entries.Entries.{column}
use Rattle.width_loop.proofs.Clips.{ends_as, len_as, narrow, some_runs, runs_found, runs_none, ends_in_lem, range_in_lem, runs_did, range_is}
use Rattle.width_loop.proofs.runs.put_runs.Goals as goal

pub overflow_mul-ends : goal.overflow_mul-ends
overflow_mul-ends c =
    let a = c.args in
    let p = c.requires in
    omega (arith, ends_in_lem (column a.lengths.now a.places.now [] a.body.now a.first) a.i a.w a.s a.n p.runs_here p.i_bound.1 (ends_as (column a.lengths.now a.places.now [] a.body.now a.first) a.i a.w c.place_at.ensures c.offset_at-off.ensures) refl)

pub overflow_add-ends : goal.overflow_add-ends
overflow_add-ends c =
    let a = c.args in
    let p = c.requires in
    omega (arith, ends_in_lem (column a.lengths.now a.places.now [] a.body.now a.first) a.i a.w a.s a.n p.runs_here p.i_bound.1 (ends_as (column a.lengths.now a.places.now [] a.body.now a.first) a.i a.w c.place_at.ensures c.offset_at-off.ensures) refl)

pub runs_of-requires : goal.runs_of-requires
runs_of-requires c =
    let a = c.args in
    let p = c.requires in
    record { w_value = p.w_value.0; n_in_bounds = ends_in_lem (column a.lengths.now a.places.now [] a.body.now a.first) a.i a.w a.s a.n p.runs_here p.i_bound.1 (ends_as (column a.lengths.now a.places.now [] a.body.now a.first) a.i a.w c.place_at.ensures c.offset_at-off.ensures) (len_as (column a.lengths.now a.places.now [] a.body.now a.first) a.i c.length_at-len.ensures) }

pub put_range-requires : goal.put_range-requires
put_range-requires c =
    let a = c.args in
    let p = c.requires in
    let q = runs_found (column a.lengths.now a.places.now [] a.body.now a.first) a.i a.w a.s a.n p.runs_here p.i_bound.1 (ends_as (column a.lengths.now a.places.now [] a.body.now a.first) a.i a.w c.place_at.ensures c.offset_at-off.ensures) (len_as (column a.lengths.now a.places.now [] a.body.now a.first) a.i c.length_at-len.ensures) c.runs_of.ensures c.in-Some.is in
    record { i_bound = (p.i_bound.0, omega (arith, q.1, some_runs (column a.lengths.now a.places.now [] a.body.now a.first) a.i a.w a.s a.n p.runs_here p.i_bound.1), range_in_lem (column a.lengths.now a.places.now [] a.body.now a.first) a.i a.w a.s a.n p.runs_here p.i_bound.1 (ends_as (column a.lengths.now a.places.now [] a.body.now a.first) a.i a.w c.place_at.ensures c.offset_at-off.ensures) q.0 q.1); w_value = p.w_value }

pub returns-in-Some : goal.returns-in-Some
returns-in-Some c =
    let a = c.args in
    let p = c.requires in
    let q = runs_found (column a.lengths.now a.places.now [] a.body.now a.first) a.i a.w a.s a.n p.runs_here p.i_bound.1 (ends_as (column a.lengths.now a.places.now [] a.body.now a.first) a.i a.w c.place_at.ensures c.offset_at-off.ensures) (len_as (column a.lengths.now a.places.now [] a.body.now a.first) a.i c.length_at-len.ensures) c.runs_of.ensures c.in-Some.is in
    record { walks = runs_did (column a.lengths.now a.places.now [] a.body.now a.first) a.i a.w a.s a.n p.runs_here p.i_bound.1 (λ j. (c.shared_slice_known-5-1.given j).fits) (narrow a.w p.w_value.0) a.w2 a.plan.now a.parts.now a.write a.room.now a.counters.now (ends_as (column a.lengths.now a.places.now [] a.body.now a.first) a.i a.w c.place_at.ensures c.offset_at-off.ensures) q.0 q.1 c.put_range.ensures.room_value c.put_range.ensures.counters_value.0; ranges_value = range_is (column a.lengths.now a.places.now [] a.body.now a.first) a.i a.w a.s a.n p.runs_here p.i_bound.1 a.ranges.now q.0 q.1 c.put_range.ensures.counters_value.1 }

pub returns-in-None : goal.returns-in-None
returns-in-None c =
    let a = c.args in
    let p = c.requires in
    absurd (runs_none (column a.lengths.now a.places.now [] a.body.now a.first) a.i a.w a.s a.n p.runs_here p.i_bound.1 (ends_as (column a.lengths.now a.places.now [] a.body.now a.first) a.i a.w c.place_at.ensures c.offset_at-off.ensures) (len_as (column a.lengths.now a.places.now [] a.body.now a.first) a.i c.length_at-len.ensures) c.runs_of.ensures c.in-None.is)
