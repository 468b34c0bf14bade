-- `convert::lists::copy_row` meets its contract. Assumes nothing.
use native.Mathlib.Omega.{arith}
use Rattle.leaf_walk.specs.Join.{join}
use Rattle.convert.proofs.Walked.{copy_six, copy_stop, copy_done, entry_fits, offset_as, size_as}
use Rattle.convert.proofs.lists.copy_row.Goals as goal

pub entry_at-offset-requires : goal.entry_at-offset-requires
entry_at-offset-requires c = let z = c.args in record { w_value = c.requires.w_value; k_in_bounds = entry_fits (join z.plan.now z.parts.now z.lengths.now z.places.now z.body.now z.first 0) z.w z.slot z.r 3 c.place.ensures c.requires.fact.3 }

pub entry_at-size-requires : goal.entry_at-size-requires
entry_at-size-requires c = let z = c.args in record { w_value = c.requires.w_value; k_in_bounds = entry_fits (join z.plan.now z.parts.now z.lengths.now z.places.now z.body.now z.first 0) z.w z.slot z.r 5 c.place-2.ensures c.requires.fact.4 }

pub returns-then-not-sum_fits : goal.returns-then-not-sum_fits
returns-then-not-sum_fits c = let z = c.args in copy_six (join z.plan.now z.parts.now z.lengths.now z.places.now z.body.now z.first 0) z.write z.w z.r z.counters.now z.room.now c.rows_of.ensures (size_as (join z.plan.now z.parts.now z.lengths.now z.places.now z.body.now z.first 0) z.w z.slot z.r c.requires.fact.0 c.place-2.ensures c.entry_at-size.ensures) c.sum_fits.ensures c.if-not-sum_fits.true-raw

pub returns-then-g-ne0 : goal.returns-then-g-ne0
returns-then-g-ne0 c =
    let z = c.args in
    copy_stop (join z.plan.now z.parts.now z.lengths.now z.places.now z.body.now z.first 0) z.write z.w z.r z.counters.now z.room.now c.rows_of.ensures (size_as (join z.plan.now z.parts.now z.lengths.now z.places.now z.body.now z.first 0) z.w z.slot z.r c.requires.fact.0 c.place-2.ensures c.entry_at-size.ensures) c.sum_fits.ensures c.if-not-sum_fits.false-raw (offset_as (join z.plan.now z.parts.now z.lengths.now z.places.now z.body.now z.first 0) z.w z.slot z.r c.requires.fact.0 c.place.ensures c.entry_at-offset.ensures) c.extend-g.ensures c.if-g-ne0.true

pub end_row-requires : goal.end_row-requires
end_row-requires c = record { w_value = c.requires.w_value; r_bound = (let q = c.requires.fact.1 in omega (arith, q), c.requires.fact.2) }

pub returns : goal.returns
returns c =
    let z = c.args in
    copy_done (join z.plan.now z.parts.now z.lengths.now z.places.now z.body.now z.first 0) z.write z.w z.r z.counters.now z.room.now c.rows_of.ensures (size_as (join z.plan.now z.parts.now z.lengths.now z.places.now z.body.now z.first 0) z.w z.slot z.r c.requires.fact.0 c.place-2.ensures c.entry_at-size.ensures) c.sum_fits.ensures c.if-not-sum_fits.false-raw (offset_as (join z.plan.now z.parts.now z.lengths.now z.places.now z.body.now z.first 0) z.w z.slot z.r c.requires.fact.0 c.place.ensures c.entry_at-offset.ensures) c.extend-g.ensures c.if-g-ne0.false (c.end_row.ensures z.lengths.now z.places.now z.body.now z.first)
