-- `convert::views::view_rows` meets its contract. Assumes nothing.
use mathlib.Core.Path.{◌≡◌}
use mathlib.Core.Bool.{true, false}
use native.Mathlib.Omega.{arith}
use borrow.Author.Tests.{not-true, not-false}
use Rattle.leaf_walk.specs.Join.{join}
use Rattle.convert.proofs.Walked.{wide_small}
use Rattle.convert.proofs.Viewed.{rows_none, rows_short, rows_all, rows_stand}
use Rattle.convert.proofs.Laid.{rows_tried, did_write}
use Rattle.convert.proofs.views.view_rows.Goals as goal

pub returns-then-n-eq0 : goal.returns-then-n-eq0
returns-then-n-eq0 c = let z = c.args in rows_none (join z.plan.now z.parts.now z.lengths.now z.places.now z.body.now z.first 0) z.write z.w z.n z.counters.now z.room.now c.if-n-eq0.true

pub rows_in-requires : goal.rows_in-requires
rows_in-requires c = let z = c.args in let s = wide_small z.w c.requires.w_value in let q = c.requires.slot_value.1 in (s, omega (arith, q))

pub returns-then-not-rows_in : goal.returns-then-not-rows_in
returns-then-not-rows_in c = let z = c.args in rows_short (join z.plan.now z.parts.now z.lengths.now z.places.now z.body.now z.first 0) z.write z.w z.n z.counters.now z.room.now c.if-n-eq0.false z.slot c.requires.slot_value.0 c.place-at.ensures (c.rows_in.ensures z.plan.now z.parts.now z.lengths.now z.places.now z.first 0) c.if-not-rows_in.true-raw

pub returns-then-not-write : goal.returns-then-not-write
returns-then-not-write c =
    let z = c.args in
    let x = join z.plan.now z.parts.now z.lengths.now z.places.now z.body.now z.first 0 in
    let e : z.write ≡ false = not-true z.write c.if-not-write.true-raw in
    rows_all x z.write z.w z.n z.counters.now z.room.now c.if-n-eq0.false z.slot c.requires.slot_value.0 c.place-at.ensures (c.rows_in.ensures z.plan.now z.parts.now z.lengths.now z.places.now z.first 0) c.if-not-rows_in.false-raw
    (did_write e (rows_tried x z.w z.counters.now z.room.now z.n 0))

pub put_rows-requires : goal.put_rows-requires
put_rows-requires c =
    let z = c.args in
    let x = join z.plan.now z.parts.now z.lengths.now z.places.now z.body.now z.first 0 in
    record { w_value = c.requires.w_value; fact = (c.requires.slot_value.0, c.requires.slot_value.1, rows_stand x z.w z.slot z.n c.place-at.ensures (c.rows_in.ensures z.plan.now z.parts.now z.lengths.now z.places.now z.first 0) c.if-not-rows_in.false-raw) }

pub returns : goal.returns
returns c =
    let z = c.args in
    let x = join z.plan.now z.parts.now z.lengths.now z.places.now z.body.now z.first 0 in
    let e : z.write ≡ true = not-false z.write c.if-not-write.false-raw in
    rows_all x z.write z.w z.n z.counters.now z.room.now c.if-n-eq0.false z.slot c.requires.slot_value.0 c.place-at.ensures (c.rows_in.ensures z.plan.now z.parts.now z.lengths.now z.places.now z.first 0) c.if-not-rows_in.false-raw
    (did_write e c.put_rows.ensures)
