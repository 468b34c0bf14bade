-- `batch_walk::numbers::copy_stretch` meets its contract. Assumes nothing.
use mathlib.Core.List.{[]}
use native.Mathlib.Omega.{arith}
use Prim.Native.Nat.{◌+◌, ◌*◌, ◌<◌}
use lib.ListN.{take, drop}
use Rattle.walk.specs.State.{far}
use Rattle.walk.specs.Leaves.{copy_numbers}
use Rattle.leaf_walk.specs.Join.{join}
use Rattle.leaf_walk.proofs.Laws.{rows_in_lem, entries_yes, zero_same}
use Rattle.nested_rows.proofs.lookups.Laws.{slot_rows}
use Rattle.batch.proofs.batch_walk.PlainLeaf.{plain_far, plain_short, plain_done}
use Rattle.batch.proofs.numbers.copy_stretch.Goals as goal

pub returns : goal.returns
unfolding copy_numbers
returns c =
    let a = c.args in
    λ source. plain_done (join a.plan.now a.parts.now a.lengths.now a.places.now a.body.now a.first source) a.k c.requires.5 c.requires.1 a.a a.n a.write a.counters.now a.room.now (c.slot_of-slot.ensures a.plan.now a.parts.now a.places.now a.body.now source) c.if-slot-ge-FAR.false (rw c.requires.4 at (entries_yes (join a.plan.now a.parts.now a.lengths.now a.places.now a.body.now a.first source) a.k a.write a.counters.now a.room.now a.w c.slot_of-slot.result a.n (λ at base. take (a.w * a.n) (drop (at + a.w * c.slot_of-slot.result) a.body.now)) c.place-at.ensures zero_same (c.rows_in.ensures a.plan.now a.parts.now a.lengths.now a.places.now a.first source) c.if-not-rows_in.false-raw c.rows_of.ensures c.scale-o.ensures (omega (arith, c.well_formed)) c.put_few.ensures)) c.add_rows.ensures

pub returns-then-slot-ge-FAR : goal.returns-then-slot-ge-FAR
returns-then-slot-ge-FAR c =
    let a = c.args in
    λ source. plain_far (join a.plan.now a.parts.now a.lengths.now a.places.now a.body.now a.first source) a.k c.requires.5 c.requires.1 a.a a.n a.write a.counters.now a.room.now (c.slot_of-slot.ensures a.plan.now a.parts.now a.places.now a.body.now source) c.if-slot-ge-FAR.true

pub rows_in-requires : goal.rows_in-requires
rows_in-requires c =
    let a = c.args in
    let h : c.slot_of-slot.result + a.n < far = slot_rows (join [] [] a.lengths.now [] [] a.first 0) a.k a.a a.n (c.slot_of-slot.ensures [] [] [] [] 0) c.if-slot-ge-FAR.false in
    omega arith

pub returns-then-not-rows_in : goal.returns-then-not-rows_in
returns-then-not-rows_in c =
    let a = c.args in
    λ source. plain_short (join a.plan.now a.parts.now a.lengths.now a.places.now a.body.now a.first source) a.k c.requires.5 c.requires.1 a.a a.n a.write a.counters.now a.room.now (c.slot_of-slot.ensures a.plan.now a.parts.now a.places.now a.body.now source) c.if-slot-ge-FAR.false c.requires.4 c.place-at.ensures (c.rows_in.ensures a.plan.now a.parts.now a.lengths.now a.places.now a.first source) c.if-not-rows_in.true-raw

pub overflow_mul-from : goal.overflow_mul-from
overflow_mul-from c =
    let a = c.args in
    omega (arith, rows_in_lem (join [] [] [] [] a.body.now 0 0) c.place-at.result a.w c.slot_of-slot.result a.n (c.rows_in.ensures [] [] [] [] 0 0) c.if-not-rows_in.false-raw)

pub overflow_add-from : goal.overflow_add-from
overflow_add-from c =
    let a = c.args in
    omega (arith, rows_in_lem (join [] [] [] [] a.body.now 0 0) c.place-at.result a.w c.slot_of-slot.result a.n (c.rows_in.ensures [] [] [] [] 0 0) c.if-not-rows_in.false-raw)

pub overflow_mul-w : goal.overflow_mul-w
overflow_mul-w c =
    let a = c.args in
    omega (arith, rows_in_lem (join [] [] [] [] a.body.now 0 0) c.place-at.result a.w c.slot_of-slot.result a.n (c.rows_in.ensures [] [] [] [] 0 0) c.if-not-rows_in.false-raw)

pub put_few-requires : goal.put_few-requires
put_few-requires c =
    let a = c.args in
    omega (arith, rows_in_lem (join [] [] [] [] a.body.now 0 0) c.place-at.result a.w c.slot_of-slot.result a.n (c.rows_in.ensures [] [] [] [] 0 0) c.if-not-rows_in.false-raw)
