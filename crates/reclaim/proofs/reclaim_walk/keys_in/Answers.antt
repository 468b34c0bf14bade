-- `reclaim_walk::keys_in` meets its contract. Assumes nothing.
use mathlib.Core.List.{[]}
use Rattle.leaf_walk.specs.Join.{join}
use Rattle.reclaim.proofs.reclaim_walk.Laws.{in_code, in_sum, in_entries, in_rows_lem, in_none, in_bits, below_far, width_small}
use Rattle.reclaim.proofs.reclaim_walk.keys_in.Goals as goal

pub returns-then-not-is_fixed : goal.returns-then-not-is_fixed
returns-then-not-is_fixed c =
    let a = c.args in
    let x = join a.plan.now [] a.lengths.now a.places.now a.body.now a.first 0 in
    in_code x c.offset_of-off.ensures c.length_of-n.ensures c.code_of.ensures c.is_fixed.ensures c.if-not-is_fixed.true-raw

pub returns-then-grow-ge-FAR : goal.returns-then-grow-ge-FAR
returns-then-grow-ge-FAR c =
    let a = c.args in
    let x = join a.plan.now [] a.lengths.now a.places.now a.body.now a.first 0 in
    in_sum x c.offset_of-off.ensures c.length_of-n.ensures c.code_of.ensures c.is_fixed.ensures c.if-not-is_fixed.false-raw c.grow.ensures c.if-grow-ge-FAR.true

pub returns-then-length_of-ge-FAR : goal.returns-then-length_of-ge-FAR
returns-then-length_of-ge-FAR c =
    let a = c.args in
    let x = join a.plan.now [] a.lengths.now a.places.now a.body.now a.first 0 in
    in_entries x c.offset_of-off.ensures c.length_of-n.ensures c.code_of.ensures c.is_fixed.ensures c.if-not-is_fixed.false-raw c.grow.ensures c.if-grow-ge-FAR.false c.length_of.ensures c.if-length_of-ge-FAR.true

pub rows_in-requires : goal.rows_in-requires
rows_in-requires c =
    (width_small (c.code_of.result) c.code_of.ensures c.is_fixed.ensures c.if-not-is_fixed.false-raw c.width_at-w.ensures, below_far c.offset_of-off.result c.length_of-n.result c.grow.ensures c.if-grow-ge-FAR.false)

pub returns-then-not-rows_in : goal.returns-then-not-rows_in
returns-then-not-rows_in c =
    let a = c.args in
    let x = join a.plan.now [] a.lengths.now a.places.now a.body.now a.first 0 in
    in_rows_lem x c.offset_of-off.ensures c.length_of-n.ensures c.code_of.ensures c.is_fixed.ensures c.if-not-is_fixed.false-raw c.grow.ensures c.if-grow-ge-FAR.false c.length_of.ensures c.if-length_of-ge-FAR.false c.width_at-w.ensures c.place.ensures (c.rows_in.ensures a.plan.now [] a.lengths.now a.places.now a.first 0) c.if-not-rows_in.true-raw

pub returns-then-place-eq0 : goal.returns-then-place-eq0
returns-then-place-eq0 c =
    let a = c.args in
    let x = join a.plan.now [] a.lengths.now a.places.now a.body.now a.first 0 in
    in_none x c.offset_of-off.ensures c.length_of-n.ensures c.code_of.ensures c.is_fixed.ensures c.if-not-is_fixed.false-raw c.grow.ensures c.if-grow-ge-FAR.false c.length_of.ensures c.if-length_of-ge-FAR.false c.width_at-w.ensures c.place.ensures (c.rows_in.ensures a.plan.now [] a.lengths.now a.places.now a.first 0) c.if-not-rows_in.false-raw c.place-2.ensures c.if-place-eq0.true

pub returns : goal.returns
returns c =
    let a = c.args in
    let x = join a.plan.now [] a.lengths.now a.places.now a.body.now a.first 0 in
    in_bits x c.offset_of-off.ensures c.length_of-n.ensures c.code_of.ensures c.is_fixed.ensures c.if-not-is_fixed.false-raw c.grow.ensures c.if-grow-ge-FAR.false c.length_of.ensures c.if-length_of-ge-FAR.false c.width_at-w.ensures c.place.ensures (c.rows_in.ensures a.plan.now [] a.lengths.now a.places.now a.first 0) c.if-not-rows_in.false-raw c.place-2.ensures c.if-place-eq0.false c.place-3.ensures c.bits_fit_behind.ensures
