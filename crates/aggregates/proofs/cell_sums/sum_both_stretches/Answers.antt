-- `cell_sums::sum_both_stretches` meets its contract; the loop turns at most once for each stretch of either column. Assumes nothing.
use Rattle.std.proofs.Common.{◌<◌, sym, le_of_eq}
use Rattle.aggregates.specs.cell_sums.Steps.{until_of}
use Rattle.aggregates.proofs.cell_sums.Steps.{fewer_of_both}
use Rattle.aggregates.proofs.cell_sums.Laws.{turn, room, room_of, before_any, at_end, row_low, same_start, stop_low, in_order_lem, further, none_flat, later_flat, both_flat, least_above, least_first, least_second, least_end}
use Rattle.aggregates.proofs.cell_sums.sum_both_stretches.Goals as goal

pub loop-row-init : goal.loop-row-init
loop-row-init c =
    let p = c.no_stretch-p in
    let q = c.no_stretch-q in (
      same_start c.args.start,
      c.requires.start_le_end.0,
      before_any _ c.args.start _ c.nothing-t.ensures,
      before_any _ c.args.start _ c.nothing-u.ensures,
      none_flat _ _ p.result p.ensures.0 p.ensures.1,
      none_flat _ _ q.result q.ensures.0 q.ensures.1,
      le_of_eq (sym p.ensures.0),
      le_of_eq (sym q.ensures.0),
    )

pub next_stretch-p-requires : goal.next_stretch-p-requires
next_stretch-p-requires c =
    let l = c.loop-row in
    record { row_bound = (row_low _ _ c.loop-row-test.true c.requires.start_le_end.1, c.requires.all_ready.0 l.row l.invariant.0 c.loop-row-test.true); flat = l.invariant.4 }

pub next_stretch-q-requires : goal.next_stretch-q-requires
next_stretch-q-requires c =
    let l = c.loop-row in
    record { row_bound = (row_low _ _ c.loop-row-test.true c.requires.start_le_end.1, c.requires.all_ready.1 l.row l.invariant.0 c.loop-row-test.true); flat = l.invariant.5 }

pub masked-requires : goal.masked-requires
masked-requires c = c.next_stretch-p.ensures.1.bounded

pub overflow_sub-stop : goal.overflow_sub-stop
overflow_sub-stop c = in_order_lem _ _ ((let fact : c.loop-row.row < c.min-stop.result = least_above _ _ _ _ _ _ c.min.ensures c.min-stop.ensures c.next_stretch-p.ensures.0 c.next_stretch-q.ensures.0 c.loop-row-test.true in fact))

pub added-t-requires : goal.added-t-requires
added-t-requires c =
    let l = c.loop-row in
    record { count_bound = room_of _ c.masked.ensures.1; n_bound = room _ c.args.start l.row _ _ l.invariant.2 (stop_low _ _ _ ((let fact : c.loop-row.row < c.min-stop.result = least_above _ _ _ _ _ _ c.min.ensures c.min-stop.ensures c.next_stretch-p.ensures.0 c.next_stretch-q.ensures.0 c.loop-row-test.true in fact)) (least_end l.row _ _ _ _ _ c.min.ensures c.min-stop.ensures) c.requires.start_le_end.1) }

pub masked-requires-in-loop-row : goal.masked-requires-in-loop-row
masked-requires-in-loop-row c = c.next_stretch-q.ensures.1.bounded

pub overflow_sub-stop-in-loop-row : goal.overflow_sub-stop-in-loop-row
overflow_sub-stop-in-loop-row c = in_order_lem _ _ ((let fact : c.loop-row.row < c.min-stop.result = least_above _ _ _ _ _ _ c.min.ensures c.min-stop.ensures c.next_stretch-p.ensures.0 c.next_stretch-q.ensures.0 c.loop-row-test.true in fact))

pub added-u-requires : goal.added-u-requires
added-u-requires c =
    let l = c.loop-row in
    record { count_bound = room_of _ c.masked-in-loop-row.ensures.1; n_bound = room _ c.args.start l.row _ _ l.invariant.3 (stop_low _ _ _ ((let fact : c.loop-row.row < c.min-stop.result = least_above _ _ _ _ _ _ c.min.ensures c.min-stop.ensures c.next_stretch-p.ensures.0 c.next_stretch-q.ensures.0 c.loop-row-test.true in fact)) (least_end l.row _ _ _ _ _ c.min.ensures c.min-stop.ensures) c.requires.start_le_end.1) }

pub loop-row-smaller : goal.loop-row-smaller
loop-row-smaller c =
    let l = c.loop-row in
    let p = c.next_stretch-p.ensures in
    let q = c.next_stretch-q.ensures in
    fewer_of_both (until_of c.args.body.now c.args.a) (until_of c.args.body.now c.args.b) c.args.end l.row _ l.p.until l.q.until _ _ _ c.loop-row-test.true l.invariant.6 l.invariant.7 p.0 q.0 p.2 q.2 c.min.ensures c.min-stop.ensures

pub loop-row-preserved : goal.loop-row-preserved
loop-row-preserved c =
    let l = c.loop-row in
    let p = c.next_stretch-p in
    let q = c.next_stretch-q in
    let m = c.masked.ensures in
    let k = c.masked-in-loop-row.ensures in
    let one = least_first l.row _ _ _ _ _ c.min.ensures c.min-stop.ensures in
    let two = least_second l.row _ _ _ _ _ c.min.ensures c.min-stop.ensures in
    let far = in_order_lem _ _ ((let fact : c.loop-row.row < c.min-stop.result = least_above _ _ _ _ _ _ c.min.ensures c.min-stop.ensures c.next_stretch-p.ensures.0 c.next_stretch-q.ensures.0 c.loop-row-test.true in fact)) in (
      further _ _ _ l.invariant.0 ((let fact : c.loop-row.row < c.min-stop.result = least_above _ _ _ _ _ _ c.min.ensures c.min-stop.ensures c.next_stretch-p.ensures.0 c.next_stretch-q.ensures.0 c.loop-row-test.true in fact)),
      least_end l.row _ _ _ _ _ c.min.ensures c.min-stop.ensures,
      turn _ c.args.start l.row _ _ _ _ l.invariant.0 far l.invariant.2 m.1 (both_flat _ _ l.row _ p.result q.result p.ensures.1 q.ensures.1 one two _ m.0) c.added-t.ensures,
      turn _ c.args.start l.row _ _ _ _ l.invariant.0 far l.invariant.3 k.1 (both_flat _ _ l.row _ q.result p.result q.ensures.1 p.ensures.1 two one _ k.0) c.added-u.ensures,
      later_flat _ l.row _ p.result far p.ensures.1,
      later_flat _ l.row _ q.result far q.ensures.1,
      one,
      two,
    )

pub returns : goal.returns
returns c =
    let l = c.loop-row in
    (at_end _ c.args.start l.row _ _ l.invariant.1 c.loop-row-test.false l.invariant.2, at_end _ c.args.start l.row _ _ l.invariant.1 c.loop-row-test.false l.invariant.3)
