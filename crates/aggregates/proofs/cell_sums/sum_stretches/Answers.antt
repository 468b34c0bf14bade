-- `cell_sums::sum_stretches` meets its contract; the loop turns at most once for each stretch. Assumes nothing.
use Rattle.std.proofs.Common.{◌<◌}
use Rattle.aggregates.specs.cell_sums.Steps.{until_of}
use Rattle.aggregates.proofs.cell_sums.Steps.{fewer}
use Rattle.aggregates.proofs.cell_sums.Laws.{turn, room, room_of, before_any, at_end, row_low, same_start, stop_above, stop_until, stop_end, stop_low, in_order_lem, further, flat_to}
use Rattle.aggregates.proofs.cell_sums.sum_stretches.Goals as goal

pub loop-row-init : goal.loop-row-init
loop-row-init c = (same_start c.args.start, c.requires.start_le_end.0, before_any _ c.args.start _ c.nothing-t.ensures)

pub find_stretch-s-requires : goal.find_stretch-s-requires
find_stretch-s-requires c =
    let l = c.loop-row in
    (row_low _ _ c.loop-row-test.true c.requires.start_le_end.1, c.requires.all_ready l.row l.invariant.0 c.loop-row-test.true)

pub overflow_sub-stop : goal.overflow_sub-stop
overflow_sub-stop c = in_order_lem _ _ ((let fact : c.loop-row.row < c.min-stop.result = stop_above _ _ _ _ c.min-stop.ensures c.find_stretch-s.ensures.0 c.loop-row-test.true in fact))

pub added-t-requires : goal.added-t-requires
added-t-requires c =
    let l = c.loop-row in
    record { count_bound = room_of _ c.find_stretch-s.ensures.1.bounded; n_bound = room _ c.args.start l.row _ _ l.invariant.2 (stop_low _ _ _ ((let fact : c.loop-row.row < c.min-stop.result = stop_above _ _ _ _ c.min-stop.ensures c.find_stretch-s.ensures.0 c.loop-row-test.true in fact)) (stop_end _ _ _ c.min-stop.ensures) c.requires.start_le_end.1) }

pub loop-row-smaller : goal.loop-row-smaller
loop-row-smaller c =
    fewer (until_of c.args.body.now c.args.n) c.args.end _ _ _ c.loop-row-test.true c.find_stretch-s.ensures.0 c.find_stretch-s.ensures.2 c.min-stop.ensures

pub loop-row-preserved : goal.loop-row-preserved
loop-row-preserved c =
    let l = c.loop-row in
    let f = c.find_stretch-s in
    let w = c.min-stop.ensures in (
      further _ _ _ l.invariant.0 ((let fact : c.loop-row.row < c.min-stop.result = stop_above _ _ _ _ c.min-stop.ensures c.find_stretch-s.ensures.0 c.loop-row-test.true in fact)),
      stop_end _ _ _ w,
      turn _ c.args.start l.row _ _ _ _ l.invariant.0 (in_order_lem _ _ ((let fact : c.loop-row.row < c.min-stop.result = stop_above _ _ _ _ c.min-stop.ensures c.find_stretch-s.ensures.0 c.loop-row-test.true in fact))) l.invariant.2 f.ensures.1.bounded (flat_to _ l.row _ f.result f.ensures.1 (stop_until _ _ _ w)) c.added-t.ensures,
    )

pub returns : goal.returns
returns c = let l = c.loop-row in at_end _ c.args.start l.row _ _ l.invariant.1 c.loop-row-test.false l.invariant.2
