-- `cell_sums::sum_cells` meets its contract. Assumes nothing.
use Rattle.std.proofs.Common.{sym, arith}
use Rattle.aggregates.specs.cell_sums.Numbers.{cell_in}
use Rattle.aggregates.proofs.cell_sums.Laws.{turn_one, mask_same, room, room_of, before_any, at_end, next_low}
use Rattle.aggregates.proofs.cell_sums.sum_cells.Goals as goal

pub loop-row-init : goal.loop-row-init
loop-row-init c = before_any _ c.args.start _ c.nothing-t.ensures

pub plain_cell-c-requires : goal.plain_cell-c-requires
plain_cell-c-requires c =
    let l = c.loop-row in
    (c.requires.start_le_end.2, c.requires.all_ready.0 l.row (omega arith) c.loop-row-test.true)

pub plain_cell-d-requires : goal.plain_cell-d-requires
plain_cell-d-requires c =
    let l = c.loop-row in
    (c.requires.start_le_end.3, c.requires.all_ready.1 l.row (omega arith) c.loop-row-test.true)

pub masked-requires : goal.masked-requires
masked-requires c = c.plain_cell-c.ensures.1

pub added-t-requires : goal.added-t-requires
added-t-requires c =
    record { count_bound = room_of _ c.masked.ensures.1; n_bound = room _ c.args.start c.loop-row.row 1 _ c.loop-row.invariant (next_low _ _ c.loop-row-test.true c.requires.start_le_end.1) }

pub loop-row-preserved : goal.loop-row-preserved
loop-row-preserved c =
    let l = c.loop-row in
    let f = cell_in c.args.body.now c.args.a in
    let g = cell_in c.args.body.now c.args.b in
    let p = c.plain_cell-c.ensures in
    let q = c.plain_cell-d.ensures in
    let m = c.masked.ensures in
    turn_one _ c.args.start l.row _ _ _ (omega arith) l.invariant m.1 (mask_same f g _ _ l.row (sym p.0) (sym q.0) _ m.0) c.added-t.ensures

pub returns : goal.returns
returns c =
    let l = c.loop-row in
    at_end _ c.args.start l.row _ _ (omega arith) (omega arith) l.invariant
