-- `cell_sums::sum_blocks` meets its contract. Assumes nothing.
use Rattle.std.proofs.Common.{◌+◌, ◌<◌, ◌≤◌}
use Rattle.aggregates.specs.patterns.Parts.{block_rows}
use Rattle.aggregates.proofs.cell_sums.Laws.{before_any, at_end, nearer, same_start, in_order_lem, further}
use Rattle.aggregates.proofs.cell_sums.Plain.{join_room, join_on, part_ready, block_stop, block_fits, rows_low}
use Rattle.aggregates.proofs.cell_sums.sum_blocks.Goals as goal

pub loop-row-init : goal.loop-row-init
loop-row-init c = (same_start c.args.start, c.requires.start_le_end.0, before_any _ c.args.start _ c.nothing-t.ensures)

pub overflow_add-row : goal.overflow_add-row
overflow_add-row c =
    record { fits = block_fits _ _ c.loop-row-test.true c.requires.start_le_end.1 }

pub sum_block-requires : goal.sum_block-requires
sum_block-requires c =
    let l = c.loop-row in
    record { row_lt_stop = (((let fact : (c.loop-row.row < c.min-stop.result) × (c.min-stop.result ≤ c.loop-row.row + block_rows) × (c.min-stop.result ≤ c.args.end) = block_stop _ _ _ c.min-stop.ensures c.loop-row-test.true in fact)).0, ((let fact : (c.loop-row.row < c.min-stop.result) × (c.min-stop.result ≤ c.loop-row.row + block_rows) × (c.min-stop.result ≤ c.args.end) = block_stop _ _ _ c.min-stop.ensures c.loop-row-test.true in fact)).1, c.requires.start_le_end.2, c.requires.start_le_end.3); all_ready = part_ready c.args.body.now c.args.a c.args.start c.args.end l.row _ c.requires.all_ready l.invariant.0 ((let fact : (c.loop-row.row < c.min-stop.result) × (c.min-stop.result ≤ c.loop-row.row + block_rows) × (c.min-stop.result ≤ c.args.end) = block_stop _ _ _ c.min-stop.ensures c.loop-row-test.true in fact)).2 }

pub joined-t-requires : goal.joined-t-requires
joined-t-requires c =
    let l = c.loop-row in
    join_room l.invariant.2 c.sum_block.ensures (rows_low _ _ _ _ l.invariant.0 (in_order_lem _ _ ((let fact : (c.loop-row.row < c.min-stop.result) × (c.min-stop.result ≤ c.loop-row.row + block_rows) × (c.min-stop.result ≤ c.args.end) = block_stop _ _ _ c.min-stop.ensures c.loop-row-test.true in fact)).0) ((let fact : (c.loop-row.row < c.min-stop.result) × (c.min-stop.result ≤ c.loop-row.row + block_rows) × (c.min-stop.result ≤ c.args.end) = block_stop _ _ _ c.min-stop.ensures c.loop-row-test.true in fact)).2 c.requires.start_le_end.1)

pub loop-row-smaller : goal.loop-row-smaller
loop-row-smaller c = nearer _ _ _ ((let fact : (c.loop-row.row < c.min-stop.result) × (c.min-stop.result ≤ c.loop-row.row + block_rows) × (c.min-stop.result ≤ c.args.end) = block_stop _ _ _ c.min-stop.ensures c.loop-row-test.true in fact)).0 ((let fact : (c.loop-row.row < c.min-stop.result) × (c.min-stop.result ≤ c.loop-row.row + block_rows) × (c.min-stop.result ≤ c.args.end) = block_stop _ _ _ c.min-stop.ensures c.loop-row-test.true in fact)).2

pub loop-row-preserved : goal.loop-row-preserved
loop-row-preserved c =
    let l = c.loop-row in (
      further _ l.row _ l.invariant.0 ((let fact : (c.loop-row.row < c.min-stop.result) × (c.min-stop.result ≤ c.loop-row.row + block_rows) × (c.min-stop.result ≤ c.args.end) = block_stop _ _ _ c.min-stop.ensures c.loop-row-test.true in fact)).0,
      ((let fact : (c.loop-row.row < c.min-stop.result) × (c.min-stop.result ≤ c.loop-row.row + block_rows) × (c.min-stop.result ≤ c.args.end) = block_stop _ _ _ c.min-stop.ensures c.loop-row-test.true in fact)).2,
      join_on _ c.args.start l.row _ _ _ _ l.invariant.0 (in_order_lem _ _ ((let fact : (c.loop-row.row < c.min-stop.result) × (c.min-stop.result ≤ c.loop-row.row + block_rows) × (c.min-stop.result ≤ c.args.end) = block_stop _ _ _ c.min-stop.ensures c.loop-row-test.true in fact)).0) l.invariant.2 c.sum_block.ensures c.joined-t.ensures,
    )

pub returns : goal.returns
returns c =
    let l = c.loop-row in
    at_end _ c.args.start l.row _ _ l.invariant.1 c.loop-row-test.false l.invariant.2
