-- `finished_counts::write_nulls` meets its contract. The invariant: the first i counts are written. Assumes nothing.
use mathlib.Core.List.{[]}
use Prim.Native.Nat.{◌<◌}
use Rattle.plan.specs.parts.Parts.{nodes_of}
use Rattle.plan.proofs.parts.Placed.{every_at}
use Rattle.refinement.specs.finishing.Finish.{nulls_at, null_table}
use Rattle.into_builder.specs.buffers.Names.{lent}
use Rattle.into_builder.specs.counts.Counts.{kept_of}
use Rattle.into_builder.proofs.buffers.Written.{behind_none, table_more, table_all}
use native.Mathlib.Omega.{arith}
use Rattle.into_builder.proofs.counts.write_nulls.Goals as goal

pub loop-i-init : goal.loop-i-init
loop-i-init c = behind_none c.args.table.now 0

pub nulls_at-requires : goal.nulls_at-requires
nulls_at-requires c =
    let z = c.args in
    let l = c.loop-i in
    let h : l.i < nodes_of z.plan.now = omega (arith, c.node_count-n.ensures.value) in
    (omega (arith, c.node_count-n.ensures.upper_bound), c.requires.1 l.i h, every_at (kept_of z.plan.now z.sources.now z.lengths.now z.places.now z.body.now) (nodes_of z.plan.now) c.requires.2 l.i h)

pub offset_bounds-table-i : goal.offset_bounds-table-i
offset_bounds-table-i c = omega (arith, c.node_count-n.ensures.upper_bound)

pub bounds-table-i : goal.bounds-table-i
bounds-table-i c = omega (arith, c.node_count-n.ensures.value, c.loop-i.invariant.same, c.requires.0)

pub loop-i-preserved : goal.loop-i-preserved
loop-i-preserved c =
    let z = c.args in
    let l = c.loop-i in
    table_more (nulls_at (lent z.plan.now z.parts.now z.sources.now z.lengths.now z.places.now z.body.now) [] z.counters.now z.room.now 0) z.table.now l.table l.i _ (omega (arith, c.node_count-n.ensures.value, c.requires.0)) l.invariant c.nulls_at.ensures

pub shape_of-table : goal.shape_of-table
shape_of-table c = c.loop-i.invariant.same

pub returns : goal.returns
unfolding null_table
returns c =
    let z = c.args in
    let l = c.loop-i in
    table_all (nulls_at (lent z.plan.now z.parts.now z.sources.now z.lengths.now z.places.now z.body.now) [] z.counters.now z.room.now 0) z.table.now l.table l.i (nodes_of z.plan.now) (omega (arith, c.node_count-n.ensures.value)) c.requires.0 l.invariant
