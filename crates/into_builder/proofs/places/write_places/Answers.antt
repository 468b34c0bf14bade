-- `finished_places::write_places` meets its contract. The invariant: the first q numbers are written. Assumes nothing.
use Prim.Native.Nat.{◌*◌, ◌/◌, ◌%◌, ◌<◌}
use Rattle.plan.specs.parts.Parts.{nodes_of}
use Rattle.refinement.specs.finishing.Finish.{place_at, place_table}
use Rattle.into_builder.specs.buffers.Names.{lent}
use Rattle.into_builder.proofs.buffers.Written.{behind_none, table_more, table_all}
use native.Mathlib.Omega.{arith}
use Rattle.into_builder.proofs.places.write_places.Goals as goal

pub overflow_mul-n : goal.overflow_mul-n
overflow_mul-n c = omega (arith, c.node_count-n.ensures.upper_bound)

pub loop-q-init : goal.loop-q-init
loop-q-init c = λ lengths body buffers room h. behind_none c.args.table.now 0

pub place_at-requires : goal.place_at-requires
place_at-requires c =
    let z = c.args in
    let l = c.loop-q in
    let h : l.q / 9 < nodes_of z.plan.now = omega (arith, c.node_count-n.ensures.value) in
    (h, omega arith, c.requires.1 (l.q / 9) h)

pub offset_bounds-table-q : goal.offset_bounds-table-q
offset_bounds-table-q c = omega (arith, c.node_count-n.ensures.upper_bound)

pub bounds-table-q : goal.bounds-table-q
bounds-table-q c = omega (arith, c.node_count-n.ensures.value, c.loop-q.auto.table, c.requires.0)

pub loop-q-preserved : goal.loop-q-preserved
loop-q-preserved c =
    let z = c.args in
    let l = c.loop-q in
    λ lengths body buffers room h. table_more (λ a. place_at (lent z.plan.now z.parts.now z.sources.now lengths z.places.now body) buffers z.counters.now room z.base (a / 9) (a % 9)) z.table.now l.table l.q _ (omega (arith, c.node_count-n.ensures.value, c.requires.0)) (l.invariant lengths body buffers room h) (c.place_at.ensures lengths body buffers room h)

pub shape_of-table : goal.shape_of-table
shape_of-table c = c.loop-q.auto.table

pub returns : goal.returns
unfolding place_table
returns c =
    let z = c.args in
    let l = c.loop-q in
    λ lengths body buffers room h.
    table_all (λ a. place_at (lent z.plan.now z.parts.now z.sources.now lengths z.places.now body) buffers z.counters.now room z.base (a / 9) (a % 9)) z.table.now l.table l.q (9 * nodes_of z.plan.now) (omega (arith, c.node_count-n.ensures.value)) c.requires.0 (l.invariant lengths body buffers room h)
