-- `buffer_names::write_buffers` meets its contract. The invariant: the data buffers of the first i nodes are written. Assumes nothing.
use Rattle.plan.specs.parts.Parts.{nodes_of}
use Rattle.into_builder.proofs.buffers.Names.{before_none, before_more, before_within, nodes_none, nodes_more, nodes_all}
use native.Mathlib.Omega.{arith}
use Rattle.into_builder.proofs.buffers.write_buffers.Goals as goal

pub loop-i-init : goal.loop-i-init
loop-i-init c =
    let z = c.args in
    (omega (arith, before_none z.plan.now z.sources.now z.places.now), nodes_none z.plan.now z.sources.now z.places.now z.buffers.now z.names.now)

pub node_names-requires : goal.node_names-requires
node_names-requires c =
    let z = c.args in
    let l = c.loop-i in
    let h = before_within z.plan.now z.sources.now z.places.now l.i (nodes_of z.plan.now) (omega (arith, c.node_count-n.ensures.value)) in
    (omega (arith, c.node_count-n.ensures.upper_bound), omega (arith, l.invariant.0, l.invariant.1.same, c.requires))

pub count_at-requires : goal.count_at-requires
count_at-requires c = omega (arith, c.node_count-n.ensures.upper_bound)

pub overflow_mul-at : goal.overflow_mul-at
overflow_mul-at c = omega (arith, c.count_at.ensures.upper_bound)

pub overflow_add-at : goal.overflow_add-at
overflow_add-at c =
    let z = c.args in
    let l = c.loop-i in
    let h = before_within z.plan.now z.sources.now z.places.now l.i (nodes_of z.plan.now) (omega (arith, c.node_count-n.ensures.value)) in
    omega (arith, l.invariant.0, c.requires, c.count_at.ensures.value)

pub loop-i-preserved : goal.loop-i-preserved
loop-i-preserved c =
    let z = c.args in
    let l = c.loop-i in
    (omega (arith, before_more z.plan.now z.sources.now z.places.now l.i, l.invariant.0, c.count_at.ensures.value), nodes_more z.plan.now z.sources.now z.places.now z.buffers.now l.i l.invariant.1 l.invariant.0 c.node_names.ensures)

pub shape_of-names : goal.shape_of-names
shape_of-names c = c.loop-i.invariant.1.same

pub returns : goal.returns
returns c =
    let z = c.args in
    let l = c.loop-i in
    nodes_all z.plan.now z.sources.now z.places.now z.buffers.now (omega (arith, c.node_count-n.ensures.value)) c.requires l.invariant.1
