-- `buffer_names::node_names` meets its contract. Assumes nothing.
use Rattle.into_builder.proofs.buffers.Names.{count_is, node_not, node_is}
use native.Mathlib.Omega.{arith}
use Rattle.into_builder.proofs.buffers.node_names.Goals as goal

pub view_names-requires : goal.view_names-requires
view_names-requires c =
    let z = c.args in
    (c.requires.0, omega (arith, count_is z.plan.now z.sources.now z.places.now z.i c.code_of.ensures c.is_view.ensures c.if-is_view.true, c.requires.1))

pub shape_of-names : goal.shape_of-names
shape_of-names c = c.view_names.ensures.same

pub returns-then-is_view : goal.returns-then-is_view
returns-then-is_view c =
    let z = c.args in
    node_is z.plan.now z.sources.now z.places.now z.buffers.now z.i c.code_of.ensures c.is_view.ensures c.if-is_view.true c.view_names.ensures

pub returns-else-is_view : goal.returns-else-is_view
returns-else-is_view c =
    let z = c.args in
    node_not z.plan.now z.sources.now z.places.now z.buffers.now z.i z.names.now z.at c.code_of.ensures c.is_view.ensures c.if-is_view.false
