-- `buffer_names::view_names` meets its contract. The invariant: the data buffers of the first s sources are written. Assumes nothing.
use mathlib.Core.Path.{ap, ◌∙◌}
use Prim.Native.Nat.{◌+◌, ◌*◌, min}
use lib.ListN.{get_or}
use Rattle.refinement.specs.orders.Order.{source_count}
use Rattle.into_builder.proofs.buffers.Names.{of_none, of_more, of_within, sources_none, sources_more, sources_all}
use native.Mathlib.Omega.{arith}
use Rattle.into_builder.proofs.buffers.view_names.Goals as goal

pub loop-s-init : goal.loop-s-init
loop-s-init c =
    let z = c.args in
    (omega (arith, of_none z.plan.now z.sources.now z.places.now z.i), sources_none z.plan.now z.sources.now z.places.now z.buffers.now z.names.now z.at z.i)

pub copy_names-requires : goal.copy_names-requires
copy_names-requires c =
    let z = c.args in
    let l = c.loop-s in
    let h = of_within z.plan.now z.sources.now z.places.now z.i l.s (min (source_count z.plan.now) 16) (omega (arith, c.source_count-m.ensures.value)) in
    let e = c.buffers_of-n.ensures.value ∙ ap (λ a. min (get_or z.places.now (9 * a + 8) 0) 33) c.node_of-k.ensures.value in
    omega (arith, l.invariant.1.same, c.requires.1)

pub overflow_add-end : goal.overflow_add-end
overflow_add-end c =
    let z = c.args in
    let l = c.loop-s in
    let h = of_within z.plan.now z.sources.now z.places.now z.i l.s (min (source_count z.plan.now) 16) (omega (arith, c.source_count-m.ensures.value)) in
    let e = c.buffers_of-n.ensures.value ∙ ap (λ a. min (get_or z.places.now (9 * a + 8) 0) 33) c.node_of-k.ensures.value in
    omega (arith, l.invariant.0, c.requires.1)

pub loop-s-preserved : goal.loop-s-preserved
loop-s-preserved c =
    let z = c.args in
    let l = c.loop-s in
    let e = c.buffers_of-n.ensures.value ∙ ap (λ a. min (get_or z.places.now (9 * a + 8) 0) 33) c.node_of-k.ensures.value in
    (omega (arith, of_more z.plan.now z.sources.now z.places.now z.i l.s, l.invariant.0), sources_more z.plan.now z.sources.now z.places.now z.buffers.now z.i l.s l.invariant.1 l.invariant.0 c.node_of-k.ensures.value c.place-from.ensures c.buffers_of-n.ensures.value c.copy_names.ensures)

pub shape_of-names : goal.shape_of-names
shape_of-names c = c.loop-s.invariant.1.same

pub returns : goal.returns
returns c =
    let z = c.args in
    let l = c.loop-s in
    sources_all z.plan.now z.sources.now z.places.now z.buffers.now z.i (omega (arith, c.source_count-m.ensures.value)) l.invariant.1
