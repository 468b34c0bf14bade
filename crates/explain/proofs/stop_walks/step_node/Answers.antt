-- `stop_walks::step_node` meets its contract. Assumes nothing.
use mathlib.Core.Path.{refl, sym, ◌∙◌}
use mathlib.Core.List.{[]}
use native.Mathlib.Omega.{arith}
use Rattle.leaf_walk.specs.Join.{join}
use Rattle.nested_rows.proofs.lookups.Laws.{slot_rows}
use Rattle.explain.proofs.stop_walks.Whole.{node_out, node_far, node_mask, node_data}
use Rattle.explain.proofs.stop_walks.step_node.Goals as goal

pub returns-then-i-ge32 : goal.returns-then-i-ge32
returns-then-i-ge32 c =
    let a = c.args in
    let x = join a.plan.now a.parts.now a.lengths.now a.places.now a.body.now a.first a.source in
    node_out x a.depth a.i a.a a.n a.counters.now c.if-i-ge32.true ∙ sym c.plain.ensures

pub returns-then-slot-ge-FAR : goal.returns-then-slot-ge-FAR
returns-then-slot-ge-FAR c =
    let a = c.args in
    let x = join a.plan.now a.parts.now a.lengths.now a.places.now a.body.now a.first a.source in
    node_far x a.depth a.i a.a a.n a.counters.now c.if-i-ge32.false (c.slot_of-slot.ensures a.plan.now a.parts.now a.places.now a.body.now a.source) c.if-slot-ge-FAR.true ∙ sym c.plain-then-slot-ge-FAR.ensures

pub copy_validity-g-requires : goal.copy_validity-g-requires
copy_validity-g-requires c =
    let a = c.args in
    omega (arith, slot_rows (join [] [] a.lengths.now [] [] a.first 0) a.i a.a a.n (c.slot_of-slot.ensures [] [] [] [] 0) c.if-slot-ge-FAR.false)

pub returns-then-g-ne0 : goal.returns-then-g-ne0
returns-then-g-ne0 c =
    let a = c.args in
    let x = join a.plan.now a.parts.now a.lengths.now a.places.now a.body.now a.first a.source in
    node_mask x a.depth a.i a.a a.n a.counters.now c.if-i-ge32.false (c.slot_of-slot.ensures a.plan.now a.parts.now a.places.now a.body.now a.source) c.if-slot-ge-FAR.false refl (λ z. c.if-g-ne0.true ((c.copy_validity-g.ensures a.lengths.now a.source).answer ∙ z)) ∙ sym c.plain-then-g-ne0.ensures

pub step_data-requires : goal.step_data-requires
step_data-requires c =
    let a = c.args in
    omega (arith, slot_rows (join [] [] a.lengths.now [] [] a.first 0) a.i a.a a.n (c.slot_of-slot.ensures [] [] [] [] 0) c.if-slot-ge-FAR.false)

pub returns : goal.returns
returns c =
    let a = c.args in
    let x = join a.plan.now a.parts.now a.lengths.now a.places.now a.body.now a.first a.source in
    node_data x a.depth a.i a.a a.n a.counters.now c.if-i-ge32.false (c.slot_of-slot.ensures a.plan.now a.parts.now a.places.now a.body.now a.source) c.if-slot-ge-FAR.false refl (sym (c.copy_validity-g.ensures a.lengths.now a.source).answer ∙ c.if-g-ne0.false) (c.copy_validity-g.ensures a.lengths.now a.source).counters ∙ c.step_data.ensures
