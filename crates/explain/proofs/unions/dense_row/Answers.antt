-- `stop_walks::unions::dense_row` meets its contract. Assumes nothing.
use mathlib.Core.Path.{refl}
use native.Mathlib.Omega.{arith}
use native.Mathlib.Numerals.{add-one}
use Rattle.leaf_walk.specs.Join.{join}
use Rattle.explain.proofs.stop_walks.Nodes.{child_is, dense_none, dense_over, dense_into}
use Rattle.explain.proofs.unions.dense_row.Goals as goal

pub overflow_add-at : goal.overflow_add-at
overflow_add-at c = omega (arith, c.place.ensures, c.requires.fact.0)

pub overflow_add-at-2 : goal.overflow_add-at-2
overflow_add-at-2 c = omega (arith, c.place.ensures, c.requires.fact.0, c.well_formed)

pub bounds-body-at : goal.bounds-body-at
bounds-body-at c = omega (arith, c.place.ensures, c.requires.fact.0)

pub child_with-k-requires : goal.child_with-k-requires
child_with-k-requires c = omega (arith, c.end_of.ensures.upper_bound)

pub returns-then-k-ge32 : goal.returns-then-k-ge32
returns-then-k-ge32 c =
    let a = c.args in
    let x = join a.plan.now a.parts.now a.lengths.now a.places.now a.body.now a.first a.source in
    rw c.plain.ensures (dense_none x a.depth a.i a.slot a.r a.counters.now (child_is x a.depth a.i a.slot a.r c.place.ensures refl c.end_of.ensures.value (add-one a.i) c.child_with-k.ensures.value) c.if-k-ge32.true a.counters.now)

pub returns-then-child-ge2147483648 : goal.returns-then-child-ge2147483648
returns-then-child-ge2147483648 c =
    let a = c.args in
    let x = join a.plan.now a.parts.now a.lengths.now a.places.now a.body.now a.first a.source in
    dense_over x a.depth a.i a.slot a.r a.counters.now (child_is x a.depth a.i a.slot a.r c.place.ensures refl c.end_of.ensures.value (add-one a.i) c.child_with-k.ensures.value) c.if-k-ge32.false c.rows_of-child.ensures c.if-child-ge2147483648.true a.counters.now (omega arith)

pub entry_at-position-requires : goal.entry_at-position-requires
entry_at-position-requires c = record { w_value = λ z. absurd (z refl); k_in_bounds = omega (arith, c.place-2.ensures, c.requires.fact.1) }

pub step_into-requires : goal.step_into-requires
step_into-requires c = (c.requires.first_bound.0, c.requires.first_bound.1)

pub returns : goal.returns
returns c =
    let a = c.args in
    let x = join a.plan.now a.parts.now a.lengths.now a.places.now a.body.now a.first a.source in
    dense_into x a.depth a.i a.slot a.r a.counters.now (child_is x a.depth a.i a.slot a.r c.place.ensures refl c.end_of.ensures.value (add-one a.i) c.child_with-k.ensures.value) c.if-k-ge32.false c.rows_of-child.ensures c.if-child-ge2147483648.false (rw c.place-2.ensures at c.entry_at-position.ensures) c.step_into.result c.step_into.ensures
