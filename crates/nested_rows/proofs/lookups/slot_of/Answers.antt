-- `steps::slot_of` meets its contract. Assumes nothing.
use native.Mathlib.Omega.{arith}
use Rattle.walk.specs.State.{grown}
use Rattle.leaf_walk.specs.Join.{join}
use Rattle.nested_rows.proofs.lookups.Laws.{slot_far, slot_near}
use Rattle.nested_rows.proofs.lookups.slot_of.Goals as goal

pub returns-then-end-ge-FAR : goal.returns-then-end-ge-FAR
returns-then-end-ge-FAR c =
    let a = c.args in
    λ plan parts places body source. slot_far (join plan parts a.lengths.now places body a.first source) a.i a.a a.n c.offset_of-offset.ensures c.grow.ensures c.grow-end.ensures c.if-end-ge-FAR.true

pub overflow_add-result : goal.overflow_add-result
unfolding grown
overflow_add-result c = omega (arith, c.grow.ensures, c.grow-end.ensures)

pub returns : goal.returns
returns c =
    let a = c.args in
    λ plan parts places body source. slot_near (join plan parts a.lengths.now places body a.first source) a.i a.a a.n c.offset_of-offset.ensures c.grow.ensures c.grow-end.ensures c.if-end-ge-FAR.false
