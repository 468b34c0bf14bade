-- `stop_walks::nulls::step_dense` meets its contract. Assumes nothing.
use mathlib.Core.Path.{refl, sym, ◌∙◌}
use mathlib.Core.List.{[]}
use native.Mathlib.Omega.{arith}
use Rattle.leaf_walk.specs.Join.{join}
use Rattle.explain.proofs.nulls.Laws.{dense_home, dense_over, dense_below}
use Rattle.explain.proofs.nulls.step_dense.Goals as goal

pub returns-then-h-ge32 : goal.returns-then-h-ge32
returns-then-h-ge32 c =
    let a = c.args in
    λ parts depth. dense_home (join a.plan.now parts [] [] [] 0 0) depth a.i a.n a.counters.now c.null_home-h.ensures.value c.if-h-ge32.true ∙ sym c.homeless.ensures

pub overflow_sub-result : goal.overflow_sub-result
overflow_sub-result c = omega (arith, c.first_position-position.ensures)

pub overflow_sub-result-then-grow-gt-POSITIONS : goal.overflow_sub-result-then-grow-gt-POSITIONS
overflow_sub-result-then-grow-gt-POSITIONS c = omega arith

pub returns-then-grow-gt-POSITIONS : goal.returns-then-grow-gt-POSITIONS
returns-then-grow-gt-POSITIONS c =
    let a = c.args in
    λ parts depth. dense_over (join a.plan.now parts [] [] [] 0 0) depth a.i a.n a.counters.now c.null_home-h.ensures.value c.if-h-ge32.false c.rows_of-child.ensures c.at_most_far.ensures c.grow.ensures c.if-grow-gt-POSITIONS.true c.first_position-position.ensures (omega arith) refl refl

pub returns : goal.returns
returns c =
    let a = c.args in
    λ parts depth. dense_below (join a.plan.now parts [] [] [] 0 0) depth a.i a.n a.counters.now c.null_home-h.ensures.value c.if-h-ge32.false c.rows_of-child.ensures c.at_most_far.ensures c.grow.ensures c.if-grow-gt-POSITIONS.false
