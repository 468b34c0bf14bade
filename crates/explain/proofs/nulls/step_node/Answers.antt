-- `stop_walks::nulls::step_node` meets its contract. Assumes nothing.
use mathlib.Core.Path.{sym, ◌∙◌}
use mathlib.Core.List.{[]}
use Rattle.leaf_walk.specs.Join.{join}
use Rattle.explain.proofs.nulls.Laws.{node_none, node_out, node_data}
use Rattle.explain.proofs.nulls.step_node.Goals as goal

pub returns-then-n-eq0 : goal.returns-then-n-eq0
returns-then-n-eq0 c =
    let a = c.args in
    let x = join a.plan.now a.parts.now [] [] [] 0 0 in
    node_none x a.depth a.i a.n a.counters.now c.if-n-eq0.true

pub returns-then-i-ge32 : goal.returns-then-i-ge32
returns-then-i-ge32 c =
    let a = c.args in
    let x = join a.plan.now a.parts.now [] [] [] 0 0 in
    node_out x a.depth a.i a.n a.counters.now c.if-n-eq0.false c.if-i-ge32.true ∙ sym c.plain.ensures

pub returns : goal.returns
returns c =
    let a = c.args in
    let x = join a.plan.now a.parts.now [] [] [] 0 0 in
    node_data x a.depth a.i a.n a.counters.now c.if-n-eq0.false c.if-i-ge32.false ∙ c.step_data.ensures
