-- `schema::same_type` meets its contract. The invariant: the nodes below `node` are the same. Assumes nothing.
use mathlib.Core.Path.{sym, ◌∙◌}
use native.Mathlib.Omega.{arith}
use borrow.Author.Count.{below_more}
use borrow.Author.Tests.{not-true, not-false}
use Rattle.schema.proofs.Laws.{sizes_differ, nodes_differ, all_same_lem}
use Rattle.schema.proofs.same_type.Goals as goal

pub returns-then-n-n2 : goal.returns-then-n-n2
returns-then-n-n2 c =
    let z = c.args in
    sym (sizes_differ z.formats.now z.schema.now z.first z.n z.first2 z.n2 c.if-n-n2.true)

pub loop-node-init : goal.loop-node-init
loop-node-init c = λ j h. absurd (omega arith)

pub returns-then-not-is_same_node : goal.returns-then-not-is_same_node
returns-then-not-is_same_node c =
    let z = c.args in
    sym (nodes_differ z.formats.now z.schema.now z.first z.n z.first2 z.n2 c.loop-node.node (omega arith) (sym c.is_same_node.ensures ∙ not-true _ c.if-not-is_same_node.true-raw))

pub loop-node-preserved : goal.loop-node-preserved
loop-node-preserved c = (below_more _ _ c.loop-node.invariant (sym c.is_same_node.ensures ∙ not-false _ c.if-not-is_same_node.false-raw))

pub returns : goal.returns
returns c =
    let z = c.args in
    sym (all_same_lem z.formats.now z.schema.now z.first z.n z.first2 z.n2 c.if-n-n2.false (λ j h. c.loop-node.invariant j (omega arith)))
