-- `target_rules::is_target` meets its contract: the nodes below `node` differ in widths alone. Assumes nothing.
use mathlib.Core.Path.{sym, ◌∙◌}
use native.Mathlib.Omega.{arith}
use borrow.Author.Count.{below_more}
use borrow.Author.Tests.{not-true, not-false}
use Rattle.width_walks.proofs.target_rules.Rules.{other_size, not_low, not_typed, not_like, all_like}
use Rattle.width_walks.proofs.target_rules.is_target.Goals as goal

pub returns-then-n-n2 : goal.returns-then-n-n2
returns-then-n-n2 c =
    let z = c.args in
    sym (other_size z.formats.now z.schema.now z.first z.n z.first2 z.n2 c.if-n-n2.true)

pub returns-then-not-is_within_ceilings : goal.returns-then-not-is_within_ceilings
returns-then-not-is_within_ceilings c =
    let z = c.args in
    sym (not_low z.formats.now z.schema.now z.first z.n z.first2 z.n2 (sym c.is_within_ceilings.ensures ∙ not-true _ c.if-not-is_within_ceilings.true-raw))

pub returns-then-not-is_typed : goal.returns-then-not-is_typed
returns-then-not-is_typed c =
    let z = c.args in
    sym (not_typed z.formats.now z.schema.now z.first z.n z.first2 z.n2 (sym c.is_typed.ensures ∙ not-true _ c.if-not-is_typed.true-raw))

pub loop-node-init : goal.loop-node-init
loop-node-init c = λ j h. absurd (omega arith)

pub returns-then-not-is_like_node : goal.returns-then-not-is_like_node
returns-then-not-is_like_node c =
    let z = c.args in
    sym (not_like z.formats.now z.schema.now z.first z.n z.first2 z.n2 c.loop-node.node (omega arith) (sym c.is_like_node.ensures ∙ not-true _ c.if-not-is_like_node.true-raw))

pub loop-node-preserved : goal.loop-node-preserved
loop-node-preserved c = below_more _ _ c.loop-node.invariant (sym c.is_like_node.ensures ∙ not-false _ c.if-not-is_like_node.false-raw)

pub returns : goal.returns
returns c =
    let z = c.args in
    sym (all_like z.formats.now z.schema.now z.first z.n z.first2 z.n2 c.if-n-n2.false (sym c.is_within_ceilings.ensures ∙ not-false _ c.if-not-is_within_ceilings.false-raw) (sym c.is_typed.ensures ∙ not-false _ c.if-not-is_typed.false-raw) (λ j h. c.loop-node.invariant j (omega arith)))
