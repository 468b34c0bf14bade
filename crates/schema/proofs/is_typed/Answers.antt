-- `schema::is_typed` meets its contract. The invariant: the nodes below i are of an admitted shape. Assumes nothing.
use mathlib.Core.Path.{sym, ◌∙◌}
use native.Mathlib.Omega.{arith}
use borrow.Author.Count.{below_more}
use borrow.Author.Tests.{not-true, not-false}
use Rattle.schema.proofs.Laws.{not_whole, one_not, all_shaped}
use Rattle.schema.proofs.is_typed.Goals as goal

pub returns-then-not-is_whole : goal.returns-then-not-is_whole
returns-then-not-is_whole c =
    let z = c.args in
    sym (not_whole z.formats.now z.schema.now z.first z.n (sym c.is_whole.ensures ∙ not-true _ c.if-not-is_whole.true-raw))

pub loop-i-init : goal.loop-i-init
loop-i-init c = λ j h. absurd (omega arith)

pub returns-then-not-is_shaped : goal.returns-then-not-is_shaped
returns-then-not-is_shaped c =
    let z = c.args in
    sym (one_not z.formats.now z.schema.now z.first z.n c.loop-i.i (omega arith) (sym c.is_shaped.ensures ∙ not-true _ c.if-not-is_shaped.true-raw))

pub loop-i-preserved : goal.loop-i-preserved
loop-i-preserved c =
    (below_more _ _ c.loop-i.invariant (sym c.is_shaped.ensures ∙ not-false _ c.if-not-is_shaped.false-raw))

pub returns : goal.returns
returns c =
    let z = c.args in
    sym (all_shaped z.formats.now z.schema.now z.first z.n (sym c.is_whole.ensures ∙ not-false _ c.if-not-is_whole.false-raw) (λ j h. c.loop-i.invariant j (omega arith)))
