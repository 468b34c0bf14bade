-- `schema::is_within_ceilings` meets its contract. The invariant: the nodes below i are within the ceilings. Assumes nothing.
use mathlib.Core.Path.{sym, ◌∙◌}
use native.Mathlib.Omega.{arith}
use borrow.Author.Count.{below_more}
use borrow.Author.Tests.{not-true, not-false}
use Rattle.schema.proofs.Laws.{too_many, too_wide, too_deep, one_low, low_enough}
use Rattle.schema.proofs.is_within_ceilings.Goals as goal

pub returns-then-n-gt32 : goal.returns-then-n-gt32
returns-then-n-gt32 c =
    let z = c.args in
    sym (too_many z.formats.now z.schema.now z.first z.n c.if-n-gt32.true)

pub loop-i-init : goal.loop-i-init
loop-i-init c = λ j h. absurd (omega arith)

pub returns-then-not-has_few_fields : goal.returns-then-not-has_few_fields
returns-then-not-has_few_fields c =
    let z = c.args in
    sym (too_wide z.formats.now z.schema.now z.first z.n c.loop-i.i (omega arith) (sym c.has_few_fields.ensures ∙ not-true _ c.if-not-has_few_fields.true-raw))

pub returns-then-not-is_shallow : goal.returns-then-not-is_shallow
returns-then-not-is_shallow c =
    let z = c.args in
    sym (too_deep z.formats.now z.schema.now z.first z.n c.loop-i.i (omega arith) (sym c.is_shallow.ensures ∙ not-true _ c.if-not-is_shallow.true-raw))

pub loop-i-preserved : goal.loop-i-preserved
loop-i-preserved c =
    let z = c.args in
    let f = sym c.has_few_fields.ensures ∙ not-false _ c.if-not-has_few_fields.false-raw in
    (below_more _ _ c.loop-i.invariant (one_low z.formats.now z.schema.now z.first z.n c.loop-i.i f (sym c.is_shallow.ensures ∙ not-false _ c.if-not-is_shallow.false-raw)))

pub returns : goal.returns
returns c =
    let z = c.args in
    sym (low_enough z.formats.now z.schema.now z.first z.n c.if-n-gt32.false (λ j h. c.loop-i.invariant j (omega arith)))
