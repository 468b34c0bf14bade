-- `slots::lies_in` meets its contract. Assumes nothing.
use Rattle.std.proofs.Common.{◌+◌, ◌≤◌, length, sym, ◌∙◌, arith, rules, leb-false, leb-true}
use Rattle.row_rules.proofs.slots.Views.{lies_out, lies_past, lies_prefix}
use Rattle.row_rules.proofs.slots.lies_in.Goals as goal

pub returns-then-not-fits : goal.returns-then-not-fits
returns-then-not-fits c =
    let z = c.args in
    lies_out z.body.now z.start z.bytes z.v (omega (arith, leb-false (z.start + z.bytes) (length z.body.now) (sym c.fits.ensures ∙ c.if-not-fits.true)))

pub returns-then-size-offset : goal.returns-then-size-offset
returns-then-size-offset c =
    let z = c.args in
    let h : z.start + z.bytes ≤ length z.body.now = leb-true _ _ (sym c.fits.ensures ∙ c.if-not-fits.false) in
    lies_past z.body.now z.start z.bytes z.v h (omega arith)

pub overflow_add-from : goal.overflow_add-from
overflow_add-from c =
    let z = c.args in
    let h : z.start + z.bytes ≤ length z.body.now = leb-true _ _ (sym c.fits.ensures ∙ c.if-not-fits.false) in
    search rules

pub read-requires : goal.read-requires
read-requires c =
    let z = c.args in
    let h : z.start + z.bytes ≤ length z.body.now = leb-true _ _ (sym c.fits.ensures ∙ c.if-not-fits.false) in
    search rules

pub returns : goal.returns
returns c =
    let z = c.args in
    let h : z.start + z.bytes ≤ length z.body.now = leb-true _ _ (sym c.fits.ensures ∙ c.if-not-fits.false) in
    lies_prefix z.body.now z.start z.bytes z.v h _ (omega arith) c.read.ensures
