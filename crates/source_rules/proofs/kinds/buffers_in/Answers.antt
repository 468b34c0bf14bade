-- `kind_rules::buffers_in` meets its contract: the data buffers before i lie in the body. Assumes nothing.
use mathlib.Core.Path.{◌≡◌, refl, sym, ◌∙◌}
use mathlib.Core.Bool.{true}
use mathlib.Core.List.{[]}
use native.Mathlib.Omega.{arith}
use Rattle.columnar.specs.Test.{every}
use Rattle.row_rules.proofs.slots.Laws.{pass}
use Rattle.source_rules.specs.kinds.Rows.{tables_of}
use Rattle.source_rules.proofs.kinds.Laws.{lies, pairs_past, pairs_in, buffers_short, buffers_are, buffers_fail}
use Rattle.source_rules.proofs.kinds.buffers_in.Goals as goal

pub returns-then-not-fits : goal.returns-then-not-fits
returns-then-not-fits c =
    let a = c.args in
    let x = tables_of [] a.places.now a.buffers.now a.body.now in
    buffers_short x a.k c.place-first.ensures c.place-count.ensures (pairs_past _ _ a.buffers.now c.fits.ensures c.if-not-fits.true)

pub loop-i-init : goal.loop-i-init
loop-i-init c = (refl, pairs_in _ _ c.args.buffers.now c.fits.ensures c.if-not-fits.false)

pub returns-then-not-in_body : goal.returns-then-not-in_body
returns-then-not-in_body c =
    let a = c.args in
    let x = tables_of [] a.places.now a.buffers.now a.body.now in
    buffers_fail x a.k c.place-first.ensures c.place-count.ensures (omega arith) c.loop-i.i (omega arith) (sym c.in_body.ensures ∙ c.if-not-in_body.true)

pub loop-i-preserved : goal.loop-i-preserved
loop-i-preserved c =
    let a = c.args in
    (pass (lies a.buffers.now a.body.now c.place-first.result) c.loop-i.i c.loop-i.invariant.0 (sym c.in_body.ensures ∙ c.if-not-in_body.false), c.loop-i.invariant.1)

pub returns : goal.returns
returns c =
    let a = c.args in
    let x = tables_of [] a.places.now a.buffers.now a.body.now in
    let e : c.loop-i.i ≡ c.place-count.result = omega arith in
    let t : true ≡ every (lies a.buffers.now a.body.now c.place-first.result) c.place-count.result = rw e at c.loop-i.invariant.0 in
    buffers_are x a.k c.place-first.ensures c.place-count.ensures (omega arith) t
