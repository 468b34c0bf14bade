-- `lent_tables::fits_behind` meets its contract. Assumes nothing.
use mathlib.Core.Path.{◌≡◌, ap, ◌∙◌}
use Prim.Native.Nat.{◌+◌}
use native.Mathlib.Omega.{arith}
use lib.Dec.{leb}
use borrow.Author.Tests.{leb-true}
use Rattle.array_data.proofs.lent_tables.Laws.{no, yes, behind_no}
use Rattle.array_data.proofs.lent_tables.fits_behind.Goals as goal

pub returns-then-not-fits : goal.returns-then-not-fits
returns-then-not-fits c =
    let a = c.args in
    let e : a.start + (a.at + a.size) ≡ a.start + a.at + a.size = omega arith in
    behind_no a.start (a.at + a.size) a.len (no c.fits.ensures c.if-not-fits.true-raw) ∙ ap (λ k. leb k a.len) e

pub overflow_add-at : goal.overflow_add-at
overflow_add-at c =
    let a = c.args in
    omega (arith, leb-true (a.at + a.size) a.len (yes c.fits.ensures c.if-not-fits.false-raw))

pub returns : goal.returns
returns c =
    let a = c.args in
    let e : a.start + (a.at + a.size) ≡ a.start + a.at + a.size = omega arith in
    c.fits-2.ensures ∙ ap (λ k. leb k a.len) e
