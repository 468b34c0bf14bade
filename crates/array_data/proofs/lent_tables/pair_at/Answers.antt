-- `lent_tables::pair_at` meets its contract. Assumes nothing.
use Prim.Native.Nat.{◌+◌, ◌/◌}
use lib.ListN.{length}
use borrow.Author.Tests.{leb-true}
use Rattle.array_data.proofs.lent_tables.Laws.{no, yes, pair_past}
use borrow.Author.Rules.{rules}
use Rattle.array_data.proofs.lent_tables.pair_at.Goals as goal

pub returns-then-not-fits : goal.returns-then-not-fits
returns-then-not-fits c =
    let a = c.args in
    pair_past a.t.now a.a a.b a.j (no c.fits.ensures c.if-not-fits.true-raw)

pub overflow_add-a : goal.overflow_add-a
overflow_add-a c =
    let a = c.args in
    let h = leb-true (a.a + a.b) (length a.t.now / 2) (yes c.fits.ensures c.if-not-fits.false-raw) in
    search rules

pub overflow_mul-a : goal.overflow_mul-a
overflow_mul-a c =
    let a = c.args in
    let h = leb-true (a.a + a.b) (length a.t.now / 2) (yes c.fits.ensures c.if-not-fits.false-raw) in
    search rules

pub overflow_add-a-2 : goal.overflow_add-a-2
overflow_add-a-2 c =
    let a = c.args in
    let h = leb-true (a.a + a.b) (length a.t.now / 2) (yes c.fits.ensures c.if-not-fits.false-raw) in
    search rules

pub returns : goal.returns
returns c = c.at_u64.ensures
