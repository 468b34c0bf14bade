-- `kinds::key_rows` meets its contract. Assumes nothing.
use mathlib.Core.Path.{◌≡◌}
use mathlib.Core.Bool.{true}
use Prim.Native.Nat.{◌+◌, ◌*◌, ◌≤◌}
use native.Mathlib.Omega.{arith}
use lib.Dec.{leb}
use borrow.Author.Tests.{leb-true}
use Rattle.row_rules.specs.slots.Slots.{keys_below, valid_keys_below}
use Rattle.array_data.specs.Tables.{offset_of, length_of, place}
use Rattle.array_data.specs.lent_tables.Lent.{tables}
use Rattle.array_data.proofs.lent_tables.Laws.{first_in, is_none, is_some}
use Rattle.source_rules.specs.kinds.Rows.{key_rows}
use Rattle.source_rules.proofs.kinds.Laws.{fit_is, entries_in, keys_all, keys_valid}
use Rattle.source_rules.proofs.kinds.Links.{valid_inside, valid_fits}
use Rattle.source_rules.proofs.kinds.key_rows.Goals as goal

pub returns-then-not-rows_fit : goal.returns-then-not-rows_fit
unfolding key_rows
returns-then-not-rows_fit g c = rw (fit_is g.N.Unsigned.SIZE (rw c.SIZE.ensures at c.rows_fit.ensures) c.count_of-count.ensures c.place.ensures c.if-not-rows_fit.true)

pub returns-then-place-eq0 : goal.returns-then-place-eq0
returns-then-place-eq0 g c =
    let a = c.args in
    let x = tables a.lengths.now a.places.now a.body.now in
    let w = g.N.Unsigned.SIZE in
    let h : leb ((offset_of x a.k + length_of x a.k) * w) (place x a.k 4) ≡ true = fit_is w (rw c.SIZE.ensures at c.rows_fit.ensures) c.count_of-count.ensures c.place.ensures c.if-not-rows_fit.false in
    let r : c.keys_below.result ≡ keys_below w a.body.now (c.place-2.result + w * c.offset_of-off.result) a.bound c.length_of-n.result = rw c.SIZE-2.ensures at c.keys_below.ensures in
    keys_all x a.k c.place-2.ensures c.offset_of-off.ensures c.length_of-n.ensures w a.bound h (is_none c.place-3.ensures c.if-place-eq0.true) r

pub returns : goal.returns
returns g c =
    let a = c.args in
    let x = tables a.lengths.now a.places.now a.body.now in
    let w = g.N.Unsigned.SIZE in
    let h : leb ((offset_of x a.k + length_of x a.k) * w) (place x a.k 4) ≡ true = fit_is w (rw c.SIZE.ensures at c.rows_fit.ensures) c.count_of-count.ensures c.place.ensures c.if-not-rows_fit.false in
    let r : c.valid_keys_below.result ≡ valid_keys_below w a.body.now (c.place-2.result + w * c.offset_of-off.result) a.bound c.place-from.result c.offset_of-off.result c.length_of-n.result = rw c.SIZE-2.ensures at c.valid_keys_below.ensures in
    keys_valid x a.k c.place-2.ensures c.offset_of-off.ensures c.length_of-n.ensures w a.bound h (is_some c.place-3.ensures c.if-place-eq0.false) c.place-from.ensures r

pub valid_keys_below-requires : goal.valid_keys_below-requires
valid_keys_below-requires g c =
    let a = c.args in
    let x = tables a.lengths.now a.places.now a.body.now in
    let w = g.N.Unsigned.SIZE in
    let h : (offset_of x a.k + length_of x a.k) * w ≤ place x a.k 4 = leb-true _ _ (fit_is w (rw c.SIZE.ensures at c.rows_fit.ensures) c.count_of-count.ensures c.place.ensures c.if-not-rows_fit.false) in
    let i = first_in x a.k c.requires.inside in
    let e = entries_in w (offset_of x a.k) (length_of x a.k) in
    let o : c.SIZE-2.result * c.offset_of-off.result ≡ w * offset_of x a.k = rw (c.SIZE-2.ensures, c.offset_of-off.ensures) in
    let n : w * c.length_of-n.result ≡ w * length_of x a.k = rw c.length_of-n.ensures in
    let z = is_some c.place-3.ensures c.if-place-eq0.false in
    let v = valid_inside x a.k c.requires.inside z in
    let f = valid_fits x a.k c.requires.inside c.requires.masked z in
    (omega (arith, c.place-2.ensures, i, e, h, o, n), omega (arith, v, f, c.place-from.ensures, c.offset_of-off.ensures, c.length_of-n.ensures), omega (arith, c.requires.counted.sum, c.offset_of-off.ensures, c.length_of-n.ensures))
