-- `sharing::has_no_null` meets its contract: no validity, no row, a bit that is not there, or the count. Assumes nothing.
use mathlib.Core.Path.{sym, ◌∙◌}
use Rattle.array_data.specs.lent_tables.Lent.{tables}
use Rattle.array_data.proofs.lent_tables.Laws.{is_none, is_some}
use Rattle.plan.proofs.dictionaries.Laws.{count_none, count_empty, absent, absent_by, bytes_are, past_present}
use Rattle.plan.proofs.dictionaries.has_no_null.Goals as goal

pub returns-then-place-eq0 : goal.returns-then-place-eq0
returns-then-place-eq0 c =
    let a = c.args in
    let x = tables a.lengths.now a.places.now a.body.now in
    absent x a.k (count_none x a.k (is_none c.place.ensures c.if-place-eq0.true))

pub returns-then-n-eq0 : goal.returns-then-n-eq0
returns-then-n-eq0 c =
    let a = c.args in
    let x = tables a.lengths.now a.places.now a.body.now in
    absent x a.k (count_empty x a.k (sym c.length_of-n.ensures ∙ c.if-n-eq0.true))

pub returns-then-not-bits_fit : goal.returns-then-not-bits_fit
returns-then-not-bits_fit c =
    let a = c.args in
    let x = tables a.lengths.now a.places.now a.body.now in
    past_present x a.k (is_some c.place.ensures c.if-place-eq0.false) c.bits_fit.ensures c.offset_of-off.ensures c.length_of-n.ensures (bytes_are x a.k c.part_len-bytes.ensures c.place-from.ensures c.place-2.ensures) c.if-n-eq0.false c.if-not-bits_fit.true-raw

pub returns : goal.returns
returns c =
    let a = c.args in
    let x = tables a.lengths.now a.places.now a.body.now in
    absent_by x a.k c.null_count.ensures
