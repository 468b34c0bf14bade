-- `sharing::null_count` meets its contract: no validity, no row, or the zeros among the bits. Assumes nothing.
use mathlib.Core.Path.{sym, ◌∙◌}
use Rattle.array_data.specs.lent_tables.Lent.{tables}
use Rattle.array_data.proofs.lent_tables.Laws.{is_none, is_some}
use Rattle.plan.proofs.dictionaries.Laws.{count_none, count_empty, count_some}
use Rattle.plan.proofs.dictionaries.null_count.Goals as goal

pub returns-then-place-eq0 : goal.returns-then-place-eq0
returns-then-place-eq0 c =
    let a = c.args in
    count_none (tables a.lengths.now a.places.now a.body.now) a.k (is_none c.place.ensures c.if-place-eq0.true)

pub returns-then-n-eq0 : goal.returns-then-n-eq0
returns-then-n-eq0 c =
    let a = c.args in
    count_empty (tables a.lengths.now a.places.now a.body.now) a.k (sym c.length_of-n.ensures ∙ c.if-n-eq0.true)

pub returns : goal.returns
returns c =
    let a = c.args in
    count_some (tables a.lengths.now a.places.now a.body.now) a.k (is_some c.place.ensures c.if-place-eq0.false) c.requires.bits
    c.count_zeros.ensures c.place-from.ensures c.offset_of-off.ensures c.length_of-n.ensures
