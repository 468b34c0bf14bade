-- `sharing::same_valid` meets its contract. Assumes nothing.
use mathlib.Core.Path.{sym, ◌∙◌}
use Rattle.array_data.specs.lent_tables.Lent.{tables}
use Rattle.plan.proofs.dictionaries.Laws.{begin_none, begin_one, begin_both}
use Rattle.plan.proofs.dictionaries.same_valid.Goals as goal

pub returns-then-has_no_null : goal.returns-then-has_no_null
returns-then-has_no_null c =
    let a = c.args in
    begin_none (tables a.lengths.now a.places.now a.body.now) a.a a.b (sym c.has_no_null.ensures ∙ c.if-has_no_null.true) c.has_no_null-then-has_no_null.ensures

pub returns-then-has_no_null-2 : goal.returns-then-has_no_null-2
returns-then-has_no_null-2 c =
    let a = c.args in
    begin_one (tables a.lengths.now a.places.now a.body.now) a.a a.b (sym c.has_no_null.ensures ∙ c.if-has_no_null.false) (sym c.has_no_null-2.ensures ∙ c.if-has_no_null-2.true)

pub returns : goal.returns
returns c =
    let a = c.args in
    begin_both (tables a.lengths.now a.places.now a.body.now) a.a a.b (sym c.has_no_null.ensures ∙ c.if-has_no_null.false) (sym c.has_no_null-2.ensures ∙ c.if-has_no_null-2.false) c.place.ensures c.place-2.ensures
