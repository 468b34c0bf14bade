-- `nodes::list_rule` meets its contract. Assumes nothing.
use mathlib.Core.Path.{sym, ◌∙◌}
use Rattle.array_data.specs.lent_tables.Lent.{tables}
use Rattle.source_rules.proofs.nodes.Laws.{list_last}
use Rattle.source_rules.proofs.nodes.list_rule.Goals as goal

pub returns-then-not-one_in : goal.returns-then-not-one_in
returns-then-not-one_in g c = rw (sym c.one_in.ensures ∙ c.if-not-one_in.true)

pub returns-then-not-mask_holds : goal.returns-then-not-mask_holds
returns-then-not-mask_holds g c = rw (sym c.one_in.ensures ∙ c.if-not-one_in.false, sym c.mask_holds.ensures ∙ c.if-not-mask_holds.true)

pub returns : goal.returns
returns g c =
    let a = c.args in
    let x = tables a.lengths.now a.places.now a.body.now in
    list_last x a.k g.N.Unsigned.SIZE g.met.N.Unsigned.sized.some
    (sym c.one_in.ensures ∙ c.if-not-one_in.false)
    (sym c.mask_holds.ensures ∙ c.if-not-mask_holds.false) c.strings.ensures
    c.place-start.ensures c.place-size.ensures c.offset_of-off.ensures c.length_of-len.ensures c.length_of-child.ensures
