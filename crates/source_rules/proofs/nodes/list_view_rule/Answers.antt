-- `nodes::list_view_rule` meets its contract. Assumes nothing.
use mathlib.Core.Path.{sym, ◌∙◌}
use Rattle.array_data.specs.lent_tables.Lent.{tables}
use Rattle.source_rules.proofs.nodes.Laws.{list_view_last}
use Rattle.source_rules.proofs.nodes.list_view_rule.Goals as goal

pub returns-then-not-two_in : goal.returns-then-not-two_in
returns-then-not-two_in g c = rw (sym c.two_in.ensures ∙ c.if-not-two_in.true)

pub returns-then-not-mask_holds : goal.returns-then-not-mask_holds
returns-then-not-mask_holds g c = rw (sym c.two_in.ensures ∙ c.if-not-two_in.false, sym c.mask_holds.ensures ∙ c.if-not-mask_holds.true)

pub returns : goal.returns
returns g c =
    let a = c.args in
    let x = tables a.lengths.now a.places.now a.body.now in
    list_view_last x a.k g.N.Unsigned.SIZE
    (sym c.two_in.ensures ∙ c.if-not-two_in.false) (sym c.mask_holds.ensures ∙ c.if-not-mask_holds.false) c.views.ensures
    c.place-start.ensures c.place-size.ensures c.place-begin.ensures c.place-room.ensures c.offset_of-off.ensures c.length_of-len.ensures c.length_of-child.ensures
