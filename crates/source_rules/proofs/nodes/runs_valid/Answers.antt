-- `node_rules::runs_valid` meets its contract. Assumes nothing.
use Rattle.source_rules.specs.nodes.Rows.{runs_valid}
use Rattle.array_data.proofs.lent_tables.Laws.{is_none, is_some}
use mathlib.Core.Path.{sym, ◌∙◌}
use Rattle.source_rules.proofs.nodes.runs_valid.Goals as goal

pub returns-then-not-held : goal.returns-then-not-held
unfolding runs_valid
returns-then-not-held c = rw (sym c.held.ensures ∙ c.if-not-held.true)

pub returns-then-place-ne0 : goal.returns-then-place-ne0
unfolding runs_valid
returns-then-place-ne0 c = rw (sym c.held.ensures ∙ c.if-not-held.false, is_some c.place.ensures c.if-place-ne0.true)

pub returns-then-not-mask_holds : goal.returns-then-not-mask_holds
unfolding runs_valid
returns-then-not-mask_holds c = rw (sym c.held.ensures ∙ c.if-not-held.false, is_none c.place.ensures c.if-place-ne0.false, sym c.mask_holds.ensures ∙ c.if-not-mask_holds.true)

pub returns : goal.returns
unfolding runs_valid
returns c = rw (sym c.held.ensures ∙ c.if-not-held.false, is_none c.place.ensures c.if-place-ne0.false, sym c.mask_holds.ensures ∙ c.if-not-mask_holds.false) c.all_valid.ensures
