-- `parts::entry_size` meets its contract. Assumes nothing.
use mathlib.Core.Path.{sym, ◌∙◌}
use Rattle.plan.proofs.parts.entry_size.Goals as goal

pub returns-then-is_view : goal.returns-then-is_view
returns-then-is_view c = rw (sym c.is_view.ensures ∙ c.if-is_view.true)

pub returns-then-is_union : goal.returns-then-is_union
returns-then-is_union c = rw (sym c.is_view.ensures ∙ c.if-is_view.false, sym c.is_union.ensures ∙ c.if-is_union.true)

pub returns : goal.returns
returns c = rw (sym c.is_view.ensures ∙ c.if-is_view.false, sym c.is_union.ensures ∙ c.if-is_union.false) c.width_of.ensures
