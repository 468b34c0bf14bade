-- `convert::lists::is_valid` meets its contract. Assumes nothing.
use mathlib.Core.Path.{sym, ◌∙◌}
use Rattle.convert.proofs.Laws.{slot_valid_lem, slot_null, slot_outside}
use Rattle.convert.proofs.lists.is_valid.Goals as goal

pub returns-in-Valid : goal.returns-in-Valid
returns-in-Valid c = let z = c.args in λ plan parts lengths w. slot_valid_lem z.places.now z.body.now z.first z.slot plan parts lengths w (sym c.in-Valid.is ∙ c.valid_at.ensures)

pub returns-in-Null : goal.returns-in-Null
returns-in-Null c = let z = c.args in λ plan parts lengths w. slot_null z.places.now z.body.now z.first z.slot plan parts lengths w (sym c.in-Null.is ∙ c.valid_at.ensures)

pub returns-in-Outside : goal.returns-in-Outside
returns-in-Outside c = let z = c.args in λ plan parts lengths w. slot_outside z.places.now z.body.now z.first z.slot plan parts lengths w (sym c.in-Outside.is ∙ c.valid_at.ensures)
