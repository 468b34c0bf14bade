-- `view_row::view_bytes` meets its contract: each arm knows the place that `view_place` answered, and that it lies within. Assumes nothing.
use mathlib.Core.Path.{sym, ap, subst, ◌∙◌}
use native.Mathlib.Omega.{arith}
use native.Mathlib.Nat.{add-sub_cancel_left}
use Rattle.slot_reader.specs.view.Place.{part_of, Within}
use Rattle.slot_reader.proofs.view.view_bytes.Goals as goal

pub overflow_add-result : goal.overflow_add-result
overflow_add-result c = let w = subst (Within _ _) c.in-Inline.is c.view_place.ensures.within in omega arith

pub slice_bounds-result-end : goal.slice_bounds-result-end
slice_bounds-result-end c = subst (Within _ _) c.in-Inline.is c.view_place.ensures.within

pub overflow_add-result-in-Data : goal.overflow_add-result-in-Data
overflow_add-result-in-Data c = let w = subst (Within _ _) c.in-Data.is c.view_place.ensures.within in omega arith

pub slice_bounds-result-end-in-Data : goal.slice_bounds-result-end-in-Data
slice_bounds-result-end-in-Data c = subst (Within _ _) c.in-Data.is c.view_place.ensures.within

pub returns-in-Inline : goal.returns-in-Inline
returns-in-Inline c = rw add-sub_cancel_left (ap (part_of _ _) (sym c.in-Inline.is ∙ c.view_place.ensures.value))

pub returns-in-Data : goal.returns-in-Data
returns-in-Data c = rw add-sub_cancel_left (ap (part_of _ _) (sym c.in-Data.is ∙ c.view_place.ensures.value))

pub returns-in-Outside : goal.returns-in-Outside
returns-in-Outside c = ap (part_of _ _) (sym c.in-Outside.is ∙ c.view_place.ensures.value)
