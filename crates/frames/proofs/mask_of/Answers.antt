-- `frames::mask_of` meets its contract. Assumes nothing.
use mathlib.Core.Path.{sym, subst}
use Prim.Native.Nat.{◌<◌, ◌^◌}
use mathlib.Core.List.{[]}
use Rattle.array_data.specs.lent_tables.Lent.{tables}
use Rattle.frames.proofs.Slots.{mask_none, mask_given}
use Rattle.frames.proofs.mask_of.Goals as goal

pub returns-then-place-eq0 : goal.returns-then-place-eq0
returns-then-place-eq0 c = mask_none (tables [] c.args.places.now []) c.args.k c.place.ensures c.if-place-eq0.true

pub overflow_add-result : goal.overflow_add-result
overflow_add-result c = record { fits = subst (λ z. z.end < 2 ^ 64) (sym (mask_given (tables [] c.args.places.now []) c.args.k c.place.ensures c.if-place-eq0.false c.place-at.ensures c.place-size.ensures)) c.requires.k_bound_2 }

pub returns : goal.returns
returns c = mask_given (tables [] c.args.places.now []) c.args.k c.place.ensures c.if-place-eq0.false c.place-at.ensures c.place-size.ensures
