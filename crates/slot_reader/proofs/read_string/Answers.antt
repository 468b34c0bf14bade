-- `slot_reader::read_string` meets its contract. Assumes nothing.
use mathlib.Core.Path.{sym, ap, ◌∙◌}
use Prim.Native.Nat.{suc}
use native.Mathlib.Numerals.{add-one}
use native.Mathlib.Omega.{arith}
use Rattle.array_data.specs.Tables.{part}
use Rattle.array_data.specs.entries.Entries.{entry_in}
use Rattle.slot_reader.proofs.Laws.{entry_small, both_first, both_second, both_held}
use Rattle.slot_reader.specs.Slots.{stretch_in}
use Rattle.slot_reader.proofs.read_string.Goals as goal

pub returns-in_default : goal.returns-in_default
returns-in_default c =
    let z = c.args in
    let s = part z.body.now c.place_at-start.result c.place_at-size.result in
    rw (← c.place_at-start.ensures, ← c.place_at-size.ensures) (both_first _ (entry_in z.w s z.slot) (entry_in z.w s (suc z.slot)) (sym c.read_entry.ensures ∙ c.in_default.is))

pub overflow_add-slot : goal.overflow_add-slot
overflow_add-slot c =
    let z = c.args in
    omega (arith, entry_small z.body.now c.place_at-start.result c.place_at-size.result z.w z.slot _ _ c.read_entry.ensures c.in-Some.is)

pub returns-in_default-read_entry : goal.returns-in_default-read_entry
returns-in_default-read_entry c =
    let z = c.args in
    let s = part z.body.now c.place_at-start.result c.place_at-size.result in
    rw (← c.place_at-start.ensures, ← c.place_at-size.ensures) (both_second _ (entry_in z.w s z.slot) (entry_in z.w s (suc z.slot)) _ (sym c.read_entry.ensures ∙ c.in-Some.is) (ap (entry_in z.w s) (sym (add-one z.slot)) ∙ sym c.read_entry-2.ensures ∙ c.in_default-read_entry.is))

pub returns : goal.returns
returns c =
    let z = c.args in
    let s = part z.body.now c.place_at-start.result c.place_at-size.result in
    rw (← c.place_at-start.ensures, ← c.place_at-size.ensures, ← c.place_at-from.ensures, ← c.place_at-len.ensures) (c.read_stretch.ensures ∙ both_held (stretch_in c.place_at-from.result (part z.body.now c.place_at-from.result c.place_at-len.result)) (entry_in z.w s z.slot) (entry_in z.w s (suc z.slot)) _ _ (sym c.read_entry.ensures ∙ c.in-Some.is) (ap (entry_in z.w s) (sym (add-one z.slot)) ∙ sym c.read_entry-2.ensures ∙ c.in-Some-read_entry.is))
