-- `slot_reader::read_list` meets its contract. Assumes nothing.
use mathlib.Core.Path.{sym, ap, ◌∙◌}
use mathlib.Core.List.{[]}
use Prim.Native.Nat.{suc}
use native.Mathlib.Numerals.{add-one}
use native.Mathlib.Omega.{arith}
use Rattle.array_data.specs.Tables.{part, length_of}
use Rattle.array_data.specs.entries.Entries.{column, entry_in}
use Rattle.slot_reader.specs.Slots.{rows_in}
use Rattle.slot_reader.proofs.Laws.{entry_small, rows_as, both_first, both_second, both_held}
use Rattle.slot_reader.proofs.read_list.Goals as goal

pub returns-in_default : goal.returns-in_default
returns-in_default c =
    let z = c.args in
    let s = part z.body.now c.place_at-start.result c.place_at-size.result in
    rw (← c.place_at-start.ensures, ← c.place_at-size.ensures) (both_first _ (entry_in z.w s z.slot) (entry_in z.w s (suc z.slot)) (sym c.read_entry.ensures ∙ c.in_default.is))

pub overflow_add-slot : goal.overflow_add-slot
overflow_add-slot c =
    let z = c.args in
    omega (arith, entry_small z.body.now c.place_at-start.result c.place_at-size.result z.w z.slot _ _ c.read_entry.ensures c.in-Some.is)

pub returns-in_default-read_entry : goal.returns-in_default-read_entry
returns-in_default-read_entry c =
    let z = c.args in
    let s = part z.body.now c.place_at-start.result c.place_at-size.result in
    rw (← c.place_at-start.ensures, ← c.place_at-size.ensures) (both_second _ (entry_in z.w s z.slot) (entry_in z.w s (suc z.slot)) _ (sym c.read_entry.ensures ∙ c.in-Some.is) (ap (entry_in z.w s) (sym (add-one z.slot)) ∙ sym c.read_entry-2.ensures ∙ c.in_default-read_entry.is))

pub returns : goal.returns
returns c =
    let z = c.args in
    let s = part z.body.now c.place_at-start.result c.place_at-size.result in
    let y = column z.lengths.now [] [] [] z.first in
    rw (← c.place_at-start.ensures, ← c.place_at-size.ensures)
    (c.rows_of.ensures
    ∙ rows_as _ _ _ _ _ _ (add-one z.i) (c.length_at-rows.ensures ∙ ap (length_of y) (add-one z.i))
    ∙ both_held (rows_in (suc z.i) (length_of y (suc z.i))) (entry_in z.w s z.slot) (entry_in z.w s (suc z.slot)) _ _ (sym c.read_entry.ensures ∙ c.in-Some.is) (ap (entry_in z.w s) (sym (add-one z.slot)) ∙ sym c.read_entry-2.ensures ∙ c.in-Some-read_entry.is))
