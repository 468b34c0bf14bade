-- `slot_reader::read_list_view` meets its contract. Assumes nothing.
use mathlib.Core.Path.{sym, ap, ◌∙◌}
use Prim.Native.Nat.{suc}
use native.Mathlib.Numerals.{add-one}
use Rattle.array_data.specs.Tables.{part}
use Rattle.array_data.specs.entries.Entries.{entry_in}
use Rattle.slot_reader.proofs.Laws.{both_first, both_second, both_held}
use Rattle.slot_reader.specs.declared.RowRead.TheVariants as row
use Rattle.slot_reader.proofs.read_list_view.Goals as goal

pub returns-in_default : goal.returns-in_default
returns-in_default c =
    let z = c.args in
    let s = part z.body.now c.place_at-start.result c.place_at-size.result in
    rw (← c.place_at-start.ensures, ← c.place_at-size.ensures) (both_first (λ a n. row.List (suc z.i) a n) (entry_in z.w s z.slot) _ (sym c.read_entry.ensures ∙ c.in_default.is))

pub returns-in_default-read_entry : goal.returns-in_default-read_entry
returns-in_default-read_entry c =
    let z = c.args in
    let s = part z.body.now c.place_at-start.result c.place_at-size.result in
    let t = part z.body.now c.place_at-from.result c.place_at-room.result in
    rw (← c.place_at-start.ensures, ← c.place_at-size.ensures, ← c.place_at-from.ensures, ← c.place_at-room.ensures) (both_second (λ a n. row.List (suc z.i) a n) (entry_in z.w s z.slot) (entry_in z.w t z.slot) _ (sym c.read_entry.ensures ∙ c.in-Some.is) (sym c.read_entry-2.ensures ∙ c.in_default-read_entry.is))

pub returns : goal.returns
returns c =
    let z = c.args in
    let s = part z.body.now c.place_at-start.result c.place_at-size.result in
    let t = part z.body.now c.place_at-from.result c.place_at-room.result in
    rw (← c.place_at-start.ensures, ← c.place_at-size.ensures, ← c.place_at-from.ensures, ← c.place_at-room.ensures) (ap (λ k. row.List k c.in-Some.a c.in-Some-read_entry.n) (add-one z.i) ∙ both_held (λ a n. row.List (suc z.i) a n) (entry_in z.w s z.slot) (entry_in z.w t z.slot) _ _ (sym c.read_entry.ensures ∙ c.in-Some.is) (sym c.read_entry-2.ensures ∙ c.in-Some-read_entry.is))
