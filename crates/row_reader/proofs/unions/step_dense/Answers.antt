-- `row_reader::unions::step_dense` meets its contract. Assumes nothing.
use mathlib.Core.Path.{sym, ◌∙◌}
use Rattle.array_data.specs.Tables.{part}
use Rattle.array_data.specs.entries.Entries.{entry_in}
use Rattle.row_reader.proofs.Laws.{no_id, no_row, both_held}
use Rattle.row_reader.proofs.unions.step_dense.Goals as goal

pub returns-in_default : goal.returns-in_default
returns-in_default c =
    let z = c.args in
    let s = part z.body.now c.place_at-start.result c.place_at-size.result in
    rw (← c.place_at-start.ensures, ← c.place_at-size.ensures) (no_id z.tree.now z.i (entry_in 1 s z.slot) _ (sym c.read_entry.ensures ∙ c.in_default.is))

pub returns-in_default-read_entry : goal.returns-in_default-read_entry
returns-in_default-read_entry c =
    let z = c.args in
    let s = part z.body.now c.place_at-start.result c.place_at-size.result in
    let t = part z.body.now c.place_at-from.result c.place_at-room.result in
    rw (← c.place_at-start.ensures, ← c.place_at-size.ensures, ← c.place_at-from.ensures, ← c.place_at-room.ensures) (no_row z.tree.now z.i (entry_in 1 s z.slot) (entry_in 4 t z.slot) _ (sym c.read_entry.ensures ∙ c.in-Some.is) (sym c.read_entry-2.ensures ∙ c.in_default-read_entry.is))

pub returns : goal.returns
returns c =
    let z = c.args in
    let s = part z.body.now c.place_at-start.result c.place_at-size.result in
    let t = part z.body.now c.place_at-from.result c.place_at-room.result in
    rw (← c.place_at-start.ensures, ← c.place_at-size.ensures, ← c.place_at-from.ensures, ← c.place_at-room.ensures) (c.step_into.ensures ∙ both_held z.tree.now z.i (entry_in 1 s z.slot) (entry_in 4 t z.slot) _ _ (sym c.read_entry.ensures ∙ c.in-Some.is) (sym c.read_entry-2.ensures ∙ c.in-Some-read_entry.is))
