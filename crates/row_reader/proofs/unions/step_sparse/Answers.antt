-- `row_reader::unions::step_sparse` meets its contract. Assumes nothing.
use mathlib.Core.Path.{refl, sym, ◌∙◌}
use Rattle.array_data.specs.Tables.{part}
use Rattle.array_data.specs.entries.Entries.{entry_in}
use Rattle.row_reader.proofs.Laws.{no_id, both_held}
use Rattle.std.specs.Prelude.{Some}
use Rattle.row_reader.proofs.unions.step_sparse.Goals as goal

pub returns-in_default : goal.returns-in_default
returns-in_default c =
    let z = c.args in
    let s = part z.body.now c.place_at-start.result c.place_at-size.result in
    rw (← c.place_at-start.ensures, ← c.place_at-size.ensures) (no_id z.tree.now z.i (entry_in 1 s z.slot) (Some z.slot) (sym c.read_entry.ensures ∙ c.in_default.is))

pub returns : goal.returns
returns c =
    let z = c.args in
    let s = part z.body.now c.place_at-start.result c.place_at-size.result in
    rw (← c.place_at-start.ensures, ← c.place_at-size.ensures) (c.step_into.ensures ∙ both_held z.tree.now z.i (entry_in 1 s z.slot) (Some z.slot) _ _ (sym c.read_entry.ensures ∙ c.in-Some.is) refl)
