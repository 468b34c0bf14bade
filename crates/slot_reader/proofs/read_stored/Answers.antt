-- `slot_reader::read_stored` meets its contract. Assumes nothing.
use mathlib.Core.Path.{sym, ◌∙◌}
use mathlib.Core.List.{[]}
use Rattle.array_data.specs.Tables.{part, place, first_buffer, second_buffer}
use Rattle.array_data.specs.entries.Entries.{column}
use Rattle.array_data.proofs.lent_tables.Laws.{no, yes}
use Rattle.slot_reader.proofs.Laws.{stored_string, stored_keys, stored_fixed, stored_none}
use Rattle.slot_reader.proofs.read_stored.Goals as goal

pub returns-then-is_string : goal.returns-then-is_string
returns-then-is_string c =
    let z = c.args in
    let y = column [] z.places.now [] z.body.now z.first in
    c.read_string.ensures ∙ stored_string z.tree.now z.i _ c.code_word-code.ensures (place y z.i 3) (first_buffer y z.i) (place y z.i 5) (second_buffer y z.i) z.slot _ (sym c.is_string.ensures ∙ c.if-is_string.true) c.width_of.ensures

pub returns-then-not-is_fixed : goal.returns-then-not-is_fixed
returns-then-not-is_fixed c =
    let z = c.args in
    let y = column [] z.places.now [] z.body.now z.first in
    stored_none z.tree.now z.i _ c.code_word-code.ensures (place y z.i 3) (first_buffer y z.i) (place y z.i 5) (second_buffer y z.i) z.slot (sym c.is_string.ensures ∙ c.if-is_string.false) (no c.is_fixed.ensures c.if-not-is_fixed.true-raw)

pub returns-then-word-ne0 : goal.returns-then-word-ne0
returns-then-word-ne0 c =
    let z = c.args in
    let y = column [] z.places.now [] z.body.now z.first in
    stored_keys z.tree.now z.i _ c.code_word-code.ensures (place y z.i 3) (first_buffer y z.i) (place y z.i 5) (second_buffer y z.i) z.slot (yes c.is_fixed.ensures c.if-not-is_fixed.false-raw) (λ q. c.if-word-ne0.true (c.word.ensures ∙ q))

pub returns : goal.returns
returns c =
    let z = c.args in
    let y = column [] z.places.now [] z.body.now z.first in
    rw (← c.place_at-start.ensures, ← c.place_at-size.ensures) (c.read_fixed.ensures ∙ stored_fixed z.tree.now z.i _ c.code_word-code.ensures c.place_at-start.result (part z.body.now c.place_at-start.result c.place_at-size.result) (place y z.i 5) (second_buffer y z.i) z.slot _ (yes c.is_fixed.ensures c.if-not-is_fixed.false-raw) (sym c.word.ensures ∙ c.if-word-ne0.false) c.width_of-2.ensures)
