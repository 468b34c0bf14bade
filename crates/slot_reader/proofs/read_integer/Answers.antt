-- `slot_reader::read_integer` meets its contract. Assumes nothing.
use mathlib.Core.Path.{sym, ap, ◌∙◌}
use mathlib.Core.List.{[]}
use native.Mathlib.Omega.{arith}
use borrow.Author.Tests.{eq-eqb, ne_eqb}
use Rattle.array_data.specs.entries.Entries.{column}
use Rattle.array_data.specs.node_words.Words.{word}
use Rattle.slot_reader.specs.Slots.{dictionary_read}
use Rattle.slot_reader.proofs.Codes.{code_width_lem}
use Rattle.slot_reader.proofs.read_integer.Goals as goal

pub returns-then-word-ne0 : goal.returns-then-word-ne0
returns-then-word-ne0 c =
    let z = c.args in
    let y = column z.lengths.now z.places.now [] z.body.now z.first in
    rw (ne_eqb (word z.tree.now z.i 1) 0 (λ q. c.if-word-ne0.true (c.word.ensures ∙ q))) (c.read_dictionary.ensures ∙ ap (λ w. dictionary_read z.tree.now y z.i w z.slot) (c.width_of.ensures ∙ code_width_lem z.code (omega arith) (omega arith)))

pub returns : goal.returns
returns c =
    let z = c.args in
    rw (eq-eqb (word z.tree.now z.i 1) 0 (sym c.word.ensures ∙ c.if-word-ne0.false), ← c.place_at-start.ensures, ← c.place_at-size.ensures) c.read_number.ensures
