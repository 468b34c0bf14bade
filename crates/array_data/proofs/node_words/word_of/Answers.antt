-- `node_table::word_of` meets its contract. Assumes nothing.
use mathlib.Core.Path.{sym, ◌∙◌}
use native.Mathlib.Omega.{arith}
use Rattle.array_data.proofs.node_words.Laws.{no_node, zeroth, first_word, second_word, third_word, fourth_word, other_word}
use Rattle.array_data.proofs.node_words.word_of.Goals as goal

pub returns-then-n-i : goal.returns-then-n-i
returns-then-n-i c = sym (no_node c.args.formats.now c.args.schema.now c.args.first c.args.n c.args.i c.args.j (omega arith))

pub returns-in-0 : goal.returns-in-0
returns-in-0 c = c.code_of.ensures ∙ sym (zeroth c.args.formats.now c.args.schema.now c.args.first c.args.n c.args.i c.args.j (omega arith) c.in-0.is)

pub returns-in-1 : goal.returns-in-1
returns-in-1 c = c.dictionary_of.ensures ∙ sym (first_word c.args.formats.now c.args.schema.now c.args.first c.args.n c.args.i c.args.j (omega arith) c.in-1.is)

pub returns-in-2 : goal.returns-in-2
returns-in-2 c = c.end_of.ensures ∙ sym (second_word c.args.formats.now c.args.schema.now c.args.first c.args.n c.args.i c.args.j (omega arith) c.in-2.is)

pub returns-in-3 : goal.returns-in-3
returns-in-3 c = c.child_id.ensures ∙ sym (third_word c.args.formats.now c.args.schema.now c.args.first c.args.n c.args.i c.args.j (omega arith) c.in-3.is)

pub returns-in-4 : goal.returns-in-4
returns-in-4 c = c.flag_of.ensures ∙ sym (fourth_word c.args.formats.now c.args.schema.now c.args.first c.args.n c.args.i c.args.j (omega arith) c.in-4.is)

pub returns-in_default : goal.returns-in_default
returns-in_default c =
    let h = c.in_default.in_default-own.rest in
    sym (other_word c.args.formats.now c.args.schema.now c.args.first c.args.n c.args.i c.args.j (omega arith) h.0.0.0.0.1 h.0.0.0.1 h.0.0.1 h.0.1 h.1)
