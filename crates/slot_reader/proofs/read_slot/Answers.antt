-- `slot_reader::read_slot` meets its contract. Assumes nothing.
use mathlib.Core.Path.{sym, ◌∙◌}
use native.Mathlib.Omega.{arith}
use Rattle.array_data.specs.entries.Entries.{column}
use Rattle.slot_reader.proofs.Codes.{range}
use Rattle.slot_reader.proofs.Laws.{slot_fixed, slot_string, slot_view, slot_list_view, slot_list, slot_none}
use Rattle.slot_reader.proofs.read_slot.Goals as goal

pub read_integer-requires : goal.read_integer-requires
read_integer-requires c =
    let h = range 1 10 c.code_word-code.result (sym c.is_fixed.ensures ∙ c.if-is_fixed.true) in
    (omega arith, h.0, h.1)

pub returns-then-is_fixed : goal.returns-then-is_fixed
returns-then-is_fixed c =
    let z = c.args in
    let y = column z.lengths.now z.places.now z.buffers.now z.body.now z.first in
    c.read_integer.ensures ∙ slot_fixed z.tree.now y z.i _ c.code_word-code.ensures z.slot (sym c.is_fixed.ensures ∙ c.if-is_fixed.true)

pub returns-then-is_string : goal.returns-then-is_string
returns-then-is_string c =
    let z = c.args in
    let y = column z.lengths.now z.places.now z.buffers.now z.body.now z.first in
    c.read_string.ensures ∙ slot_string z.tree.now y z.i _ c.code_word-code.ensures z.slot _ (sym c.is_string.ensures ∙ c.if-is_string.true) c.width_of.ensures

pub returns-then-is_view : goal.returns-then-is_view
returns-then-is_view c =
    let z = c.args in
    let y = column z.lengths.now z.places.now z.buffers.now z.body.now z.first in
    c.read_view.ensures ∙ slot_view z.tree.now y z.i _ c.code_word-code.ensures z.slot (sym c.is_view.ensures ∙ c.if-is_view.true)

pub returns-then-is_list_view : goal.returns-then-is_list_view
returns-then-is_list_view c =
    let z = c.args in
    let y = column z.lengths.now z.places.now z.buffers.now z.body.now z.first in
    c.read_list_view.ensures ∙ slot_list_view z.tree.now y z.i _ c.code_word-code.ensures z.slot _ (sym c.is_list_view.ensures ∙ c.if-is_list_view.true) c.width_of-then-is_list_view.ensures

pub returns-then-is_list : goal.returns-then-is_list
returns-then-is_list c =
    let z = c.args in
    let y = column z.lengths.now z.places.now z.buffers.now z.body.now z.first in
    c.read_list.ensures ∙ slot_list z.tree.now y z.i _ c.code_word-code.ensures z.slot _ (sym c.is_list.ensures ∙ c.if-is_list.true) c.width_of-then-is_list.ensures

pub returns : goal.returns
returns c =
    let z = c.args in
    let y = column z.lengths.now z.places.now z.buffers.now z.body.now z.first in
    slot_none z.tree.now y z.i _ c.code_word-code.ensures z.slot (sym c.is_fixed.ensures ∙ c.if-is_fixed.false) (sym c.is_string.ensures ∙ c.if-is_string.false) (sym c.is_view.ensures ∙ c.if-is_view.false) (sym c.is_list_view.ensures ∙ c.if-is_list_view.false) (sym c.is_list.ensures ∙ c.if-is_list.false)
