-- `slot_reader::read_dictionary` meets its contract. Assumes nothing.
use mathlib.Core.Path.{sym, ◌∙◌}
use mathlib.Core.List.{[]}
use Prim.Native.Nat.{suc, ◌+◌}
use native.Mathlib.Numerals.{add-one}
use native.Mathlib.Omega.{arith}
use Rattle.array_data.specs.Tables.{part, offset_of, valid_of}
use Rattle.array_data.specs.entries.Entries.{column, entry_in, valid_in}
use Rattle.slot_reader.specs.Slots.{stored_at, named_at}
use Rattle.slot_reader.proofs.Laws.{keyed_out, keyed_over, named}
use Rattle.slot_reader.proofs.read_dictionary.Goals as goal

pub returns-in_default : goal.returns-in_default
returns-in_default c =
    let z = c.args in
    let y = column [] z.places.now [] z.body.now z.first in
    let s = part z.body.now c.place_at-start.result c.place_at-size.result in
    rw (← c.place_at-start.ensures, ← c.place_at-size.ensures) (keyed_out (offset_of (column z.lengths.now [] [] [] z.first) (suc z.i)) (named_at z.tree.now y (suc z.i)) (entry_in z.w s z.slot) (sym c.read_entry.ensures ∙ c.in_default.is))

pub returns-then-off-key : goal.returns-then-off-key
returns-then-off-key c =
    let z = c.args in
    let y = column [] z.places.now [] z.body.now z.first in
    let s = part z.body.now c.place_at-start.result c.place_at-size.result in
    rw (← c.place_at-start.ensures, ← c.place_at-size.ensures, ← add-one z.i) (keyed_over (offset_of (column z.lengths.now [] [] [] z.first) (z.i + 1)) (named_at z.tree.now y (z.i + 1)) (entry_in z.w s z.slot) _ _ c.offset_at-off.ensures (sym c.read_entry.ensures ∙ c.in-Some.is) (omega arith))

pub returns-in-Valid : goal.returns-in-Valid
returns-in-Valid c =
    let z = c.args in
    let y = column [] z.places.now [] z.body.now z.first in
    let s = part z.body.now c.place_at-start.result c.place_at-size.result in
    let f = stored_at z.tree.now y (z.i + 1) in
    rw (← c.place_at-start.ensures, ← c.place_at-size.ensures, ← add-one z.i) (c.read_stored.ensures ∙ named (offset_of (column z.lengths.now [] [] [] z.first) (z.i + 1)) c.offset_at-off.result _ (valid_in (valid_of y (z.i + 1))) f (entry_in z.w s z.slot) c.offset_at-off.ensures (sym c.read_entry.ensures ∙ c.in-Some.is) (omega arith) _ c.valid_at.ensures _ c.in-Valid.is)

pub returns-in-Null : goal.returns-in-Null
returns-in-Null c =
    let z = c.args in
    let y = column [] z.places.now [] z.body.now z.first in
    let s = part z.body.now c.place_at-start.result c.place_at-size.result in
    let f = stored_at z.tree.now y (z.i + 1) in
    rw (← c.place_at-start.ensures, ← c.place_at-size.ensures, ← add-one z.i) (named (offset_of (column z.lengths.now [] [] [] z.first) (z.i + 1)) c.offset_at-off.result _ (valid_in (valid_of y (z.i + 1))) f (entry_in z.w s z.slot) c.offset_at-off.ensures (sym c.read_entry.ensures ∙ c.in-Some.is) (omega arith) _ c.valid_at.ensures _ c.in-Null.is)

pub returns-in-Outside : goal.returns-in-Outside
returns-in-Outside c =
    let z = c.args in
    let y = column [] z.places.now [] z.body.now z.first in
    let s = part z.body.now c.place_at-start.result c.place_at-size.result in
    let f = stored_at z.tree.now y (z.i + 1) in
    rw (← c.place_at-start.ensures, ← c.place_at-size.ensures, ← add-one z.i) (named (offset_of (column z.lengths.now [] [] [] z.first) (z.i + 1)) c.offset_at-off.result _ (valid_in (valid_of y (z.i + 1))) f (entry_in z.w s z.slot) c.offset_at-off.ensures (sym c.read_entry.ensures ∙ c.in-Some.is) (omega arith) _ c.valid_at.ensures _ c.in-Outside.is)
