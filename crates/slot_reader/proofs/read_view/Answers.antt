-- `slot_reader::read_view` meets its contract. Assumes nothing.
use mathlib.Core.Path.{sym, ap, ◌∙◌}
use mathlib.Core.List.{[]}
use native.Mathlib.Omega.{arith}
use Rattle.array_data.specs.Tables.{part, place}
use Rattle.slot_reader.specs.view.Place.{part_of}
use Rattle.array_data.specs.entries.Entries.{column, spot_in}
use Rattle.array_data.proofs.entries.Laws.{room}
use Rattle.slot_reader.specs.Slots.{viewed}
use Rattle.slot_reader.proofs.Laws.{view_out, view_in_lem, bytes_inline, bytes_data}
use Rattle.slot_reader.proofs.read_view.Goals as goal

pub returns-in_default : goal.returns-in_default
returns-in_default c =
    let z = c.args in
    let p = column [] z.places.now [] [] z.first in
    let s = part z.body.now c.place_at-start.result c.place_at-size.result in
    rw (← c.place_at-start.ensures, ← c.place_at-size.ensures) (view_out z.body.now z.buffers.now (place p z.i 7) (place p z.i 8) (spot_in c.place_at-start.result 16 s z.slot) (sym c.find_spot.ensures ∙ c.in_default.is))

pub overflow_add-at : goal.overflow_add-at
overflow_add-at c =
    let z = c.args in
    omega (arith, room z.body.now c.place_at-start.result c.place_at-size.result 16 z.slot _ _ c.find_spot.ensures c.in-Some.is)

pub read-b-requires : goal.read-b-requires
read-b-requires c =
    let z = c.args in
    omega (arith, room z.body.now c.place_at-start.result c.place_at-size.result 16 z.slot _ _ c.find_spot.ensures c.in-Some.is)

pub view_bytes-shown-requires : goal.view_bytes-shown-requires
view_bytes-shown-requires c =
    let z = c.args in
    omega (arith, room z.body.now c.place_at-start.result c.place_at-size.result 16 z.slot _ _ c.find_spot.ensures c.in-Some.is)

pub view_place-requires : goal.view_place-requires
view_place-requires c =
    let z = c.args in
    omega (arith, room z.body.now c.place_at-start.result c.place_at-size.result 16 z.slot _ _ c.find_spot.ensures c.in-Some.is)

pub returns-in-Inline : goal.returns-in-Inline
returns-in-Inline c =
    let z = c.args in
    let p = column [] z.places.now [] [] z.first in
    let s = part z.body.now c.place_at-start.result c.place_at-size.result in
    rw (← c.place_at-start.ensures, ← c.place_at-size.ensures) (bytes_inline z.body.now _ c.view_place.ensures.within _ (c.view_bytes-shown.ensures ∙ ap (part_of z.body.now z.body.now) (sym c.view_place.ensures.value)) _ _ c.in-Inline.is ∙ view_in_lem z.body.now z.buffers.now (place p z.i 7) (place p z.i 8) (spot_in c.place_at-start.result 16 s z.slot) _ _ _ _ _ (sym c.find_spot.ensures ∙ c.in-Some.is) c.read-b.ensures c.data_place-from.ensures c.data_place-len.ensures c.view_place.ensures.value)

pub returns-in-Data : goal.returns-in-Data
returns-in-Data c =
    let z = c.args in
    let p = column [] z.places.now [] [] z.first in
    let s = part z.body.now c.place_at-start.result c.place_at-size.result in
    rw (← c.place_at-start.ensures, ← c.place_at-size.ensures) (bytes_data z.body.now _ c.view_place.ensures.within _ (c.view_bytes-shown.ensures ∙ ap (part_of z.body.now z.body.now) (sym c.view_place.ensures.value)) _ _ c.in-Data.is ∙ view_in_lem z.body.now z.buffers.now (place p z.i 7) (place p z.i 8) (spot_in c.place_at-start.result 16 s z.slot) _ _ _ _ _ (sym c.find_spot.ensures ∙ c.in-Some.is) c.read-b.ensures c.data_place-from.ensures c.data_place-len.ensures c.view_place.ensures.value)

pub returns-in-Outside : goal.returns-in-Outside
returns-in-Outside c =
    let z = c.args in
    let p = column [] z.places.now [] [] z.first in
    let s = part z.body.now c.place_at-start.result c.place_at-size.result in
    rw (← c.place_at-start.ensures, ← c.place_at-size.ensures) (ap viewed (sym c.in-Outside.is) ∙ view_in_lem z.body.now z.buffers.now (place p z.i 7) (place p z.i 8) (spot_in c.place_at-start.result 16 s z.slot) _ _ _ _ _ (sym c.find_spot.ensures ∙ c.in-Some.is) c.read-b.ensures c.data_place-from.ensures c.data_place-len.ensures c.view_place.ensures.value)
