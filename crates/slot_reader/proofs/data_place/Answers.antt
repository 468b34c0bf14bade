-- `slot_reader::data_place` meets its contract. Assumes nothing.
use mathlib.Core.List.{[]}
use Rattle.array_data.specs.Tables.{place}
use Rattle.array_data.specs.entries.Entries.{column}
use native.Mathlib.Omega.{arith}
use Rattle.slot_reader.proofs.Laws.{no_data, some_data}
use Rattle.slot_reader.proofs.data_place.Goals as goal

pub returns-then-place_at-b : goal.returns-then-place_at-b
returns-then-place_at-b c =
    let z = c.args in
    let p = column [] z.places.now [] [] z.first in
    no_data z.buffers.now (place p z.i 7) (place p z.i 8) z.b z.j _ c.place_at.ensures (omega arith)

pub returns : goal.returns
returns c =
    let z = c.args in
    let p = column [] z.places.now [] [] z.first in
    some_data z.buffers.now (place p z.i 7) (place p z.i 8) z.b z.j _ c.place_at.ensures _ _ c.place_at-a.ensures (omega arith) c.pair_at.ensures
