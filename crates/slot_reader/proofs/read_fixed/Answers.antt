-- `slot_reader::read_fixed` meets its contract. Assumes nothing.
use Rattle.array_data.specs.Tables.{part}
use Rattle.slot_reader.proofs.Laws.{stored_out, stored_in}
use Rattle.slot_reader.proofs.read_fixed.Goals as goal

pub returns-in_default : goal.returns-in_default
returns-in_default c =
    let z = c.args in
    stored_out (part z.body.now z.start z.size) z.start z.w z.slot _ c.find_spot.ensures c.in_default.is

pub returns : goal.returns
returns c =
    let z = c.args in
    stored_in (part z.body.now z.start z.size) z.start z.w z.slot _ c.find_spot.ensures _ c.in-Some.is
