-- `slot_reader::read_number` meets its contract. Assumes nothing.
use Rattle.array_data.specs.Tables.{part}
use Rattle.slot_reader.proofs.Laws.{number_out, leaf_room, number_in}
use Rattle.slot_reader.proofs.read_number.Goals as goal

pub returns-in_default : goal.returns-in_default
returns-in_default c =
    let z = c.args in
    number_out z.code z.start _ z.slot c.requires.0 c.requires.1 c.width_of.ensures _ (part z.body.now z.start z.size) c.find_spot.ensures c.in_default.is

pub read_leaf-requires : goal.read_leaf-requires
read_leaf-requires c =
    let z = c.args in
    record { le_code = c.requires; code_in_bounds = leaf_room z.code z.start _ z.slot c.requires.0 c.requires.1 c.width_of.ensures _ z.body.now z.size _ c.find_spot.ensures c.in-Some.is }

pub returns : goal.returns
returns c =
    let z = c.args in
    number_in z.code z.start _ z.slot c.requires.0 c.requires.1 c.width_of.ensures _ z.body.now z.size _ c.find_spot.ensures c.in-Some.is _ c.read_leaf.ensures.value
