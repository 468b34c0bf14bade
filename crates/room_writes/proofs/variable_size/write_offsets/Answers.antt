-- `puts::write_offsets` meets its contract. Assumes nothing.
use Rattle.room_writes.proofs.Bytes.{moved_cut}
use Rattle.room_writes.proofs.variable_size.write_offsets.Goals as goal

pub returns-in-4 : goal.returns-in-4
returns-in-4 c =
    let a = c.args in
    cc (c.in-4.is, moved_cut 4 a.body.now a.from a.last a.n)

pub returns-in_default : goal.returns-in_default
returns-in_default c =
    let a = c.args in
    rw (c.requires.w_value c.in_default.in_default-own.rest.1) c.extend_offsets-in_default.ensures
