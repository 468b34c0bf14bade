-- `puts::write_repeated` meets its contract. Assumes nothing.
use Rattle.room_writes.proofs.Bytes.{repeated_cut}
use Rattle.room_writes.proofs.variable_size.write_repeated.Goals as goal

pub returns-in-4 : goal.returns-in-4
returns-in-4 c =
    let a = c.args in
    cc (c.in-4.is, repeated_cut 4 a.room.now 0 a.v a.n)

pub returns-in_default : goal.returns-in_default
returns-in_default c =
    let a = c.args in
    rw (c.requires.w_value c.in_default.in_default-own.rest.1) c.repeat_offset-in_default.ensures
