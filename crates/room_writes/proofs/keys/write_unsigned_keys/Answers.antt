-- `puts::write_unsigned_keys` meets its contract. Assumes nothing.
use Rattle.room_writes.proofs.Bytes.{rebased_cut}
use Rattle.room_writes.proofs.keys.write_unsigned_keys.Goals as goal

pub returns-in-1 : goal.returns-in-1
returns-in-1 c =
    let a = c.args in
    cc (c.in-1.is, rebased_cut 1 a.body.now a.from a.base a.n)

pub returns-in-2 : goal.returns-in-2
returns-in-2 c =
    let a = c.args in
    cc (c.in-2.is, rebased_cut 2 a.body.now a.from a.base a.n)

pub returns-in-4 : goal.returns-in-4
returns-in-4 c =
    let a = c.args in
    cc (c.in-4.is, rebased_cut 4 a.body.now a.from a.base a.n)

pub returns-in_default : goal.returns-in_default
returns-in_default c =
    let a = c.args in
    rw (c.requires.w_value c.in_default.in_default-own.rest.0.0.1 c.in_default.in_default-own.rest.0.1 c.in_default.in_default-own.rest.1) c.extend_with_offset-in_default.ensures
