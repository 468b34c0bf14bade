-- `bits::put` meets its contract. Assumes nothing.
use native.Mathlib.Omega.{arith}
use lib.ListN.{get_or}
use Rattle.bits.proofs.Laws.{below_of_lem}
use Rattle.bits.proofs.Steps.{put_lt, put_set}
use Rattle.bits.proofs.put.Goals as goal

pub overflow_cast-room : goal.overflow_cast-room
overflow_cast-room c = omega (arith, c.slice_known-1.given c.args.d)

pub overflow_add-room : goal.overflow_add-room
overflow_add-room c =
    let z = c.args in
    omega (arith, put_lt (get_or z.room.now z.d 0) z.x z.h z.k (omega arith) c.requires.3)

pub overflow_cast-room-4 : goal.overflow_cast-room-4
overflow_cast-room-4 c =
    let z = c.args in
    omega (arith, put_lt (get_or z.room.now z.d 0) z.x z.h z.k (omega arith) c.requires.3)

pub returns : goal.returns
returns c =
    let z = c.args in
    rw c.low-below.ensures (put_set z.d z.h z.k z.x z.room.now (below_of_lem 256 z.room.now (λ i. (c.slice_known-1.given i).fits)) (omega arith) (omega arith) (omega arith) c.requires.3)
