-- `convert::views::put_rows` meets its contract. Assumes nothing.
use mathlib.Core.Bool.{true}
use native.Mathlib.Omega.{arith}
use lib.ListN.{length}
use Rattle.walk.specs.State.{scaled}
use Rattle.room_writes.proofs.Laws.{made, times_within}
use Rattle.room_writes.proofs.Bytes.{width_in_lem}
use Rattle.convert.proofs.Laid.{part_at}
use Rattle.convert.proofs.views.put_rows.Goals as goal

pub scale-size-requires : goal.scale-size-requires
scale-size-requires c = width_in_lem c.args.w (λ p q. c.requires.w_value)

pub put_rows_at-requires : goal.put_rows_at-requires
put_rows_at-requires c =
    let a = c.args in
    let m = made a.plan.now a.parts.now (length a.room.now) true 0 1 0 (scaled a.n a.w) (rw c.scale-size.ensures at c.target.ensures) c.in-Some.is in
    record { w_value = c.requires.w_value; fact = c.requires.fact; at_value = (part_at m.at, times_within a.n a.w m (omega arith)) }

pub put_row_by_row-requires : goal.put_row_by_row-requires
put_row_by_row-requires c = record { w_value = c.requires.w_value; fact = c.requires.fact }

pub returns-in-Some : goal.returns-in-Some
returns-in-Some c = c.put_rows_at.ensures

pub returns-in-None : goal.returns-in-None
returns-in-None c = c.put_row_by_row.ensures
