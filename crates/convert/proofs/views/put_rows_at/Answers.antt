-- `convert::views::put_rows_at` meets its contract. Assumes nothing.
use mathlib.Core.Path.{sym, ap₂, subst, ◌∙◌}
use mathlib.Core.Bool.{true}
use Prim.Native.Nat.{◌+◌, ◌*◌}
use native.Mathlib.Nat.{mul-add}
use native.Mathlib.Omega.{arith}
use lib.ListN.{length}
use Rattle.walk.specs.State.{scaled}
use Rattle.walk.specs.Log.{Did, each}
use Rattle.room_writes.proofs.Laws.{made, times_within}
use Rattle.leaf_walk.specs.Join.{join}
use Rattle.convert.specs.convert_lists.Viewing.{view_row}
use Rattle.room_writes.proofs.Bytes.{width_in_lem}
use Rattle.convert.proofs.Viewed.{root_is}
use Rattle.convert.proofs.Laid.{all_laid, part_at}
use Rattle.convert.proofs.views.put_rows_at.Goals as goal

pub scale-size-requires : goal.scale-size-requires
scale-size-requires c = width_in_lem c.args.w (λ p q. c.requires.w_value)

pub overflow_mul-from : goal.overflow_mul-from
overflow_mul-from c = let a = c.args in omega (arith, mul-add a.w a.slot (a.n + 1), c.requires.fact.2)

pub overflow_add-from : goal.overflow_add-from
overflow_add-from c = let a = c.args in omega (arith, mul-add a.w a.slot (a.n + 1), c.requires.fact.2, c.place.ensures, root_is (join a.plan.now a.parts.now a.lengths.now a.places.now a.body.now a.first 0))

pub lay_rows-requires : goal.lay_rows-requires
lay_rows-requires c =
    let a = c.args in
    let m = made a.plan.now a.parts.now (length a.room.now) true 0 2 0 (scaled a.n a.w) (rw c.scale-size.ensures at c.target.ensures) c.in-Some.is in
    record { w_value = c.requires.w_value; n_in_bounds = (c.requires.at_value.1, times_within a.n a.w m (omega arith), omega (arith, mul-add a.w a.slot (a.n + 1), c.requires.fact.2, c.place.ensures, root_is (join a.plan.now a.parts.now a.lengths.now a.places.now a.body.now a.first 0))) }

pub put_row_by_row-requires : goal.put_row_by_row-requires
put_row_by_row-requires c = record { w_value = c.requires.w_value; fact = c.requires.fact }

pub returns-in-Some : goal.returns-in-Some
returns-in-Some c =
    let a = c.args in
    let x = join a.plan.now a.parts.now a.lengths.now a.places.now a.body.now a.first 0 in
    let m = made a.plan.now a.parts.now (length a.room.now) true 0 2 0 (scaled a.n a.w) (rw c.scale-size.ensures at c.target.ensures) c.in-Some.is in
    subst (λ q. Did a.plan.now a.parts.now true (each (view_row x a.w) a.n 0 a.counters.now) a.room.now 0 a.counters.now q) (sym c.lay_rows.ensures)
    (all_laid x a.w a.at _ _ c.requires.at_value.0 (part_at m.at) (ap₂ (λ y z. y + a.w * z) (c.place.ensures ∙ sym (root_is x)) c.requires.fact.0) a.n a.counters.now a.room.now c.requires.at_value.1 (times_within a.n a.w m (omega (arith, c.well_formed))))

pub returns-in-None : goal.returns-in-None
returns-in-None c = c.put_row_by_row.ensures
