-- `reclaim_walk::put_keys` meets its contract. Assumes nothing.
use mathlib.Core.Path.{sym, ap₂, subst, ◌∙◌}
use mathlib.Core.List.{[]}
use Prim.Native.Nat.{◌*◌}
use native.Mathlib.Omega.{arith}
use lib.ListN.{length}
use Rattle.walk.specs.State.{scaled, length_of}
use Rattle.room_writes.proofs.Laws.{Alike, alike_sized, made, put_at, put_skip}
use Rattle.room_writes.proofs.Bytes.{width_in_lem}
use Rattle.leaf_walk.specs.Join.{join}
use Rattle.reclaim.specs.used_entries.Keys.{KeyWidth, new_keys}
use Rattle.reclaim.specs.reclaim_walk.Walk.{keys_of}
use Rattle.reclaim.proofs.reclaim_walk.Laws.{keys_within, length_zero, length_new, keys_room}
use Rattle.reclaim.proofs.reclaim_walk.put_keys.Goals as goal

pub scale-requires : goal.scale-requires
scale-requires c =
    let a = c.args in
    let x = join a.plan.now [] a.lengths.now a.places.now a.body.now a.first 0 in
    width_in_lem c.width_at-w.result (subst KeyWidth (sym c.width_at-w.ensures) (keys_within x c.requires.first_bound.1).width)

pub write_keys-requires : goal.write_keys-requires
write_keys-requires c =
    let a = c.args in
    let x = join a.plan.now [] a.lengths.now a.places.now a.body.now a.first 0 in
    let w = c.width_at-w in
    let n = c.length_of-n in
    let m = made a.plan.now a.parts.now (length a.room.now) a.write 0 1 0 (scaled n.result w.result) (rw c.scale.ensures at c.target.ensures) c.in-Some.is in
    let p = c.requires in
    record { first_bound = p.first_bound; head = p.head; first_in_bounds = keys_room x m (omega (arith, c.well_formed)) w.ensures (n.ensures ∙ length_zero x) }

pub returns-in-Some : goal.returns-in-Some
returns-in-Some c =
    let a = c.args in
    let x = join a.plan.now [] a.lengths.now a.places.now a.body.now a.first 0 in
    put_at a.plan.now a.parts.now a.write 0 1 0 (new_keys (keys_of x) (length_of x 1)) a.room.now (omega (arith, c.well_formed)) c.target.ensures c.in-Some.is (subst (λ z. Alike z (length (new_keys (keys_of x) (length_of x 1)))) (sym c.scale.ensures) (alike_sized c.length_of-n.result c.width_at-w.result (length_new (keys_of x) (length_of x 1) ∙ ap₂ ◌*◌ (sym c.width_at-w.ensures) (sym (c.length_of-n.ensures ∙ length_zero x))))) c.write_keys.ensures

pub returns-in_default : goal.returns-in_default
returns-in_default c =
    let a = c.args in
    let x = join a.plan.now [] a.lengths.now a.places.now a.body.now a.first 0 in
    put_skip a.plan.now a.parts.now a.write 0 1 0 (new_keys (keys_of x) (length_of x 1)) a.room.now (omega arith) c.target.ensures c.in_default.is (subst (λ z. Alike z (length (new_keys (keys_of x) (length_of x 1)))) (sym c.scale.ensures) (alike_sized c.length_of-n.result c.width_at-w.result (length_new (keys_of x) (length_of x 1) ∙ ap₂ ◌*◌ (sym c.width_at-w.ensures) (sym (c.length_of-n.ensures ∙ length_zero x)))))
