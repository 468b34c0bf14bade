-- `reclaim_walk::write_keys` meets its contract. Assumes nothing.
use mathlib.Core.Path.{sym, ap, subst, ◌∙◌}
use mathlib.Core.List.{[]}
use Prim.Native.Nat.{ℕ, ◌+◌, ◌*◌, ◌≤◌}
use native.Mathlib.Omega.{arith}
use lib.ListN.{length}
use Rattle.number.specs.Number.{splice}
use Rattle.walk.specs.State.{bytes_of}
use Rattle.leaf_walk.specs.Join.{join}
use Rattle.reclaim.specs.used_entries.Keys.{Keys, Within, rank, new_keys}
use Rattle.reclaim.specs.reclaim_walk.Walk.{keys_of}
use Rattle.reclaim.proofs.reclaim_walk.Laws.{keys_same, keys_within, entries_far, length_zero}
use Rattle.reclaim.proofs.reclaim_walk.write_keys.Goals as goal

pub write_keys-requires : goal.write_keys-requires
write_keys-requires c =
    let a = c.args in
    let x = join a.plan.now [] a.lengths.now a.places.now a.body.now a.first 0 in
    let k = keys_same x c.width_at-w.ensures c.place-at.ensures c.is_masked-masked.ensures c.place-mask.ensures c.offset_of-off.ensures c.length_of-n.ensures in
    let p = c.requires in
    let room : a.to + c.width_at-w.result * c.length_of-n.result ≤ length a.room.now
    = subst (λ z. a.to + z * c.length_of-n.result ≤ length a.room.now) (sym c.width_at-w.ensures) (subst (λ z. a.to + bytes_of a.plan.now 0 * z ≤ length a.room.now) (sym (c.length_of-n.ensures ∙ length_zero x)) p.first_in_bounds) in
    record { within = (subst Within (sym k) (keys_within x p.first_bound.1), room, omega (arith, entries_far x p.first_bound.1, c.length_of-entries.ensures)); head = λ j l m. p.head j (omega (arith, l, c.length_of-entries.ensures)) m ∙ ap (λ z. rank z j) (sym k) }

pub returns : goal.returns
returns c =
    let a = c.args in
    let x = join a.plan.now [] a.lengths.now a.places.now a.body.now a.first 0 in
    let k = keys_same x c.width_at-w.ensures c.place-at.ensures c.is_masked-masked.ensures c.place-mask.ensures c.offset_of-off.ensures c.length_of-n.ensures in
    c.write_keys.ensures ∙ ap (λ (z : Keys). splice a.to (new_keys z c.length_of-entries.result) a.room.now) k
    ∙ ap (λ (z : ℕ). splice a.to (new_keys (keys_of x) z) a.room.now) c.length_of-entries.ensures
