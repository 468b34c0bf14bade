-- `gather::put_taken` meets its contract. Assumes nothing.
use mathlib.Core.Path.{refl, sym, ap, ◌∙◌}
use Prim.Native.Nat.{ℕ, ◌+◌}
use native.Mathlib.Omega.{arith}
use lib.ListN.{length}
use Rattle.number.specs.Number.{entry}
use Rattle.walk.specs.State.{rows, scaled}
use Rattle.leaf_walk.specs.Join.{join}
use Rattle.room_writes.proofs.Laws.{made}
use Rattle.batch.specs.batch_walk.Fall.{home_by, takes_of, takes_from}
use Rattle.batch.proofs.batch_walk.PlainLeaf.{plain_wide}
use Rattle.batch.proofs.batch_walk.Gathered.{never, at_in, rows_in_lem, room_in, put_did}
use Rattle.batch.proofs.gather.put_taken.Goals as goal

pub overflow_mul-at : goal.overflow_mul-at
overflow_mul-at c =
    let a = c.args in
    let h : ℕ → ℕ = λ q. home_by a.homes.now a.body.now (a.ids + (a.slot + q)) in
    let p : ℕ → ℕ = λ q. entry 4 a.body.now a.positions (a.slot + q) in
    omega (arith, c.well_formed, c.ranges, at_in (join a.plan.now a.parts.now a.lengths.now a.places.now a.body.now a.first 0) a.k c.requires.first_bound.3 c.requires.first_bound.1 (takes_from h p a.k) (takes_of h a.k) a.n a.w a.end c.requires.first_bound.2 c.requires.total_value.1 (c.reaches.ensures a.plan.now a.parts.now 0) c.if-not-reaches.false-raw c.slot_of-offset.result c.place.result (c.slot_of-offset.ensures a.plan.now a.parts.now a.places.now a.body.now 0) c.place.ensures)

pub overflow_add-at : goal.overflow_add-at
overflow_add-at c =
    let a = c.args in
    let h : ℕ → ℕ = λ q. home_by a.homes.now a.body.now (a.ids + (a.slot + q)) in
    let p : ℕ → ℕ = λ q. entry 4 a.body.now a.positions (a.slot + q) in
    omega (arith, c.well_formed, c.ranges, at_in (join a.plan.now a.parts.now a.lengths.now a.places.now a.body.now a.first 0) a.k c.requires.first_bound.3 c.requires.first_bound.1 (takes_from h p a.k) (takes_of h a.k) a.n a.w a.end c.requires.first_bound.2 c.requires.total_value.1 (c.reaches.ensures a.plan.now a.parts.now 0) c.if-not-reaches.false-raw c.slot_of-offset.result c.place.result (c.slot_of-offset.ensures a.plan.now a.parts.now a.places.now a.body.now 0) c.place.ensures)

pub copy_taken-requires : goal.copy_taken-requires
copy_taken-requires c =
    let a = c.args in
    let h : ℕ → ℕ = λ q. home_by a.homes.now a.body.now (a.ids + (a.slot + q)) in
    let p : ℕ → ℕ = λ q. entry 4 a.body.now a.positions (a.slot + q) in
    record { n_in_bounds = c.requires.n_in_bounds; n_in_bounds_2 = (room_in (join a.plan.now a.parts.now a.lengths.now a.places.now a.body.now a.first 0) a.k c.requires.first_bound.3 c.requires.first_bound.1 (takes_from h p a.k) (takes_of h a.k) a.n a.w a.end c.requires.first_bound.2 c.requires.total_value.1 (c.reaches.ensures a.plan.now a.parts.now 0) c.if-not-reaches.false-raw c.slot_of-offset.result c.place.result (c.slot_of-offset.ensures a.plan.now a.parts.now a.places.now a.body.now 0) c.place.ensures a.counters.now a.room.now (omega (arith, c.requires.first_bound.1, c.told-counters)) (plain_wide a.plan.now a.k c.requires.first_bound.2 c.requires.first_bound.3).0 a.total c.in-Some.to c.scale-o.result c.scale.result a.write c.requires.total_value.0 (omega (arith, c.well_formed)) (made a.plan.now a.parts.now (length a.room.now) a.write a.k 1 c.scale-o.result c.scale.result c.target.ensures c.in-Some.is) (c.scale-o.ensures ∙ ap (λ v. scaled v a.w) c.rows_of.ensures) c.scale.ensures, rows_in_lem (join a.plan.now a.parts.now a.lengths.now a.places.now a.body.now a.first 0) a.k c.requires.first_bound.3 c.requires.first_bound.1 (takes_from h p a.k) (takes_of h a.k) a.n a.w a.end c.requires.first_bound.2 c.requires.total_value.1 (c.reaches.ensures a.plan.now a.parts.now 0) c.if-not-reaches.false-raw c.slot_of-offset.result c.place.result (c.slot_of-offset.ensures a.plan.now a.parts.now a.places.now a.body.now 0) c.place.ensures) }

pub returns-in-Some : goal.returns-in-Some
returns-in-Some c =
    let a = c.args in
    let h : ℕ → ℕ = λ q. home_by a.homes.now a.body.now (a.ids + (a.slot + q)) in
    let p : ℕ → ℕ = λ q. entry 4 a.body.now a.positions (a.slot + q) in
    record { room_value = λ z. never (sym z); did = λ z source. put_did (join a.plan.now a.parts.now a.lengths.now a.places.now a.body.now a.first source) a.k c.requires.first_bound.3 c.requires.first_bound.1 (takes_from h p a.k) (takes_of h a.k) a.n a.w a.end c.requires.first_bound.2 c.requires.total_value.1 (c.reaches.ensures a.plan.now a.parts.now source) c.if-not-reaches.false-raw c.slot_of-offset.result c.place.result (c.slot_of-offset.ensures a.plan.now a.parts.now a.places.now a.body.now source) c.place.ensures a.counters.now a.room.now (omega (arith, c.requires.first_bound.1, c.told-counters)) (plain_wide a.plan.now a.k c.requires.first_bound.2 c.requires.first_bound.3).0 a.total c.in-Some.to c.scale-o.result c.scale.result a.write c.requires.total_value.0 (omega (arith, c.well_formed)) (made a.plan.now a.parts.now (length a.room.now) a.write a.k 1 c.scale-o.result c.scale.result c.target.ensures c.in-Some.is) (c.scale-o.ensures ∙ ap (λ v. scaled v a.w) c.rows_of.ensures) c.scale.ensures c.copy_taken.ensures }

pub returns-in-None : goal.returns-in-None
returns-in-None c = record { room_value = λ z. refl; did = λ z. never z }
