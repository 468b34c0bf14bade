-- `listed::put_listed` meets its contract. Assumes nothing.
use mathlib.Core.Path.{refl, sym, ap, ◌∙◌}
use Prim.Native.Nat.{ℕ, ◌+◌}
use native.Mathlib.Omega.{arith}
use lib.ListN.{length}
use Rattle.number.specs.Number.{entry}
use Rattle.walk.specs.State.{rows, scaled}
use Rattle.leaf_walk.specs.Join.{join}
use Rattle.room_writes.proofs.Laws.{made}
use Rattle.batch.proofs.batch_walk.PlainLeaf.{plain_wide}
use Rattle.batch.proofs.batch_walk.Gathered.{never, at_in, rows_in_lem, room_in, put_did}
use Rattle.batch.proofs.listed.put_listed.Goals as goal

pub overflow_mul-at : goal.overflow_mul-at
overflow_mul-at c =
    let a = c.args in
    let s : ℕ → ℕ = λ q. entry a.w a.body.now a.offsets (a.slot + q) in
    let z : ℕ → ℕ = λ q. entry a.w a.body.now a.sizes (a.slot + q) in
    omega (arith, c.well_formed, c.ranges, at_in (join a.plan.now a.parts.now a.lengths.now a.places.now a.body.now a.first 0) a.k c.requires.first_bound.3 c.requires.first_bound.1 s z a.n a.v c.furthest-end.result c.requires.first_bound.2 c.furthest-end.ensures (c.reaches.ensures a.plan.now a.parts.now 0) c.if-not-reaches.false-raw c.slot_of-offset.result c.place.result (c.slot_of-offset.ensures a.plan.now a.parts.now a.places.now a.body.now 0) c.place.ensures)

pub overflow_add-at : goal.overflow_add-at
overflow_add-at c =
    let a = c.args in
    let s : ℕ → ℕ = λ q. entry a.w a.body.now a.offsets (a.slot + q) in
    let z : ℕ → ℕ = λ q. entry a.w a.body.now a.sizes (a.slot + q) in
    omega (arith, c.well_formed, c.ranges, at_in (join a.plan.now a.parts.now a.lengths.now a.places.now a.body.now a.first 0) a.k c.requires.first_bound.3 c.requires.first_bound.1 s z a.n a.v c.furthest-end.result c.requires.first_bound.2 c.furthest-end.ensures (c.reaches.ensures a.plan.now a.parts.now 0) c.if-not-reaches.false-raw c.slot_of-offset.result c.place.result (c.slot_of-offset.ensures a.plan.now a.parts.now a.places.now a.body.now 0) c.place.ensures)

pub copy_listed-requires : goal.copy_listed-requires
copy_listed-requires c =
    let a = c.args in
    let s : ℕ → ℕ = λ q. entry a.w a.body.now a.offsets (a.slot + q) in
    let z : ℕ → ℕ = λ q. entry a.w a.body.now a.sizes (a.slot + q) in
    record { n_in_bounds = c.requires.n_in_bounds; w_value = c.requires.w_value; n_in_bounds_2 = (room_in (join a.plan.now a.parts.now a.lengths.now a.places.now a.body.now a.first 0) a.k c.requires.first_bound.3 c.requires.first_bound.1 s z a.n a.v c.furthest-end.result c.requires.first_bound.2 c.furthest-end.ensures (c.reaches.ensures a.plan.now a.parts.now 0) c.if-not-reaches.false-raw c.slot_of-offset.result c.place.result (c.slot_of-offset.ensures a.plan.now a.parts.now a.places.now a.body.now 0) c.place.ensures a.counters.now a.room.now (omega (arith, c.requires.first_bound.1, c.told-counters)) (plain_wide a.plan.now a.k c.requires.first_bound.2 c.requires.first_bound.3).0 a.total c.in-Some.to c.scale-o.result c.scale.result a.write c.requires.total_value (omega (arith, c.well_formed)) (made a.plan.now a.parts.now (length a.room.now) a.write a.k 1 c.scale-o.result c.scale.result c.target.ensures c.in-Some.is) (c.scale-o.ensures ∙ ap (λ q. scaled q a.v) c.rows_of.ensures) c.scale.ensures, rows_in_lem (join a.plan.now a.parts.now a.lengths.now a.places.now a.body.now a.first 0) a.k c.requires.first_bound.3 c.requires.first_bound.1 s z a.n a.v c.furthest-end.result c.requires.first_bound.2 c.furthest-end.ensures (c.reaches.ensures a.plan.now a.parts.now 0) c.if-not-reaches.false-raw c.slot_of-offset.result c.place.result (c.slot_of-offset.ensures a.plan.now a.parts.now a.places.now a.body.now 0) c.place.ensures) }

pub returns-in-Some : goal.returns-in-Some
returns-in-Some c =
    let a = c.args in
    let s : ℕ → ℕ = λ q. entry a.w a.body.now a.offsets (a.slot + q) in
    let z : ℕ → ℕ = λ q. entry a.w a.body.now a.sizes (a.slot + q) in
    record { room_value = λ y. never (sym y); did = λ y source. put_did (join a.plan.now a.parts.now a.lengths.now a.places.now a.body.now a.first source) a.k c.requires.first_bound.3 c.requires.first_bound.1 s z a.n a.v c.furthest-end.result c.requires.first_bound.2 c.furthest-end.ensures (c.reaches.ensures a.plan.now a.parts.now source) c.if-not-reaches.false-raw c.slot_of-offset.result c.place.result (c.slot_of-offset.ensures a.plan.now a.parts.now a.places.now a.body.now source) c.place.ensures a.counters.now a.room.now (omega (arith, c.requires.first_bound.1, c.told-counters)) (plain_wide a.plan.now a.k c.requires.first_bound.2 c.requires.first_bound.3).0 a.total c.in-Some.to c.scale-o.result c.scale.result a.write c.requires.total_value (omega (arith, c.well_formed)) (made a.plan.now a.parts.now (length a.room.now) a.write a.k 1 c.scale-o.result c.scale.result c.target.ensures c.in-Some.is) (c.scale-o.ensures ∙ ap (λ q. scaled q a.v) c.rows_of.ensures) c.scale.ensures c.copy_listed.ensures }

pub returns-in-None : goal.returns-in-None
returns-in-None c = record { room_value = λ z. refl; did = λ z. never z }
