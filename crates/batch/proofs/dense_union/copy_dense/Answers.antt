-- `dense_union::copy_dense` meets its contract. Assumes nothing.
use mathlib.Core.Path.{refl}
use Prim.Native.Nat.{ℕ}
use native.Mathlib.Omega.{arith}
use Rattle.array_data.proofs.lent_tables.Laws.{yes}
use Rattle.leaf_walk.specs.Join.{join}
use Rattle.batch.proofs.batch_walk.Fields.{homes_same, dense_bare, dense_short, dense_astray, dense_goes, dense_within}
use Rattle.batch.proofs.dense_union.copy_dense.Goals as goal

pub returns-then-not-seen : goal.returns-then-not-seen
returns-then-not-seen c =
    let a = c.args in
    λ source. dense_astray (join a.plan.now a.parts.now a.lengths.now a.places.now a.body.now a.first source) a.i a.slot a.n a.write a.counters.now a.room.now c.is_owned.ensures c.if-not-is_owned.false-raw (c.pairs_in.ensures a.plan.now a.parts.now a.lengths.now source) c.if-not-pairs_in.false-raw (homes_same (join a.plan.now a.parts.now a.lengths.now a.places.now a.body.now a.first source) a.i a.slot c.homes_of-homes.result c.homes_of-homes.ensures (λ q. (c.shared_slice_known-5-1.given q).fits) c.place-ids.ensures) c.survey-seen.ensures.sound_value c.if-not-seen.true

pub copy_children-requires : goal.copy_children-requires
copy_children-requires c =
    let a = c.args in
    let source : ℕ = 0 in
    let w = dense_within (join a.plan.now a.parts.now a.lengths.now a.places.now a.body.now a.first source) a.i a.slot a.n (c.pairs_in.ensures a.plan.now a.parts.now a.lengths.now 0) c.if-not-pairs_in.false-raw c.place-ids.ensures c.place-positions.ensures in
    record { first_bound = (c.requires.0, c.requires.1, c.requires.3); n_in_bounds = (w.0, w.1, c.requires.2); homed = (c.homes_of-homes.ensures, c.place-ids.ensures, c.place-positions.ensures); fallen = c.survey-seen.ensures.fallen (yes refl c.if-not-seen.false) }

pub returns : goal.returns
returns c =
    let a = c.args in
    λ source. dense_goes (join a.plan.now a.parts.now a.lengths.now a.places.now a.body.now a.first source) a.i a.slot a.n a.write a.counters.now a.room.now c.is_owned.ensures c.if-not-is_owned.false-raw (c.pairs_in.ensures a.plan.now a.parts.now a.lengths.now source) c.if-not-pairs_in.false-raw (homes_same (join a.plan.now a.parts.now a.lengths.now a.places.now a.body.now a.first source) a.i a.slot c.homes_of-homes.result c.homes_of-homes.ensures (λ q. (c.shared_slice_known-5-1.given q).fits) c.place-ids.ensures) c.survey-seen.ensures.sound_value c.if-not-seen.false c.place-ids.ensures c.rows_of-rows.ensures c.scale-o.ensures c.put_copy.ensures (omega (arith, c.well_formed)) c.put_lands.ensures (c.copy_children.ensures source)

pub returns-then-not-is_owned : goal.returns-then-not-is_owned
returns-then-not-is_owned c =
    let a = c.args in
    λ source. dense_bare (join a.plan.now a.parts.now a.lengths.now a.places.now a.body.now a.first source) a.i a.slot a.n a.write a.counters.now a.room.now c.is_owned.ensures c.if-not-is_owned.true-raw

pub returns-then-not-pairs_in : goal.returns-then-not-pairs_in
returns-then-not-pairs_in c =
    let a = c.args in
    λ source. dense_short (join a.plan.now a.parts.now a.lengths.now a.places.now a.body.now a.first source) a.i a.slot a.n a.write a.counters.now a.room.now c.is_owned.ensures c.if-not-is_owned.false-raw (c.pairs_in.ensures a.plan.now a.parts.now a.lengths.now source) c.if-not-pairs_in.true-raw

pub survey-seen-requires : goal.survey-seen-requires
survey-seen-requires c =
    let a = c.args in
    let source : ℕ = 0 in
    let w = dense_within (join a.plan.now a.parts.now a.lengths.now a.places.now a.body.now a.first source) a.i a.slot a.n (c.pairs_in.ensures a.plan.now a.parts.now a.lengths.now 0) c.if-not-pairs_in.false-raw c.place-ids.ensures c.place-positions.ensures in
    record { n_in_bounds = (w.0, w.1, c.requires.2); begins_value = (refl, refl, refl) }

pub overflow_add-from : goal.overflow_add-from
overflow_add-from c =
    let a = c.args in
    let source : ℕ = 0 in
    let w = dense_within (join a.plan.now a.parts.now a.lengths.now a.places.now a.body.now a.first source) a.i a.slot a.n (c.pairs_in.ensures a.plan.now a.parts.now a.lengths.now 0) c.if-not-pairs_in.false-raw c.place-ids.ensures c.place-positions.ensures in
    omega (arith, w.0, c.requires.1, c.well_formed)

pub put_copy-requires : goal.put_copy-requires
put_copy-requires c =
    let a = c.args in
    let source : ℕ = 0 in
    let w = dense_within (join a.plan.now a.parts.now a.lengths.now a.places.now a.body.now a.first source) a.i a.slot a.n (c.pairs_in.ensures a.plan.now a.parts.now a.lengths.now 0) c.if-not-pairs_in.false-raw c.place-ids.ensures c.place-positions.ensures in
    omega (arith, w.0, c.requires.1, c.well_formed)

pub put_lands-requires : goal.put_lands-requires
put_lands-requires c =
    let a = c.args in
    let source : ℕ = 0 in
    let w = dense_within (join a.plan.now a.parts.now a.lengths.now a.places.now a.body.now a.first source) a.i a.slot a.n (c.pairs_in.ensures a.plan.now a.parts.now a.lengths.now 0) c.if-not-pairs_in.false-raw c.place-ids.ensures c.place-positions.ensures in
    (c.requires.1, w.0, c.requires.2, yes c.survey-seen.ensures.sound_value c.if-not-seen.false)
