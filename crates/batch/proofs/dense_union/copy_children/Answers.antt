-- `dense_union::copy_children` meets its contract. Assumes nothing.
use mathlib.Core.Path.{◌≡◌, ◌∙◌}
use Prim.Native.Nat.{ℕ, suc, ◌+◌, ◌-◌, ◌<◌}
use native.Mathlib.Numerals.{add-one}
use native.Mathlib.Omega.{arith}
use lib.ListN.{get_or}
use Rattle.number.specs.Number.{entry}
use Rattle.leaf_walk.specs.Join.{join}
use Rattle.batch.specs.Batch.{batch_leaf}
use Rattle.batch.specs.batch_walk.Fall.{home_by, takes_of, takes_from}
use Rattle.batch.proofs.batch_walk.Falls.{stretch_whole}
use Rattle.batch.proofs.batch_walk.Fields.{child_same, homes_same, positions_same, fields_none, fields_end, fields_turned, fields_bare, fields_stop, fields_more}
use Rattle.batch.proofs.dense_union.copy_children.Goals as goal

pub copy_child-g-requires : goal.copy_child-g-requires
copy_child-g-requires c =
    let a = c.args in
    let l = c.loop-t in
    let h : ℕ → ℕ = λ q. home_by a.homes.now a.body.now (a.ids + (a.slot + q)) in
    let p : ℕ → ℕ = λ q. entry 4 a.body.now a.positions (a.slot + q) in
    let f = c.requires.fallen in
    let s : l.k < 32 = omega arith in
    record { first_bound = (c.requires.first_bound.0, s, c.requires.first_bound.2 l.k l.invariant.0 (omega (arith, c.end_of-last.ensures.value))); n_in_bounds = c.requires.n_in_bounds; total_value = (f.counted l.k s, f.furthest l.k s); c_value = λ w walk c2. f.one w l.k s walk c2 ∙ stretch_whole walk (takes_from h p l.k) (takes_of h l.k) a.n (get_or a.begins.now l.k 0) (get_or a.taken.now l.k 0) c2 (omega arith) }

pub returns-then-g-ne0 : goal.returns-then-g-ne0
returns-then-g-ne0 c =
    let a = c.args in
    let l = c.loop-t in
    let y : 32 - l.t ≡ suc (32 - (l.t + 1)) = omega arith in
    λ source. l.invariant.1 source c.copy_child-g.result _ _ (fields_stop (join a.plan.now a.parts.now a.lengths.now a.places.now a.body.now a.first source) a.i a.slot a.n a.write l.counters l.room c.end_of-last.result (32 - l.t) l.k y c.if-last-k.false c.end_of-next.ensures.value c.if-next-k.false c.is_owned.ensures c.if-not-is_owned.false-raw (child_same (λ b j d. batch_leaf (join a.plan.now a.parts.now a.lengths.now a.places.now a.body.now a.first source) l.k b j d) l.k a.n l.counters (homes_same (join a.plan.now a.parts.now a.lengths.now a.places.now a.body.now a.first source) a.i a.slot a.homes.now c.requires.homed.0 (λ q. (c.shared_slice_known-5-1.given q).fits) c.requires.homed.1) (positions_same (join a.plan.now a.parts.now a.lengths.now a.places.now a.body.now a.first source) a.i a.slot c.requires.homed.2) (c.copy_child-g.ensures source)) c.if-g-ne0.true)

pub loop-t-preserved : goal.loop-t-preserved
loop-t-preserved c =
    let a = c.args in
    let l = c.loop-t in
    let y : 32 - l.t ≡ suc (32 - (l.t + 1)) = omega arith in (
      omega arith,
      λ source g2 c2 room2 q2. l.invariant.1 source g2 c2 room2 (fields_more (join a.plan.now a.parts.now a.lengths.now a.places.now a.body.now a.first source) a.i a.slot a.n a.write l.counters l.room c.end_of-last.result (32 - l.t) l.k y c.if-last-k.false c.end_of-next.ensures.value c.if-next-k.false c.is_owned.ensures c.if-not-is_owned.false-raw (child_same (λ b j d. batch_leaf (join a.plan.now a.parts.now a.lengths.now a.places.now a.body.now a.first source) l.k b j d) l.k a.n l.counters (homes_same (join a.plan.now a.parts.now a.lengths.now a.places.now a.body.now a.first source) a.i a.slot a.homes.now c.requires.homed.0 (λ q. (c.shared_slice_known-5-1.given q).fits) c.requires.homed.1) (positions_same (join a.plan.now a.parts.now a.lengths.now a.places.now a.body.now a.first source) a.i a.slot c.requires.homed.2) (c.copy_child-g.ensures source)) c.if-g-ne0.false q2),
    )

pub returns-then-last-k : goal.returns-then-last-k
returns-then-last-k c =
    let a = c.args in
    let l = c.loop-t in
    λ source. l.invariant.1 source 0 l.counters l.room (fields_end (join a.plan.now a.parts.now a.lengths.now a.places.now a.body.now a.first source) a.i a.slot a.n a.write l.counters l.room c.end_of-last.result (32 - l.t) l.k c.if-last-k.true)

pub returns-then-next-k : goal.returns-then-next-k
returns-then-next-k c =
    let a = c.args in
    let l = c.loop-t in
    let y : 32 - l.t ≡ suc (32 - (l.t + 1)) = omega arith in
    λ source. l.invariant.1 source 12 l.counters l.room (fields_turned (join a.plan.now a.parts.now a.lengths.now a.places.now a.body.now a.first source) a.i a.slot a.n a.write l.counters l.room c.end_of-last.result (32 - l.t) l.k y c.if-last-k.false c.end_of-next.ensures.value c.if-next-k.true)

pub returns-then-not-is_owned : goal.returns-then-not-is_owned
returns-then-not-is_owned c =
    let a = c.args in
    let l = c.loop-t in
    let y : 32 - l.t ≡ suc (32 - (l.t + 1)) = omega arith in
    λ source. l.invariant.1 source 12 l.counters l.room (fields_bare (join a.plan.now a.parts.now a.lengths.now a.places.now a.body.now a.first source) a.i a.slot a.n a.write l.counters l.room c.end_of-last.result (32 - l.t) l.k y c.if-last-k.false c.end_of-next.ensures.value c.if-next-k.false c.is_owned.ensures c.if-not-is_owned.true-raw)

pub returns : goal.returns
returns c =
    let a = c.args in
    let l = c.loop-t in
    λ source. l.invariant.1 source 0 l.counters l.room (fields_none (join a.plan.now a.parts.now a.lengths.now a.places.now a.body.now a.first source) a.i a.slot a.n a.write l.counters l.room c.end_of-last.result (32 - l.t) l.k (omega arith))
