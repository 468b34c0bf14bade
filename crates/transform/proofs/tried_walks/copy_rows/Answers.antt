-- `transform::tried_walks::copy_rows` meets its contract. Assumes nothing.
use mathlib.Core.Path.{refl, sym, ap, ◌∙◌}
use mathlib.Core.List.{List}
use Prim.Native.Nat.{ℕ}
use lib.ListN.{length}
use Rattle.walk.specs.Log.{Out}
use Rattle.walk.specs.Copy.{copy_walk}
use Rattle.leaf_walk.specs.Join.{join}
use Rattle.sound.proofs.trying.Near.{near_copy}
use Rattle.transform.specs.Answer.{lent}
use Rattle.transform.proofs.Laws.{settled_no, settled_parts, settled_made}
use Rattle.transform.proofs.tried_counters.Laws.{copy_tried, copy_made, copy_long}
use Rattle.transform.proofs.tried_walks.copy_rows.Goals as goal

pub returns-then-g-ne0 : goal.returns-then-g-ne0
returns-then-g-ne0 c =
    let z = c.args in
    let walk : List ℕ → Out = λ l. copy_walk (join z.plan.now z.parts.now z.lengths.now z.places.now z.body.now z.first z.source) 8 0 z.start z.n l in
    λ sources. settled_no (lent z.plan.now z.parts.now sources z.lengths.now z.places.now z.body.now) z.counters.now z.room.now walk (near_copy (join z.plan.now z.parts.now z.lengths.now z.places.now z.body.now z.first z.source) 8 0 z.start z.n c.uncounted.ensures.alike) c.extend-g.ensures c.if-g-ne0.true

pub slice_bounds-parts_ground-end : goal.slice_bounds-parts_ground-end
slice_bounds-parts_ground-end c =
    let z = c.args in
    sym (copy_long (join z.plan.now z.parts.now z.lengths.now z.places.now z.body.now z.first z.source) z.start z.n _ _ (c.uncounted.ensures.alike.size ∙ c.requires.0) c.extend-g.ensures.counters)

pub returns-then-g-ne0-2 : goal.returns-then-g-ne0-2
returns-then-g-ne0-2 c =
    let z = c.args in
    let walk : List ℕ → Out = λ l. copy_walk (join z.plan.now z.parts.now z.lengths.now z.places.now z.body.now z.first z.source) 8 0 z.start z.n l in
    λ sources. settled_parts (lent z.plan.now z.parts.now sources z.lengths.now z.places.now z.body.now) z.counters.now z.room.now walk (near_copy (join z.plan.now z.parts.now z.lengths.now z.places.now z.body.now z.first z.source) 8 0 z.start z.n c.uncounted.ensures.alike) c.extend-g.ensures c.if-g-ne0.false c.parts_ground-g.ensures c.if-g-ne0-2.true

pub reload-requires : goal.reload-requires
reload-requires c =
    let z = c.args in
    (c.requires.0, c.node_count-nodes.ensures.upper_bound, copy_tried (join z.plan.now z.parts.now z.lengths.now z.places.now z.body.now z.first z.source) (length z.room.now) c.requires.3 _ c.node_count-nodes.ensures.value z.start z.n _ _ z.counters.now c.uncounted.ensures.beyond c.extend-g.ensures.counters)

pub keep-requires : goal.keep-requires
keep-requires c =
    let z = c.args in
    (c.requires.0, c.node_count-nodes.ensures.upper_bound, copy_made (join z.plan.now z.parts.now z.lengths.now z.places.now z.body.now z.first z.source) (length z.room.now) c.requires.3 _ c.node_count-nodes.ensures.value z.start z.n _ _ z.counters.now c.reload.ensures c.extend-g-2.ensures.counters)

pub returns : goal.returns
returns c =
    let z = c.args in
    let walk : List ℕ → Out = λ l. copy_walk (join z.plan.now z.parts.now z.lengths.now z.places.now z.body.now z.first z.source) 8 0 z.start z.n l in
    λ sources. settled_made (lent z.plan.now z.parts.now sources z.lengths.now z.places.now z.body.now) z.counters.now z.room.now walk (near_copy (join z.plan.now z.parts.now z.lengths.now z.places.now z.body.now z.first z.source) 8 0 z.start z.n c.uncounted.ensures.alike) c.extend-g.ensures c.if-g-ne0.false c.parts_ground-g.ensures c.if-g-ne0-2.false c.reload.ensures c.extend-g-2.ensures c.keep.ensures
