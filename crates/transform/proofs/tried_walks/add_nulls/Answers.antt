-- `transform::tried_walks::add_nulls` meets its contract. Assumes nothing.
use mathlib.Core.Path.{sym, ap, ◌∙◌}
use mathlib.Core.List.{List, []}
use Prim.Native.Nat.{ℕ}
use lib.ListN.{length}
use Rattle.walk.specs.Log.{Out}
use Rattle.walk.specs.Nulls.{null_walk}
use Rattle.leaf_walk.specs.Join.{join}
use Rattle.sound.proofs.trying.Near.{near_same}
use Rattle.transform.specs.Answer.{lent}
use Rattle.transform.proofs.Laws.{settled_no, settled_parts, settled_made}
use Rattle.transform.proofs.tried_counters.Laws.{null_tried, null_made, null_long}
use Rattle.transform.proofs.tried_walks.add_nulls.Goals as goal

pub returns-then-g-ne0 : goal.returns-then-g-ne0
returns-then-g-ne0 c =
    let z = c.args in
    let walk : List ℕ → Out = λ l. null_walk (join z.plan.now z.parts.now [] [] [] 0 0) 8 0 z.n l in
    λ sources lengths places body. settled_no (lent z.plan.now z.parts.now sources lengths places body) z.counters.now z.room.now walk (near_same (ap walk c.load-tally.ensures)) c.extend_nulls-g.ensures c.if-g-ne0.true

pub slice_bounds-parts_ground-end : goal.slice_bounds-parts_ground-end
slice_bounds-parts_ground-end c =
    let z = c.args in
    sym (null_long (join z.plan.now z.parts.now [] [] [] 0 0) z.n _ _ (ap length c.load-tally.ensures ∙ c.requires.0) c.extend_nulls-g.ensures.counters)

pub returns-then-g-ne0-2 : goal.returns-then-g-ne0-2
returns-then-g-ne0-2 c =
    let z = c.args in
    let walk : List ℕ → Out = λ l. null_walk (join z.plan.now z.parts.now [] [] [] 0 0) 8 0 z.n l in
    λ sources lengths places body. settled_parts (lent z.plan.now z.parts.now sources lengths places body) z.counters.now z.room.now walk (near_same (ap walk c.load-tally.ensures)) c.extend_nulls-g.ensures c.if-g-ne0.false c.parts_ground-g.ensures c.if-g-ne0-2.true

pub reload-requires : goal.reload-requires
reload-requires c =
    let z = c.args in
    (c.requires.0, c.node_count-nodes.ensures.upper_bound, null_tried (join z.plan.now z.parts.now [] [] [] 0 0) (length z.room.now) c.requires.1 _ c.node_count-nodes.ensures.value z.n _ _ z.counters.now c.load-tally.ensures c.extend_nulls-g.ensures.counters)

pub keep-requires : goal.keep-requires
keep-requires c =
    let z = c.args in
    (c.requires.0, c.node_count-nodes.ensures.upper_bound, null_made (join z.plan.now z.parts.now [] [] [] 0 0) (length z.room.now) c.requires.1 _ c.node_count-nodes.ensures.value z.n _ _ z.counters.now c.reload.ensures c.extend_nulls-g-2.ensures.counters)

pub returns : goal.returns
returns c =
    let z = c.args in
    let walk : List ℕ → Out = λ l. null_walk (join z.plan.now z.parts.now [] [] [] 0 0) 8 0 z.n l in
    λ sources lengths places body. settled_made (lent z.plan.now z.parts.now sources lengths places body) z.counters.now z.room.now walk (near_same (ap walk c.load-tally.ensures)) c.extend_nulls-g.ensures c.if-g-ne0.false c.parts_ground-g.ensures c.if-g-ne0-2.false c.reload.ensures c.extend_nulls-g-2.ensures c.keep.ensures
