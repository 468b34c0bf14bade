-- `transform::leaf_nulls::put_nulls` meets its contract. Assumes nothing.
use mathlib.Core.Path.{ap, ◌∙◌}
use mathlib.Core.List.{[]}
use native.Mathlib.Omega.{arith}
use lib.ListN.{length}
use Rattle.walk.specs.Nulls.{null_walk}
use Rattle.leaf_walk.specs.Join.{join}
use Rattle.transform.proofs.leaf_nulls.Laws.{nulls_refused, nulls_made}
use Rattle.transform.proofs.leaf_nulls.put_nulls.Goals as goal

pub returns-then-g-ne0 : goal.returns-then-g-ne0
returns-then-g-ne0 c =
    let a = c.args in
    λ sources lengths places body. nulls_refused a.plan.now a.parts.now sources lengths places body a.i a.n a.counters.now a.room.now c.requires.1 c.requires.2 c.requires.3 c.requires.4 c.at_u64-b.ensures c.room_ground-g.ensures.value c.room_ground-g.ensures.counters_value c.if-g-ne0.true

pub returns : goal.returns
returns c =
    let a = c.args in
    λ sources lengths places body. nulls_made a.plan.now a.parts.now sources lengths places body a.i a.n a.counters.now a.room.now c.requires.1 c.requires.2 c.requires.3 c.requires.4 c.at_u64-b.ensures c.room_ground-g.ensures.value c.room_ground-g.ensures.counters_value c.if-g-ne0.false (c.put_null_entries.ensures (null_walk (join a.plan.now a.parts.now [] [] [] 0 0) 7)) c.put_null_mask.ensures c.add_to.ensures
