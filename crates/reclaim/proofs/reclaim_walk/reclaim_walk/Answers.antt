-- `reclaim_walk::reclaim_walk` meets its contract. Assumes nothing.
use mathlib.Core.Path.{◌∙◌}
use mathlib.Core.List.{[]}
use native.Mathlib.Omega.{arith}
use Rattle.leaf_walk.specs.Join.{join}
use Rattle.reclaim.proofs.reclaim_walk.Laws.{keys_in_parts, told, slots_below, walk_no, walk_mask, walk_all}
use Rattle.reclaim.proofs.reclaim_walk.reclaim_walk.Goals as goal

pub returns-then-not-keys_in : goal.returns-then-not-keys_in
returns-then-not-keys_in c =
    let a = c.args in
    walk_no (join a.plan.now a.parts.now a.lengths.now a.places.now a.body.now a.first 0) a.write a.counters.now a.room.now c.keys_in.result (c.keys_in.ensures ∙ keys_in_parts a.plan.now a.parts.now a.lengths.now a.places.now a.body.now a.first) c.if-not-keys_in.true-raw

pub copy_mask-g-requires : goal.copy_mask-g-requires
copy_mask-g-requires c =
    let a = c.args in
    let t = told c.keys_in.ensures c.if-not-keys_in.false-raw in
    (omega arith, omega arith, slots_below (join a.plan.now [] a.lengths.now a.places.now a.body.now a.first 0) t c.offset_of-off.ensures c.length_of-n.ensures)

pub returns-then-g-ne0 : goal.returns-then-g-ne0
returns-then-g-ne0 c =
    let a = c.args in
    walk_mask (join a.plan.now a.parts.now a.lengths.now a.places.now a.body.now a.first 0) a.write a.counters.now a.room.now c.keys_in.result (c.keys_in.ensures ∙ keys_in_parts a.plan.now a.parts.now a.lengths.now a.places.now a.body.now a.first) c.if-not-keys_in.false-raw c.offset_of-off.ensures c.length_of-n.ensures (c.copy_mask-g.ensures a.lengths.now 0) c.if-g-ne0.true

pub put_keys-requires : goal.put_keys-requires
put_keys-requires c =
    let p = c.requires in
    let t = told c.keys_in.ensures c.if-not-keys_in.false-raw in
    record { first_bound = (omega (arith, p.first_bound), t); head = p.fact t }

pub copy_entries-requires : goal.copy_entries-requires
copy_entries-requires c =
    let p = c.requires in
    let t = told c.keys_in.ensures c.if-not-keys_in.false-raw in
    record { first_bound = (omega (arith, p.first_bound), t); head = p.fact t }

pub returns : goal.returns
returns c =
    let a = c.args in
    walk_all (join a.plan.now a.parts.now a.lengths.now a.places.now a.body.now a.first 0) a.write a.counters.now a.room.now c.keys_in.result (c.keys_in.ensures ∙ keys_in_parts a.plan.now a.parts.now a.lengths.now a.places.now a.body.now a.first) c.if-not-keys_in.false-raw c.offset_of-off.ensures c.length_of-n.ensures (c.copy_mask-g.ensures a.lengths.now 0) c.if-g-ne0.false c.put_keys.ensures c.add_rows.ensures (λ k. c.first_entry.ensures a.lengths.now a.places.now a.body.now k a.first) c.copy_entries.ensures
