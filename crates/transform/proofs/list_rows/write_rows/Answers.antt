-- `transform::list_rows::write_rows` meets its contract. Assumes nothing.
use native.Mathlib.Omega.{arith}
use Rattle.leaf_walk.specs.Join.{join}
use Rattle.transform.proofs.null_ways.Laws.{lists_known}
use Rattle.transform.proofs.list_rows.Laws.{items_within, rows_refused, rows_settled}
use Rattle.transform.proofs.list_rows.write_rows.Goals as goal

pub returns-then-g-ne0 : goal.returns-then-g-ne0
returns-then-g-ne0 c =
    let a = c.args in
    let o = lists_known a.plan.now c.requires.counters_len.2 in
    λ sources lengths source start last lead s r. rows_refused a.plan.now a.parts.now sources lengths a.places.now a.body.now a.first source start a.n a.counters.now a.room.now o s (omega (arith, c.requires.rows_in_lem.4)) c.requires.rows_in_lem.3 c.requires.counters_len.3 c.requires.counters_len.0 c.requires.rows_in_lem.0 c.requires.rows_in_lem.1 c.requires.rows_in_lem.2 r.0 r.1 r.2 (omega (arith, c.requires.items_in.3)) c.requires.items_in.2 (items_within (join a.plan.now a.parts.now lengths a.places.now a.body.now a.first source) a.inner a.k c.requires.items_in.0 c.requires.items_in.1) c.at_u64.ensures c.grow-r.ensures c.at_u64-2.ensures c.grow-items.ensures c.room_ground-g.ensures c.if-g-ne0.true

pub returns : goal.returns
returns c =
    let a = c.args in
    let o = lists_known a.plan.now c.requires.counters_len.2 in
    λ sources lengths source start last lead s r. rows_settled a.plan.now a.parts.now sources lengths a.places.now a.body.now a.first source start a.n a.counters.now a.room.now o s (omega (arith, c.requires.rows_in_lem.4)) c.requires.rows_in_lem.3 c.requires.counters_len.3 c.requires.counters_len.0 c.requires.rows_in_lem.0 c.requires.rows_in_lem.1 c.requires.rows_in_lem.2 r.0 r.1 r.2 (omega (arith, c.requires.items_in.3)) c.requires.items_in.2 (items_within (join a.plan.now a.parts.now lengths a.places.now a.body.now a.first source) a.inner a.k c.requires.items_in.0 c.requires.items_in.1) c.at_u64.ensures c.grow-r.ensures c.at_u64-2.ensures c.grow-items.ensures c.room_ground-g.ensures c.if-g-ne0.false (c.put_rows.ensures lengths source start last lead s r)
