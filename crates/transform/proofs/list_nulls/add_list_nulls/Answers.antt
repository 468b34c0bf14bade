-- `transform::list_nulls::add_list_nulls` meets its contract. Assumes nothing.
use native.Mathlib.Omega.{arith}
use Rattle.transform.proofs.null_ways.Laws.{lists_known}
use Rattle.transform.proofs.list_rows.Laws.{offset_wide}
use Rattle.transform.proofs.list_nulls.Laws.{list_refused, list_made}
use Rattle.transform.proofs.list_nulls.add_list_nulls.Goals as goal

pub returns-then-g-ne0 : goal.returns-then-g-ne0
returns-then-g-ne0 c =
    let a = c.args in
    let o = lists_known a.plan.now c.requires.2 in
    λ sources lengths places body. list_refused a.plan.now a.parts.now a.n a.counters.now a.room.now o c.requires.1 c.requires.0 sources lengths places body c.at_u64-p.ensures c.grow.ensures c.at_u64-last.ensures c.room_ground-g.ensures c.if-g-ne0.true

pub scale-o-requires : goal.scale-o-requires
scale-o-requires c =
    let p = c.args.plan.now in
    (offset_wide p (lists_known p c.requires.2) c.width_at-w.ensures).0

pub put_repeated-requires : goal.put_repeated-requires
put_repeated-requires c =
    let p = c.args.plan.now in
    record { i_bound = (omega arith, omega arith); w_value = (offset_wide p (lists_known p c.requires.2) c.width_at-w.ensures).1 }

pub returns : goal.returns
returns c =
    let a = c.args in
    let o = lists_known a.plan.now c.requires.2 in
    λ sources lengths places body. list_made a.plan.now a.parts.now a.n a.counters.now a.room.now o c.requires.1 c.requires.0 sources lengths places body c.at_u64-p.ensures c.grow.ensures c.at_u64-last.ensures c.room_ground-g.ensures c.if-g-ne0.false c.width_at-w.ensures (offset_wide a.plan.now o c.width_at-w.ensures).0.0 (omega (arith, c.well_formed)) c.grow-2.ensures c.scale-o.ensures c.put_repeated.ensures c.put_null_mask.ensures c.add_to.ensures
