-- `transform::list_rows::put_rows` meets its contract. Assumes nothing.
use native.Mathlib.Omega.{arith}
use Rattle.leaf_walk.specs.Join.{join}
use Rattle.transform.proofs.null_ways.Laws.{lists_known}
use Rattle.transform.proofs.list_rows.Laws.{offset_wide, rows_made}
use Rattle.transform.proofs.list_rows.put_rows.Goals as goal

pub scale-o-requires : goal.scale-o-requires
scale-o-requires c =
    let p = c.args.plan.now in
    (offset_wide p (lists_known p c.requires.counters_len.2) c.requires.rows_in_lem.0).0

pub put_offsets-requires : goal.put_offsets-requires
put_offsets-requires c =
    let p = c.args.plan.now in
    record { i_bound = (omega arith, omega arith, c.requires.rows_in_lem.2); w_value = (offset_wide p (lists_known p c.requires.counters_len.2) c.requires.rows_in_lem.0).1 }

pub returns : goal.returns
returns c =
    let a = c.args in
    let o = lists_known a.plan.now c.requires.counters_len.2 in
    λ lengths source start last lead s r. rows_made (join a.plan.now a.parts.now lengths a.places.now a.body.now a.first source) a.slot a.n a.w a.counters.now c.requires.rows_in_lem.1 c.requires.rows_in_lem.2 r.0 start a.room.now o c.requires.counters_len.3 s (omega (arith, c.requires.rows_in_lem.4)) c.requires.rows_in_lem.0 (offset_wide a.plan.now o c.requires.rows_in_lem.0).0.0 (c.put_bits.ensures lengths source) c.at_u64-old.ensures c.at_u64.ensures c.grow.ensures c.scale-o.ensures (omega (arith, c.room-1.given, c.well_formed)) c.put_offsets.ensures r.1 (c.put_items.ensures lengths source lead r.2) c.add_to.ensures
