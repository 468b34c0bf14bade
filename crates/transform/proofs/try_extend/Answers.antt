-- `transform::try_extend` meets its contract. Assumes nothing.
use Prim.Native.Nat.{◌≤◌}
use native.Mathlib.Omega.{arith}
use lib.Dec.{leb}
use borrow.Author.Tests.{leb-true}
use Rattle.array_data.proofs.lent_tables.Laws.{no, yes, and_left}
use Rattle.transform.specs.Answer.{lent}
use Rattle.transform.proofs.Laws.{copy_counters, copy_foreign, copy_source, copy_range, copy_made}
use Rattle.transform.proofs.null_ways.Laws.{copies_sound}
use Rattle.transform.proofs.try_extend.Goals as goal

pub returns-then-counters-ne-COUNTERS : goal.returns-then-counters-ne-COUNTERS
returns-then-counters-ne-COUNTERS c =
    let z = c.args in
    let x = lent z.plan.now z.parts.now z.sources.now z.lengths.now z.places.now z.body.now in
    copy_counters x z.counters.now z.room.now z.source z.start z.end c.if-counters-ne-COUNTERS.true

pub returns-then-not-is_walkable : goal.returns-then-not-is_walkable
returns-then-not-is_walkable c =
    let z = c.args in
    let x = lent z.plan.now z.parts.now z.sources.now z.lengths.now z.places.now z.body.now in
    copy_foreign x z.counters.now z.room.now z.source z.start z.end c.if-counters-ne-COUNTERS.false (no c.is_walkable.ensures c.if-not-is_walkable.true-raw)

pub returns-then-at_u64-source : goal.returns-then-at_u64-source
returns-then-at_u64-source c =
    let z = c.args in
    let x = lent z.plan.now z.parts.now z.sources.now z.lengths.now z.places.now z.body.now in
    copy_source x z.counters.now z.room.now z.source z.start z.end c.if-counters-ne-COUNTERS.false (yes c.is_walkable.ensures c.if-not-is_walkable.false-raw) c.at_u64.ensures c.if-at_u64-source.true

pub returns-then-not-in_source : goal.returns-then-not-in_source
returns-then-not-in_source c =
    let z = c.args in
    let x = lent z.plan.now z.parts.now z.sources.now z.lengths.now z.places.now z.body.now in
    copy_range x z.counters.now z.room.now z.source z.start z.end c.if-counters-ne-COUNTERS.false (yes c.is_walkable.ensures c.if-not-is_walkable.false-raw) c.at_u64.ensures c.if-at_u64-source.false c.at_u32-first.ensures (no c.in_source.ensures c.if-not-in_source.true-raw)

pub overflow_sub-end : goal.overflow_sub-end
overflow_sub-end c =
    let z = c.args in
    let f : z.start ≤ z.end = leb-true _ _ (and_left (leb z.start z.end) _ (yes c.in_source.ensures c.if-not-in_source.false-raw)) in
    omega (arith, f)

pub returns : goal.returns
returns c =
    let z = c.args in
    let x = lent z.plan.now z.parts.now z.sources.now z.lengths.now z.places.now z.body.now in
    copy_made x z.counters.now z.room.now z.source z.start z.end c.if-counters-ne-COUNTERS.false (yes c.is_walkable.ensures c.if-not-is_walkable.false-raw) c.at_u64.ensures c.if-at_u64-source.false c.at_u32-first.ensures (yes c.in_source.ensures c.if-not-in_source.false-raw) (c.copy_range.ensures z.sources.now)

pub is_walkable-requires : goal.is_walkable-requires
is_walkable-requires c = copies_sound c.args.plan.now c.copy_way-way.result c.copy_way-way.ensures.plan_value c.copy_way-way.ensures.plan_value_2
