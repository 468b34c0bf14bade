-- `transform::try_extend_nulls` meets its contract. Assumes nothing.
use Rattle.transform.specs.Answer.{lent}
use Rattle.array_data.proofs.lent_tables.Laws.{no, yes}
use Rattle.transform.proofs.Laws.{null_counters, null_foreign, null_keeps, null_made}
use Rattle.transform.proofs.null_ways.Laws.{way_sound}
use Rattle.transform.proofs.try_extend_nulls.Goals as goal

pub returns-then-counters-ne-COUNTERS : goal.returns-then-counters-ne-COUNTERS
returns-then-counters-ne-COUNTERS c =
    let z = c.args in
    λ sources lengths places body. null_counters (lent z.plan.now z.parts.now sources lengths places body) z.counters.now z.room.now z.n c.if-counters-ne-COUNTERS.true

pub returns-then-not-is_walkable : goal.returns-then-not-is_walkable
returns-then-not-is_walkable c =
    let z = c.args in
    λ sources lengths places body. null_foreign (lent z.plan.now z.parts.now sources lengths places body) z.counters.now z.room.now z.n c.if-counters-ne-COUNTERS.false (no c.is_walkable.ensures c.if-not-is_walkable.true-raw)

pub returns-then-keeps_of-eq0 : goal.returns-then-keeps_of-eq0
returns-then-keeps_of-eq0 c =
    let z = c.args in
    λ sources lengths places body. null_keeps (lent z.plan.now z.parts.now sources lengths places body) z.counters.now z.room.now z.n c.if-counters-ne-COUNTERS.false (yes c.is_walkable.ensures c.if-not-is_walkable.false-raw) c.keeps_of.ensures c.if-keeps_of-eq0.true

pub returns : goal.returns
returns c =
    let z = c.args in
    λ sources lengths places body. null_made (lent z.plan.now z.parts.now sources lengths places body) z.counters.now z.room.now z.n c.if-counters-ne-COUNTERS.false (yes c.is_walkable.ensures c.if-not-is_walkable.false-raw) c.keeps_of.ensures c.if-keeps_of-eq0.false c.at_most_far.ensures (c.add_null_range.ensures sources lengths places body)

pub is_walkable-requires : goal.is_walkable-requires
is_walkable-requires c = way_sound c.args.plan.now c.way_of-way.result c.way_of-way.ensures.plan_value c.way_of-way.ensures.plan_value_2 c.way_of-way.ensures.plan_value_3
