-- `finished_counts::nulls_at` meets its contract. Assumes nothing.
use Rattle.into_builder.proofs.counts.Nulls.{kept_countable, nulls_copied, nulls_kept}
use Rattle.into_builder.proofs.counts.nulls_at.Goals as goal

pub zeros_at-requires : goal.zeros_at-requires
zeros_at-requires c = (c.requires.0, c.requires.1)

pub returns-then-is_copied : goal.returns-then-is_copied
returns-then-is_copied c =
    let z = c.args in
    nulls_copied z.plan.now z.parts.now z.sources.now z.lengths.now z.places.now z.body.now z.counters.now z.room.now z.i c.is_copied.ensures c.if-is_copied.true c.zeros_at.ensures

pub null_count-requires : goal.null_count-requires
null_count-requires c =
    let z = c.args in
    kept_countable z.plan.now z.sources.now z.lengths.now z.places.now z.body.now z.i c.is_copied.ensures c.if-is_copied.false c.node_of-k.ensures.value c.node_of-k.ensures.upper_bound c.requires.2

pub returns : goal.returns
returns c =
    let z = c.args in
    nulls_kept z.plan.now z.parts.now z.sources.now z.lengths.now z.places.now z.body.now z.counters.now z.room.now z.i c.is_copied.ensures c.if-is_copied.false c.node_of-k.ensures.value c.null_count.ensures
