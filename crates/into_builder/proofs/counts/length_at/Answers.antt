-- `finished_counts::length_at` meets its contract. Assumes nothing.
use Rattle.into_builder.proofs.counts.Nulls.{length_copied, length_kept}
use Rattle.into_builder.proofs.counts.length_at.Goals as goal

pub returns-then-is_copied : goal.returns-then-is_copied
returns-then-is_copied c =
    let z = c.args in
    length_copied z.plan.now z.sources.now z.lengths.now z.counters.now z.i c.is_copied.ensures c.if-is_copied.true c.at_u64.ensures

pub length_of-requires : goal.length_of-requires
length_of-requires c = c.node_of.ensures.upper_bound

pub returns : goal.returns
returns c =
    let z = c.args in
    length_kept z.plan.now z.sources.now z.lengths.now z.counters.now z.i c.is_copied.ensures c.if-is_copied.false c.node_of.ensures.value c.length_of.ensures
