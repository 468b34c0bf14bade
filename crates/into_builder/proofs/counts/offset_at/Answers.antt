-- `finished_counts::offset_at` meets its contract. Assumes nothing.
use mathlib.Core.List.{[]}
use Rattle.into_builder.proofs.counts.Nulls.{offset_copied, offset_kept}
use Rattle.into_builder.proofs.counts.offset_at.Goals as goal

pub returns-then-is_copied : goal.returns-then-is_copied
returns-then-is_copied c =
    let z = c.args in
    offset_copied z.plan.now z.sources.now z.lengths.now [] z.i c.is_copied.ensures c.if-is_copied.true

pub offset_of-requires : goal.offset_of-requires
offset_of-requires c = c.node_of.ensures.upper_bound

pub returns : goal.returns
returns c =
    let z = c.args in
    offset_kept z.plan.now z.sources.now z.lengths.now [] z.i c.is_copied.ensures c.if-is_copied.false c.node_of.ensures.value c.offset_of.ensures
