-- `width_loop::ranges::set_child` meets its contract. Assumes nothing.
use Rattle.array_data.specs.entries.Entries.{column}
use Rattle.width_loop.proofs.Settled.{child_whole, child_part}
use Rattle.width_loop.proofs.ranges.set_child.Goals as goal

pub returns-then-whole : goal.returns-then-whole
returns-then-whole c =
    let a = c.args in
    λ places buffers body. child_whole (column a.lengths.now places buffers body a.first) a.k a.s a.n a.ranges.now c.if-whole.true c.length_at.ensures c.set_range.ensures

pub returns : goal.returns
returns c =
    let a = c.args in
    λ places buffers body. child_part (column a.lengths.now places buffers body a.first) a.k a.s a.n a.ranges.now c.if-whole.false c.set_range-2.ensures
