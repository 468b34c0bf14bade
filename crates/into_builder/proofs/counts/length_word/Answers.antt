-- `finished_counts::length_word` meets its contract. Assumes nothing.
use mathlib.Core.List.{[]}
use Prim.Native.Nat.{◌/◌}
use Rattle.refinement.specs.finishing.Finish.{length_at, offset_at}
use Rattle.into_builder.specs.buffers.Names.{lent}
use Rattle.into_builder.proofs.counts.Nulls.{word_length, word_offset}
use Rattle.into_builder.proofs.counts.length_word.Goals as goal

pub returns-then-q-eq0 : goal.returns-then-q-eq0
returns-then-q-eq0 c =
    let z = c.args in
    let x = lent z.plan.now [] z.sources.now z.lengths.now [] [] in
    word_length z.q (length_at x [] z.counters.now [] 0 (z.q / 2)) (offset_at x [] z.counters.now [] 0 (z.q / 2)) c.if-q-eq0.true c.length_at.ensures

pub returns : goal.returns
returns c =
    let z = c.args in
    let x = lent z.plan.now [] z.sources.now z.lengths.now [] [] in
    word_offset z.q (length_at x [] z.counters.now [] 0 (z.q / 2)) (offset_at x [] z.counters.now [] 0 (z.q / 2)) c.if-q-eq0.false c.offset_at.ensures
