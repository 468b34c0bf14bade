-- `finished_counts::write_lengths` meets its contract. The invariant: the first q numbers are written. Assumes nothing.
use Prim.Native.Nat.{◌*◌}
use Rattle.plan.specs.parts.Parts.{nodes_of}
use Rattle.refinement.specs.finishing.Finish.{length_table}
use Rattle.into_builder.proofs.buffers.Written.{behind_none, table_more, table_all}
use Rattle.into_builder.proofs.counts.Nulls.{length_word}
use native.Mathlib.Omega.{arith}
use Rattle.into_builder.proofs.counts.write_lengths.Goals as goal

pub overflow_mul-n : goal.overflow_mul-n
overflow_mul-n c = omega (arith, c.node_count-n.ensures.upper_bound)

pub loop-q-init : goal.loop-q-init
loop-q-init c = behind_none c.args.table.now 0

pub length_word-requires : goal.length_word-requires
length_word-requires c = omega (arith, c.node_count-n.ensures.upper_bound)

pub bounds-table-q : goal.bounds-table-q
bounds-table-q c = omega (arith, c.node_count-n.ensures.value, c.loop-q.invariant.same)

pub loop-q-preserved : goal.loop-q-preserved
loop-q-preserved c =
    let z = c.args in
    let l = c.loop-q in
    table_more (length_word z.plan.now z.sources.now z.lengths.now z.counters.now) z.table.now l.table l.q _ (omega (arith, c.node_count-n.ensures.value)) l.invariant c.length_word.ensures

pub shape_of-table : goal.shape_of-table
shape_of-table c = c.loop-q.invariant.same

pub returns : goal.returns
unfolding length_table
returns c =
    let z = c.args in
    let l = c.loop-q in
    table_all (length_word z.plan.now z.sources.now z.lengths.now z.counters.now) z.table.now l.table l.q (2 * nodes_of z.plan.now) (omega (arith, c.node_count-n.ensures.value)) c.requires l.invariant
