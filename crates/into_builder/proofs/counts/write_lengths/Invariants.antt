use Rattle.columnar.specs.Row.{seg}
use Rattle.into_builder.specs.buffers.Names.{Behind}
use Rattle.into_builder.proofs.counts.Nulls.{length_word}
use Rattle.into_builder.proofs.counts.write_lengths.Given as goal

abbrev pub invariant-loop-q : goal.invariant-loop-q
invariant-loop-q l = Behind l.initial.table l.table 0 l.q (seg (length_word l.plan l.sources l.lengths l.counters) 0 l.q)
