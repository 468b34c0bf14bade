use mathlib.Core.List.{[]}
use Rattle.columnar.specs.Row.{seg}
use Rattle.refinement.specs.finishing.Finish.{nulls_at}
use Rattle.into_builder.specs.buffers.Names.{lent, Behind}
use Rattle.into_builder.proofs.counts.write_nulls.Given as goal

abbrev pub invariant-loop-i : goal.invariant-loop-i
invariant-loop-i l = Behind l.initial.table l.table 0 l.i (seg (nulls_at (lent l.plan l.parts l.sources l.lengths l.places l.body) [] l.counters l.room 0) 0 l.i)
