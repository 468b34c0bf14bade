use Rattle.columnar.specs.Row.{seg}
use Rattle.into_builder.specs.buffers.Names.{Behind}
use Rattle.convert.specs.child_names.Names.{below_place}
use Rattle.convert.proofs.child_names.write_places.Given as goal

abbrev pub invariant-loop-k : goal.invariant-loop-k
invariant-loop-k l = Behind l.initial.table l.table 9 l.k (seg (below_place l.places l.nulls l.first) 0 l.k)
