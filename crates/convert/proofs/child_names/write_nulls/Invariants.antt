use Prim.Native.Nat.{◌+◌}
use Rattle.columnar.specs.Row.{seg}
use Rattle.columnar.specs.Array.{null_count_of}
use Rattle.array_data.specs.lent_tables.Lent.{tables}
use Rattle.plan.specs.dictionaries.Sources.{array_of}
use Rattle.into_builder.specs.buffers.Names.{Behind}
use Rattle.convert.proofs.child_names.write_nulls.Given as goal

abbrev pub invariant-loop-k : goal.invariant-loop-k
invariant-loop-k l = Behind l.initial.table l.table 1 l.k (seg (λ j. null_count_of (array_of (tables l.lengths l.places l.body) (l.first + 1 + j))) 0 l.k)
