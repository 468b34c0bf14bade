use Prim.Native.Nat.{◌+◌, ◌*◌}
use lib.ListN.{get_or}
use Rattle.columnar.specs.Row.{seg}
use Rattle.into_builder.specs.buffers.Names.{Behind}
use Rattle.convert.proofs.child_names.write_lengths.Given as goal

abbrev pub invariant-loop-k : goal.invariant-loop-k
invariant-loop-k l = Behind l.initial.table l.table 2 l.k (seg (λ j. get_or l.lengths (2 * (l.first + 1) + j) 0) 0 l.k)
