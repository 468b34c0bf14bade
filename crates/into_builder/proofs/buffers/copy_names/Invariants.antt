use Prim.Native.Nat.{◌*◌}
use lib.ListN.{get_or}
use Rattle.columnar.specs.Row.{seg}
use Rattle.into_builder.specs.buffers.Names.{Behind}
use Rattle.into_builder.proofs.buffers.copy_names.Given as goal

abbrev pub invariant-loop-q : goal.invariant-loop-q
invariant-loop-q l = Behind l.initial.names l.names l.at l.q (seg (λ a. get_or l.buffers a 0) (2 * l.from) l.q)
