use mathlib.Core.Path.{◌≡◌}
use mathlib.Core.List.{[]}
use Prim.Native.Nat.{◌+◌, ◌*◌}
use Rattle.refinement.specs.finishing.Finish.{buffers_of, buffers_from}
use Rattle.into_builder.specs.buffers.Names.{lent, Behind}
use Rattle.into_builder.proofs.buffers.view_names.Given as goal

abbrev pub invariant-loop-s : goal.invariant-loop-s
invariant-loop-s l = (l.end ≡ l.at + 2 * buffers_of (lent l.plan [] l.sources [] l.places []) [] [] [] 0 l.i l.s) × Behind l.initial.names l.names l.at (2 * buffers_of (lent l.plan [] l.sources [] l.places []) [] [] [] 0 l.i l.s) (buffers_from (lent l.plan [] l.sources [] l.places []) l.buffers [] [] 0 l.i l.s)
