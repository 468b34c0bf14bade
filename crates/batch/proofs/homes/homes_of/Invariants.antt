use Prim.Native.Nat.{◌+◌}
use Rattle.batch.proofs.batch_walk.Homes.{Homing}
use Rattle.batch.proofs.homes.homes_of.Given as goal

abbrev pub invariant-loop-t : goal.invariant-loop-t
invariant-loop-t l = Homing l.plan l.end (l.i + 1) l.t l.k l.homes
