use mathlib.Core.Path.{◌≡◌}
use mathlib.Core.Bool.{true}
use mathlib.Core.List.{[]}
use Rattle.columnar.specs.Test.{every}
use Rattle.refinement.specs.orders.Order.{lent}
use Rattle.with_capacities.proofs.open_walk.Laws.{entry_holds}
use Rattle.with_capacities.proofs.open_walk.entries_hold.Given as goal

abbrev pub invariant-loop-s : goal.invariant-loop-s
invariant-loop-s l = every (entry_holds (lent l.plan [] l.sources l.lengths [] []) l.i) l.s ≡ true
