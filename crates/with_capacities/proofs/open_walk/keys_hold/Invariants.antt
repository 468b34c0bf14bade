use mathlib.Core.Path.{◌≡◌}
use mathlib.Core.Bool.{true}
use mathlib.Core.List.{[]}
use mathlib.Core.Option.{some}
use Rattle.columnar.specs.Types.{Number}
use Rattle.columnar.specs.Test.{every}
use Rattle.schema.specs.formats.Types.{number_of}
use Rattle.refinement.specs.opening.Open.{key_holds}
use Rattle.refinement.specs.orders.Order.{lent}
use Rattle.with_capacities.proofs.open_walk.keys_hold.Given as goal

abbrev pub invariant-loop-s : goal.invariant-loop-s
invariant-loop-s l = (n : Number) → number_of l.code ≡ some n → every (key_holds (lent l.plan [] l.sources l.lengths [] []) n l.i) l.s ≡ true
