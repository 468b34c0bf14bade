-- `run_coding::is_change` meets its contract. Assumes nothing.
use mathlib.Core.Path.{◌≡◌, refl}
use mathlib.Core.Bool.{Bool, true, false, not, ◌&&◌, ◌||◌, beq}
use lib.Dec.{eqb}
use Rattle.anew.specs.runs.Runs.{alike}
use Rattle.coding.proofs.run_coding.is_change.Goals as goal

told : (a b s : Bool) → (not (beq a b) || (a && not s)) ≡ not (alike a b s)
told true true true = refl
told true true false = refl
told true false s = refl
told false true s = refl
told false false s = refl

pub returns : goal.returns
returns c = told c.args.a c.args.b (eqb c.args.x c.args.y)
