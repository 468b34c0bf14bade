-- Joined dictionaries are still held after any orders, and an opening that 13 lets through is the model's. Assumes nothing.
use mathlib.Core.Path.{◌≡◌}
use mathlib.Core.Bool.{Bool, true, false}
use mathlib.Core.List.{List}
use Prim.Native.Nat.{ℕ, suc}
use native.Mathlib.Omega.{arith}
use Rattle.columnar.specs.Types.{Ty}
use Rattle.columnar.specs.Reading.{Body, Column}
use Rattle.model.specs.Try.{Try, done, stop, then, guard}
use Rattle.model.specs.Transform.{Destination, open_data, start, try_with_capacities}
use Rattle.refinement.specs.walk_is_model.Memory.{Memory}
use Rattle.refinement.specs.walk_is_model.Holds.{Worded}
use Rattle.refinement.proofs.walk_is_model.Frame.{SameAt}
use Rattle.refinement.specs.log_in_room.Reach.{Free}
use Rattle.refinement.specs.orders.Order.{Lent}
use Rattle.refinement.specs.opening.Entries.{EntriesLent, Joins}
use Rattle.refinement.specs.opening.Fits.{open_fits, open_in}
use Rattle.refinement.proofs.opening.Frame.{joins_kept}

module _ (x : Lent) (m : ℕ) (c c' : List ℕ) (μ μ' : Memory) (stay : (j : ℕ) → (Free x.plan j → ⊥) → SameAt c c' μ μ' j) where
  -- A JOINED DICTIONARY IS HELD where its values' nodes are as they were (`stay` of orders' `Running`)
  pub joins_stay : (k : ℕ) (t : Ty) (i : ℕ) (ss : ℕ → Body t) → Worded x.plan k t i → EntriesLent x t i m ss → Joins x.plan t i m ss c μ → Joins x.plan t i m ss c' μ'
  joins_stay k t i ss w a h = joins_kept x m c c' μ μ' k t i ss w a (λ j p q d. stay (suc j) d) h

-- an opening that is done is the model's
pub open_model : (plan parts : List ℕ) (gaps : Bool) (t : Ty) (keep : Bool) (m : ℕ) (ss : ℕ → Column t) (d : Destination t) → open_in plan parts gaps t keep m ss ≡ done d → try_with_capacities gaps t keep m ss ≡ done d
open_model plan parts gaps t keep m ss d e = go (open_data t m (λ j. (ss j).body)) (open_fits plan parts t 0 m (λ j. (ss j).body) (start gaps t keep m ss)) e
  where
    go : (p : Try (Unit {0})) (b : Bool) → then p (λ y. guard b 13 (done (start gaps t keep m ss))) ≡ done d → then p (λ y. done (start gaps t keep m ss)) ≡ done d
    go (done y) true q = q
    go (done y) false q = absurd (let z : ◌≡◌ {A = ℕ} 0 1 = cc q in omega arith)
    go (stop g) b q = q
