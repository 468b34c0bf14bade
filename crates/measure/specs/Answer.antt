-- What a caller sees of a question about room. Assumes nothing.
use Rattle.std.specs.Prelude.{◌≡◌, List, ℕ}
use Rattle.refinement.specs.orders.Measure.{Measured}

-- the ground that is answered, and the counters as they are left
pub record Measures (a : Measured) (r : ℕ) (tally : List ℕ) : Type 0 where
  pub refusal : r ≡ a.refusal
  pub counters : tally ≡ a.counters
