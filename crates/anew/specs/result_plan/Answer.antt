-- What a caller sees of a question about a column that is written anew. Assumes nothing.
use Rattle.std.specs.Prelude.{◌≡◌, List, ℕ}
use Rattle.anew.specs.Anew.{Asking}

-- the ground that is answered, and the plan and the counters as they are left
pub record Asks (a : Asking) (r : ℕ) (words tally : List ℕ) : Type 0 where
  pub refusal : r ≡ a.refusal
  pub plan : words ≡ a.plan
  pub counters : tally ≡ a.counters
