-- What a caller sees of finishing. Assumes nothing.
use Rattle.std.specs.Prelude.{◌≡◌, List, ℕ}
use Rattle.clauses.specs.Slices.{began, left, MutSlice}
use Rattle.refinement.specs.finishing.Finish.{Finished}

-- the ground that is answered, and the four tables as they are left
pub record Answers (a : Finished) (r : ℕ) (lengths nulls places buffers : List ℕ) : Type 0 where
  pub refusal : r ≡ a.refusal
  pub lengths_are : lengths ≡ a.lengths
  pub nulls_are : nulls ≡ a.nulls
  pub places_are : places ≡ a.places
  pub buffers_are : buffers ≡ a.buffers

-- .. of a call that is lent all four
abbrev pub Finishes : (List ℕ → List ℕ → List ℕ → List ℕ → Finished) → (lengths nulls places buffers : MutSlice) → ℕ → Type 0
Finishes finish lengths nulls places buffers r =
    Answers (finish (began lengths) (began nulls) (began places) (began buffers)) r (left lengths) (left nulls) (left places) (left buffers)
