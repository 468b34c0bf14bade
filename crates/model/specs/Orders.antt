-- Orders on a destination: one, and any list of them, refused ones included. Assumes nothing.
use Rattle.std.specs.Prelude.{List, [], ◌∷◌, ℕ}
use Rattle.columnar.specs.Types.{Ty}
use Rattle.columnar.specs.Reading.{Column}
use Rattle.model.specs.Try.{Try, after}
use Rattle.model.specs.Mutable.{Mutable}
use Rattle.model.specs.Runs.{Runs, runs_null}
use Rattle.model.specs.Book.{Call, copy, nulls}
use Rattle.model.specs.Transform.{Destination, try_extend, try_extend_nulls}

module _ (runs : (D : Type 0) → ℕ → (ℕ → Mutable D → Try (Mutable D)) → ℕ → Runs D → Try (Runs D)) (t : Ty) (m : ℕ) (ss : ℕ → Column t) where
  -- one order; `runs` is what nulls do at a run-end node
  abbrev pub perform_by : Call → Destination t → Try (Destination t)
  perform_by (copy j a e) d = try_extend t m ss j a e d
  perform_by (nulls n) d = try_extend_nulls runs t n d

module _ (t : Ty) (m : ℕ) (ss : ℕ → Column t) where
  abbrev pub perform : Call → Destination t → Try (Destination t)
  perform = perform_by (λ D. runs_null {D = D}) t m ss

  -- "After an error .. the port keeps nothing"
  abbrev pub perform_all : List Call → Destination t → Destination t
  perform_all [] d = d
  perform_all (o ∷ os) d = perform_all os (after (perform o d) d)
