-- NULL ORDERS AS THE RUST HAS THEM, with no choice of one run for a gap: each adds a run, whatever was written before. The rest of the model reads no gap.
-- Follows arrow-data 60.1.0 src/transform/run.rs and mod.rs, Apache-2.0; see NOTICE. Assumes nothing.
use Rattle.std.specs.Prelude.{◌≡◌, ℕ, ◌+◌, ltb}
use Rattle.number.specs.Number.{encode}
use Rattle.columnar.specs.Types.{half, Ty, t_plain, t_view, t_list_view, t_list, t_sparse, t_dense, t_run_end, t_dictionary}
use Rattle.columnar.specs.Reading.{Column}
use Rattle.model.specs.Try.{Try, done, then, guard}
use Rattle.model.specs.Mutable.{Mutable}
use Rattle.model.specs.Runs.{Runs, last_end, more_ends}
use Rattle.model.specs.Transform.{Grown, Destination}
use Rattle.model.specs.Book.{Call}
use Rattle.model.specs.Orders.{perform_by}

-- `extend_nulls` of run.rs: "A nonempty null order adds one run and one null value"
abbrev pub rust_runs : {D : Type 0} → ℕ → (ℕ → Mutable D → Try (Mutable D)) → ℕ → Runs D → Try (Runs D)
rust_runs w fill n d =
    then (fill 1 d.values)
    (λ v. guard (ltb (last_end w d.ends + n) (half w)) 7 (done (record { ends = more_ends (encode w (last_end w d.ends + n)) 1 d.ends; values = v; gap = d.gap })))

-- one order of the Rust: it differs from the model's (model/specs/Orders.antt) in that alone
abbrev pub rust_perform : (t : Ty) → ℕ → (ℕ → Column t) → Call → Destination t → Try (Destination t)
rust_perform = perform_by (λ D. rust_runs {D = D})

-- no run-end node has the choice
abbrev pub NoGaps : (t : Ty) → Grown t → Type 0
NoGaps (t_plain p) = λ d. Unit {0}
NoGaps t_view = λ d. Unit {0}
NoGaps (t_list_view w t) = λ d. NoGaps t d.child.«data»
NoGaps (t_list w t) = λ d. NoGaps t d.child.«data»
NoGaps (t_sparse ids nullable f) = λ d. (c : ℕ) → NoGaps (f c) (d.children c).«data»
NoGaps (t_dense ids nullable f) = λ d. (c : ℕ) → NoGaps (f c) (d.children c).«data»
NoGaps (t_run_end w t) = λ d. (d.gap ≡ 0) × NoGaps t d.values.«data»
NoGaps (t_dictionary k p) = λ d. Unit {0}
