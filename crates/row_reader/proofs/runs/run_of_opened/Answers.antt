-- `column_runs::run_of_opened` meets its contract. Assumes nothing.
use mathlib.Core.Path.{◌≡◌, ap, ◌∙◌}
use mathlib.Core.List.{[]}
use Rattle.std.specs.Prelude.{ℕ, Result}
use Rattle.run_ends.specs.declared.RunRow.{RunRow}
use Rattle.array_data.specs.entries.Entries.{column}
use Rattle.row_reader.specs.Walk.{run_at}
use Rattle.row_reader.specs.runs.Answers.{refusal, numbers}
use Rattle.row_reader.proofs.runs.run_of_opened.Goals as goal

pub returns : goal.returns
returns c =
    let z = c.args in
    let e : c.run_at-found.result ≡ run_at z.tree.now (column z.lengths.now z.places.now [] z.body.now z.first) z.row = c.run_at-found.ensures in
    let p = c.put_run.ensures in
    record { value = p.value ∙ ap (λ (f : Result RunRow ℕ). refusal f z.answer.now) e; answer_value = p.answer_value ∙ ap (λ (f : Result RunRow ℕ). numbers f z.answer.now) e }
