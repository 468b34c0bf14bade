-- `column_runs::run_at` meets its contract. Assumes nothing.
use mathlib.Core.Path.{◌≡◌, ap, ◌∙◌}
use Rattle.std.specs.Prelude.{ℕ, Result}
use Rattle.run_ends.specs.declared.RunRow.{RunRow}
use Rattle.source_rules.specs.kinds.Rows.{tables_of}
use Rattle.row_reader.specs.runs.Answers.{read_run, refusal, numbers}
use Rattle.row_reader.proofs.runs.run_at.Goals as goal

pub returns : goal.returns
returns c =
    let z = c.args in
    let e : c.read_run-found.result ≡ read_run z.formats.now z.schema.now (tables_of z.lengths.now z.places.now z.buffers.now z.body.now) z.first z.n z.row = c.read_run-found.ensures in
    let p = c.put_run.ensures in
    record { value = p.value ∙ ap (λ (f : Result RunRow ℕ). refusal f z.answer.now) e; answer_value = p.answer_value ∙ ap (λ (f : Result RunRow ℕ). numbers f z.answer.now) e }
