-- `lafkuno::reading::lafkuno_read_row` meets its contract. Assumes nothing.
use mathlib.Core.Path.{ap, ◌∙◌}
use native.Mathlib.Omega.{arith}
use Rattle.array_data.specs.entries.Entries.{column}
use Rattle.lafkuno.specs.Calls.{row_kind}
use Rattle.lafkuno.proofs.Laws.{kind_refused, kind_short, kind_read, answer_kept, row_read}
use Rattle.lafkuno.proofs.reading.lafkuno_read_row.Goals as goal

pub returns-then-kind-ge16 : goal.returns-then-kind-ge16
returns-then-kind-ge16 c =
    let z = c.args in
    let x = column z.lengths.now z.places.now z.buffers.now z.body.now z.first in
    let k = c.row_kind-kind.ensures ∙ ap row_kind c.row_at-found.ensures.fact.0 in
    let e = kind_refused z.tree.now x z.row z.answer.now _ k (omega arith) in
    record { value = e; answer_value = answer_kept z.tree.now x z.row z.answer.now _ e (omega arith) }

pub returns-then-answer-ne12 : goal.returns-then-answer-ne12
returns-then-answer-ne12 c =
    let z = c.args in
    let x = column z.lengths.now z.places.now z.buffers.now z.body.now z.first in
    let k = c.row_kind-kind.ensures ∙ ap row_kind c.row_at-found.ensures.fact.0 in
    let e = kind_short z.tree.now x z.row z.answer.now _ k (omega arith) c.if-answer-ne12.true in
    record { value = e; answer_value = answer_kept z.tree.now x z.row z.answer.now 30 e (omega arith) }

pub returns : goal.returns
returns c =
    let a = c.row_at-found in
    let z = c.args in
    let x = column z.lengths.now z.places.now z.buffers.now z.body.now z.first in
    let h = c.if-answer-ne12.false in
    let k = c.row_kind-kind.ensures ∙ ap row_kind a.ensures.fact.0 in
    let e = kind_read z.tree.now x z.row z.answer.now _ k (omega arith) h in
    record { value = e; answer_value = c.copy_words.ensures ∙ row_read z.tree.now x z.row z.answer.now _ e (omega arith) _ _ _ _ _ _ h (omega arith) a.ensures.fact.0 a.ensures.fact.1 a.ensures.ids_value c.copied_ids.ensures c.row_numbers.ensures c.row_words-words.ensures }
