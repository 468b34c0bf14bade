-- `row_reader::step_slot` meets its contract. Assumes nothing.
use mathlib.Core.Path.{sym, ap, ◌∙◌}
use Rattle.array_data.specs.entries.Entries.{column}
use Rattle.row_reader.specs.declared.Step.TheVariants as step
use Rattle.row_reader.proofs.Laws.{step_sparse, step_dense, step_runs, step_leaf}
use Rattle.row_reader.proofs.step_slot.Goals as goal

pub returns-then-is_sparse : goal.returns-then-is_sparse
returns-then-is_sparse c =
    let z = c.args in
    let y = column z.lengths.now z.places.now z.buffers.now z.body.now z.first in
    c.step_sparse.ensures ∙ step_sparse z.tree.now y z.i z.slot _ c.code_word-code.ensures (sym c.is_sparse.ensures ∙ c.if-is_sparse.true)

pub returns-then-is_union : goal.returns-then-is_union
returns-then-is_union c =
    let z = c.args in
    let y = column z.lengths.now z.places.now z.buffers.now z.body.now z.first in
    c.step_dense.ensures ∙ step_dense z.tree.now y z.i z.slot _ c.code_word-code.ensures (sym c.is_sparse.ensures ∙ c.if-is_sparse.false) (sym c.is_union.ensures ∙ c.if-is_union.true)

pub returns-then-is_run_end : goal.returns-then-is_run_end
returns-then-is_run_end c =
    let z = c.args in
    let y = column z.lengths.now z.places.now z.buffers.now z.body.now z.first in
    c.step_runs.ensures ∙ step_runs z.tree.now y z.i z.slot _ c.code_word-code.ensures (sym c.is_run_end.ensures ∙ c.if-is_run_end.true)

pub returns : goal.returns
returns c =
    let z = c.args in
    let y = column z.lengths.now z.places.now z.buffers.now z.body.now z.first in
    ap step.Done c.read_slot.ensures ∙ step_leaf z.tree.now y z.i z.slot _ c.code_word-code.ensures (sym c.is_union.ensures ∙ c.if-is_union.false) (sym c.is_run_end.ensures ∙ c.if-is_run_end.false)
