-- `stop_walks::step_data` meets its contract. Assumes nothing.
use mathlib.Core.Path.{sym, ◌∙◌}
use Rattle.walk.specs.Copy.{copy_walk}
use Rattle.leaf_walk.specs.Join.{join}
use Rattle.nested_rows.proofs.node_data.Laws.{string_wide, list_wide, lists_wide}
use Rattle.explain.proofs.stop_walks.Whole.{on_string, on_view, on_list, on_sparse, on_dense, on_runs, on_leaf, leaf_code}
use Rattle.explain.proofs.stop_walks.step_data.Goals as goal

pub step_string-requires : goal.step_string-requires
step_string-requires c =
    let a = c.args in
    record { first_bound = (c.requires.0, c.requires.2, c.requires.3); w_value = string_wide a.plan.now a.i c.code_of-code.ensures c.width_at-w.ensures c.is_string.ensures c.if-is_string.true }

pub returns-then-is_string : goal.returns-then-is_string
returns-then-is_string c =
    let a = c.args in
    let x = join a.plan.now a.parts.now a.lengths.now a.places.now a.body.now a.first a.source in
    on_string x a.depth a.i a.slot a.n a.counters.now c.code_of-code.ensures c.width_at-w.ensures c.is_string.ensures c.if-is_string.true ∙ c.step_string.ensures a.parts.now a.lengths.now a.source a.depth

pub step_list_view-requires : goal.step_list_view-requires
step_list_view-requires c =
    let a = c.args in
    record { first_bound = c.requires; w_value = list_wide a.plan.now a.i c.code_of-code.ensures c.width_at-w.ensures c.is_list_view.ensures c.if-is_list_view.true }

pub returns-then-is_list_view : goal.returns-then-is_list_view
returns-then-is_list_view c =
    let a = c.args in
    let x = join a.plan.now a.parts.now a.lengths.now a.places.now a.body.now a.first a.source in
    on_view x a.depth a.i a.slot a.n a.counters.now c.code_of-code.ensures c.width_at-w.ensures c.is_string.ensures c.if-is_string.false c.is_list_view.ensures c.if-is_list_view.true ∙ c.step_list_view.ensures

pub step_list-requires : goal.step_list-requires
step_list-requires c =
    let a = c.args in
    record { first_bound = (c.requires.0, c.requires.2, c.requires.3); w_value = lists_wide a.plan.now a.i c.code_of-code.ensures c.width_at-w.ensures c.is_list.ensures c.if-is_list.true }

pub returns-then-is_list : goal.returns-then-is_list
returns-then-is_list c =
    let a = c.args in
    let x = join a.plan.now a.parts.now a.lengths.now a.places.now a.body.now a.first a.source in
    on_list x a.depth a.i a.slot a.n a.counters.now c.code_of-code.ensures c.width_at-w.ensures c.is_string.ensures c.if-is_string.false c.is_list_view.ensures c.if-is_list_view.false c.is_list.ensures c.if-is_list.true ∙ c.step_list.ensures a.lengths.now a.source a.depth

pub step_sparse-requires : goal.step_sparse-requires
step_sparse-requires c = c.requires

pub returns-then-code-eq-SPARSE : goal.returns-then-code-eq-SPARSE
returns-then-code-eq-SPARSE c =
    let a = c.args in
    let x = join a.plan.now a.parts.now a.lengths.now a.places.now a.body.now a.first a.source in
    on_sparse x a.depth a.i a.slot a.n a.counters.now c.code_of-code.ensures c.width_at-w.ensures c.is_string.ensures c.if-is_string.false c.is_list_view.ensures c.if-is_list_view.false c.is_list.ensures c.if-is_list.false c.if-code-eq-SPARSE.true ∙ c.step_sparse.ensures

pub step_dense-requires : goal.step_dense-requires
step_dense-requires c = c.requires

pub returns-then-code-eq-DENSE : goal.returns-then-code-eq-DENSE
returns-then-code-eq-DENSE c =
    let a = c.args in
    let x = join a.plan.now a.parts.now a.lengths.now a.places.now a.body.now a.first a.source in
    on_dense x a.depth a.i a.slot a.n a.counters.now c.code_of-code.ensures c.width_at-w.ensures c.is_string.ensures c.if-is_string.false c.is_list_view.ensures c.if-is_list_view.false c.is_list.ensures c.if-is_list.false c.if-code-eq-DENSE.true ∙ c.step_dense.ensures

pub step_run-requires : goal.step_run-requires
step_run-requires c = (c.requires.0, c.requires.2, c.requires.3)

pub returns-then-code-eq-RUN_END : goal.returns-then-code-eq-RUN_END
returns-then-code-eq-RUN_END c =
    let a = c.args in
    let x = join a.plan.now a.parts.now a.lengths.now a.places.now a.body.now a.first a.source in
    on_runs x a.depth a.i a.slot a.n a.counters.now c.code_of-code.ensures c.width_at-w.ensures c.is_string.ensures c.if-is_string.false c.is_list_view.ensures c.if-is_list_view.false c.is_list.ensures c.if-is_list.false c.if-code-eq-RUN_END.true ∙ c.step_run.ensures a.parts.now a.source a.depth

pub copy_leaf-g-requires : goal.copy_leaf-g-requires
copy_leaf-g-requires c =
    let a = c.args in
    let x = join a.plan.now a.parts.now a.lengths.now a.places.now a.body.now a.first a.source in
    record { first_bound = (c.requires.0, c.requires.2, c.requires.3, c.requires.1); bound = leaf_code x a.depth a.i a.slot a.n a.counters.now c.code_of-code.ensures c.width_at-w.ensures c.is_string.ensures c.if-is_string.false c.is_list_view.ensures c.if-is_list_view.false c.is_list.ensures c.if-is_list.false c.if-code-eq-SPARSE.false c.if-code-eq-DENSE.false c.if-code-eq-RUN_END.false }

pub returns : goal.returns
returns c =
    let a = c.args in
    let x = join a.plan.now a.parts.now a.lengths.now a.places.now a.body.now a.first a.source in
    on_leaf x a.depth a.i a.slot a.n a.counters.now c.code_of-code.ensures c.width_at-w.ensures c.is_string.ensures c.if-is_string.false c.is_list_view.ensures c.if-is_list_view.false c.is_list.ensures c.if-is_list.false c.if-code-eq-SPARSE.false c.if-code-eq-DENSE.false c.if-code-eq-RUN_END.false (c.copy_leaf-g.ensures a.lengths.now (copy_walk x a.depth)).answer ∙ sym c.plain.ensures
