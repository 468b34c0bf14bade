-- `stop_walks::nulls::step_data` meets its contract. Assumes nothing.
use mathlib.Core.Path.{sym, ◌∙◌}
use mathlib.Core.List.{[]}
use Rattle.walk.specs.Nulls.{null_walk}
use Rattle.leaf_walk.specs.Join.{join}
use Rattle.explain.proofs.nulls.Laws.{on_sparse, on_dense, on_runs, on_leaf, leaf_code}
use Rattle.explain.proofs.nulls.step_data.Goals as goal

pub returns-then-code-eq-SPARSE : goal.returns-then-code-eq-SPARSE
returns-then-code-eq-SPARSE c =
    let a = c.args in
    let x = join a.plan.now a.parts.now [] [] [] 0 0 in
    on_sparse x a.depth a.i a.n a.counters.now c.code_of-code.ensures c.if-code-eq-SPARSE.true ∙ c.step_sparse.ensures

pub returns-then-code-eq-DENSE : goal.returns-then-code-eq-DENSE
returns-then-code-eq-DENSE c =
    let a = c.args in
    let x = join a.plan.now a.parts.now [] [] [] 0 0 in
    on_dense x a.depth a.i a.n a.counters.now c.code_of-code.ensures c.if-code-eq-DENSE.true ∙ c.step_dense.ensures a.parts.now a.depth

pub returns-then-code-eq-RUN_END : goal.returns-then-code-eq-RUN_END
returns-then-code-eq-RUN_END c =
    let a = c.args in
    let x = join a.plan.now a.parts.now [] [] [] 0 0 in
    on_runs x a.depth a.i a.n a.counters.now c.code_of-code.ensures c.if-code-eq-RUN_END.true ∙ c.step_run.ensures

pub null_leaf-g-requires : goal.null_leaf-g-requires
null_leaf-g-requires c =
    let a = c.args in
    let x = join a.plan.now a.parts.now [] [] [] 0 0 in
    record { i_bound = c.requires; bound = leaf_code x a.depth a.i a.n a.counters.now c.code_of-code.ensures c.if-code-eq-SPARSE.false c.if-code-eq-DENSE.false c.if-code-eq-RUN_END.false }

pub returns : goal.returns
returns c =
    let a = c.args in
    let x = join a.plan.now a.parts.now [] [] [] 0 0 in
    on_leaf x a.depth a.i a.n a.counters.now c.code_of-code.ensures c.if-code-eq-SPARSE.false c.if-code-eq-DENSE.false c.if-code-eq-RUN_END.false c.at_most_far-m.ensures (c.null_leaf-g.ensures [] [] [] 0 0 (null_walk x a.depth)).answer ∙ sym c.plain.ensures
