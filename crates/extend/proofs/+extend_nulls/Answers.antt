use native.Mathlib.Omega.{arith}
use mathlib.Core.Path.{◌≡◌}
use Prim.Native.Nat.{suc, ◌+◌, ℕ, ◌-◌}
use mathlib.Core.List.{[]}
use borrow.Author.Rules.{rules}
use Rattle.walk.specs.Nulls.{null_walk}
use Rattle.leaf_walk.specs.Join.{join}
use Rattle.nested_rows.proofs.Laws.{ends_ready}
use Rattle.extend.proofs.NullLaws.{at_none, at_zero, at_out, at_data, at_valid, at_done, leaf_code, to_sparse, to_dense, to_runs, runs_none, runs_grow, runs_stop, runs_go, fields_none, fields_over, fields_stop, fields_more, sparse_none, sparse_stop, sparse_go, dense_none, dense_stop, dense_go}
use native.Mathlib.Numerals.{add-one}
use Rattle.extend.proofs.+extend_nulls.Goals as goal

pub add_two : (i : ℕ) → i + 2 ≡ suc (suc i)
add_two i = omega arith

pub extend_nulls-returns-then-depth-eq0 : goal.extend_nulls-returns-then-depth-eq0
extend_nulls-returns-then-depth-eq0 t c =
    let a = c.args in
    at_none (join a.plan.now a.parts.now [] [] [] 0 0) a.write a.depth a.i a.n a.counters.now a.room.now c.if-depth-eq0.true

pub extend_nulls-returns-then-n-eq0 : goal.extend_nulls-returns-then-n-eq0
extend_nulls-returns-then-n-eq0 t c =
    let a = c.args in
    at_zero (join a.plan.now a.parts.now [] [] [] 0 0) a.write a.depth a.i a.n a.counters.now a.room.now c.if-depth-eq0.false c.if-n-eq0.true

pub extend_nulls-returns-then-i-ge32 : goal.extend_nulls-returns-then-i-ge32
extend_nulls-returns-then-i-ge32 t c =
    let a = c.args in
    at_out (join a.plan.now a.parts.now [] [] [] 0 0) a.write a.depth a.i a.n a.counters.now a.room.now c.if-depth-eq0.false c.if-n-eq0.false c.if-i-ge32.true

pub extend_nulls-extend_nulls_data-g-requires : goal.extend_nulls-extend_nulls_data-g-requires
extend_nulls-extend_nulls_data-g-requires t c = omega arith

pub extend_nulls-returns-then-g-ne0 : goal.extend_nulls-returns-then-g-ne0
extend_nulls-returns-then-g-ne0 t c =
    let a = c.args in
    at_data (join a.plan.now a.parts.now [] [] [] 0 0) a.write a.depth a.i a.n a.counters.now a.room.now c.if-depth-eq0.false c.if-n-eq0.false c.if-i-ge32.false c.extend_nulls_data-g.ensures c.if-g-ne0.true

pub extend_nulls-returns-then-g-ne0-2 : goal.extend_nulls-returns-then-g-ne0-2
extend_nulls-returns-then-g-ne0-2 t c =
    let a = c.args in
    at_valid (join a.plan.now a.parts.now [] [] [] 0 0) a.write a.depth a.i a.n a.counters.now a.room.now c.if-depth-eq0.false c.if-n-eq0.false c.if-i-ge32.false c.extend_nulls_data-g.ensures c.if-g-ne0.false (c.null_validity-g.ensures [] [] [] 0 0) c.if-g-ne0-2.true

pub extend_nulls-returns : goal.extend_nulls-returns
extend_nulls-returns t c =
    let a = c.args in
    at_done (join a.plan.now a.parts.now [] [] [] 0 0) a.write a.depth a.i a.n a.counters.now a.room.now c.if-depth-eq0.false c.if-n-eq0.false c.if-i-ge32.false c.extend_nulls_data-g.ensures c.if-g-ne0.false (c.null_validity-g.ensures [] [] [] 0 0) c.if-g-ne0-2.false c.add_rows.ensures

pub extend_nulls_data-extend_nulls_sparse-requires : goal.extend_nulls_data-extend_nulls_sparse-requires
extend_nulls_data-extend_nulls_sparse-requires t c = omega arith

pub extend_nulls_data-returns-then-code-eq-SPARSE : goal.extend_nulls_data-returns-then-code-eq-SPARSE
extend_nulls_data-returns-then-code-eq-SPARSE t c =
    let a = c.args in
    to_sparse (join a.plan.now a.parts.now [] [] [] 0 0) (null_walk (join a.plan.now a.parts.now [] [] [] 0 0) a.depth) a.write a.i a.n a.counters.now a.room.now c.code_of-code.ensures c.if-code-eq-SPARSE.true c.extend_nulls_sparse.ensures

pub extend_nulls_data-extend_nulls_dense-requires : goal.extend_nulls_data-extend_nulls_dense-requires
extend_nulls_data-extend_nulls_dense-requires t c = omega arith

pub extend_nulls_data-returns-then-code-eq-DENSE : goal.extend_nulls_data-returns-then-code-eq-DENSE
extend_nulls_data-returns-then-code-eq-DENSE t c =
    let a = c.args in
    to_dense (join a.plan.now a.parts.now [] [] [] 0 0) (null_walk (join a.plan.now a.parts.now [] [] [] 0 0) a.depth) a.write a.i a.n a.counters.now a.room.now c.code_of-code.ensures c.if-code-eq-DENSE.true c.extend_nulls_dense.ensures

pub extend_nulls_data-extend_nulls_run-requires : goal.extend_nulls_data-extend_nulls_run-requires
extend_nulls_data-extend_nulls_run-requires t c = omega arith

pub extend_nulls_data-returns-then-code-eq-RUN_END : goal.extend_nulls_data-returns-then-code-eq-RUN_END
extend_nulls_data-returns-then-code-eq-RUN_END t c =
    let a = c.args in
    to_runs (join a.plan.now a.parts.now [] [] [] 0 0) (null_walk (join a.plan.now a.parts.now [] [] [] 0 0) a.depth) a.write a.i a.n a.counters.now a.room.now c.code_of-code.ensures c.if-code-eq-RUN_END.true c.extend_nulls_run.ensures

pub extend_nulls_data-null_leaf-requires : goal.extend_nulls_data-null_leaf-requires
extend_nulls_data-null_leaf-requires t c =
    let a = c.args in
    record { i_bound = search rules; bound = leaf_code a.plan.now a.i c.code_of-code.ensures c.if-code-eq-SPARSE.false c.if-code-eq-DENSE.false c.if-code-eq-RUN_END.false }

pub extend_nulls_data-returns : goal.extend_nulls_data-returns
extend_nulls_data-returns t c =
    let a = c.args in
    c.null_leaf.ensures [] [] [] 0 0 (null_walk (join a.plan.now a.parts.now [] [] [] 0 0) a.depth)

pub union::extend_nulls_dense-returns-then-h-ge32 : goal.union::extend_nulls_dense-returns-then-h-ge32
union::extend_nulls_dense-returns-then-h-ge32 t c =
    let a = c.args in
    dense_none (join a.plan.now a.parts.now [] [] [] 0 0) (null_walk (join a.plan.now a.parts.now [] [] [] 0 0) a.depth) a.write a.i a.n a.counters.now a.room.now c.null_home-h.ensures.value c.if-h-ge32.true c.no_home.ensures

pub union::extend_nulls_dense-returns-then-g-ne0 : goal.union::extend_nulls_dense-returns-then-g-ne0
union::extend_nulls_dense-returns-then-g-ne0 t c =
    let a = c.args in
    dense_stop (join a.plan.now a.parts.now [] [] [] 0 0) (null_walk (join a.plan.now a.parts.now [] [] [] 0 0) a.depth) a.write a.i a.n a.counters.now a.room.now c.null_home-h.ensures.value c.if-h-ge32.false c.null_positions-g.ensures c.if-g-ne0.true

pub union::extend_nulls_dense-extend_nulls-requires : goal.union::extend_nulls_dense-extend_nulls-requires
union::extend_nulls_dense-extend_nulls-requires t c = omega arith

pub union::extend_nulls_dense-returns : goal.union::extend_nulls_dense-returns
union::extend_nulls_dense-returns t c =
    let a = c.args in
    dense_go (join a.plan.now a.parts.now [] [] [] 0 0) (null_walk (join a.plan.now a.parts.now [] [] [] 0 0) a.depth) a.write a.i a.n a.counters.now a.room.now c.null_home-h.ensures.value c.if-h-ge32.false c.null_positions-g.ensures c.if-g-ne0.false c.extend_nulls.ensures

pub run::extend_nulls_run-returns-then-not-has_ends : goal.run::extend_nulls_run-returns-then-not-has_ends
run::extend_nulls_run-returns-then-not-has_ends t c =
    let a = c.args in
    runs_none (join a.plan.now a.parts.now [] [] [] 0 0) (null_walk (join a.plan.now a.parts.now [] [] [] 0 0) a.depth) a.write a.i a.n a.counters.now a.room.now c.has_ends.ensures c.if-not-has_ends.true-raw

pub run::extend_nulls_run-longer_end-requires : goal.run::extend_nulls_run-longer_end-requires
run::extend_nulls_run-longer_end-requires t c =
    let a = c.args in
    let both = ends_ready a.i _ c.has_ends.ensures c.if-not-has_ends.false-raw in record { i_bound = both.0; i_value = both.1 }

pub run::extend_nulls_run-returns-then-bytes_of-eq2 : goal.run::extend_nulls_run-returns-then-bytes_of-eq2
run::extend_nulls_run-returns-then-bytes_of-eq2 t c =
    let a = c.args in
    runs_grow (join a.plan.now a.parts.now [] [] [] 0 0) (null_walk (join a.plan.now a.parts.now [] [] [] 0 0) a.depth) a.write a.i a.n a.counters.now a.room.now c.has_ends.ensures c.if-not-has_ends.false-raw c.bytes_of.ensures c.if-bytes_of-eq2.true c.longer_end.ensures

pub run::extend_nulls_run-extend_nulls-g-requires : goal.run::extend_nulls_run-extend_nulls-g-requires
run::extend_nulls_run-extend_nulls-g-requires t c = omega (arith, c.decreases)

pub run::extend_nulls_run-returns-then-g-ne0 : goal.run::extend_nulls_run-returns-then-g-ne0
run::extend_nulls_run-returns-then-g-ne0 t c =
    let a = c.args in
    runs_stop (join a.plan.now a.parts.now [] [] [] 0 0) (null_walk (join a.plan.now a.parts.now [] [] [] 0 0) a.depth) a.write a.i a.n a.counters.now a.room.now c.has_ends.ensures c.if-not-has_ends.false-raw c.bytes_of.ensures c.if-bytes_of-eq2.false (add_two a.i) c.extend_nulls-g.ensures c.if-g-ne0.true

pub run::extend_nulls_run-null_end-requires : goal.run::extend_nulls_run-null_end-requires
run::extend_nulls_run-null_end-requires t c =
    let a = c.args in
    let both = ends_ready a.i _ c.has_ends.ensures c.if-not-has_ends.false-raw in record { i_bound = both.0; i_value = both.1 }

pub run::extend_nulls_run-returns : goal.run::extend_nulls_run-returns
run::extend_nulls_run-returns t c =
    let a = c.args in
    runs_go (join a.plan.now a.parts.now [] [] [] 0 0) (null_walk (join a.plan.now a.parts.now [] [] [] 0 0) a.depth) a.write a.i a.n a.counters.now a.room.now c.has_ends.ensures c.if-not-has_ends.false-raw c.bytes_of.ensures c.if-bytes_of-eq2.false (add_two a.i) c.extend_nulls-g.ensures c.if-g-ne0.false c.null_end.ensures

pub union::extend_nulls_sparse-returns-then-h-ge32 : goal.union::extend_nulls_sparse-returns-then-h-ge32
union::extend_nulls_sparse-returns-then-h-ge32 t c =
    let a = c.args in
    sparse_none (join a.plan.now a.parts.now [] [] [] 0 0) (null_walk (join a.plan.now a.parts.now [] [] [] 0 0) a.depth) a.write a.i a.n a.counters.now a.room.now c.null_home-h.ensures.value c.if-h-ge32.true c.no_home.ensures

pub union::extend_nulls_sparse-null_ids-g-requires : goal.union::extend_nulls_sparse-null_ids-g-requires
union::extend_nulls_sparse-null_ids-g-requires t c = omega arith

pub union::extend_nulls_sparse-returns-then-g-ne0 : goal.union::extend_nulls_sparse-returns-then-g-ne0
union::extend_nulls_sparse-returns-then-g-ne0 t c =
    let a = c.args in
    sparse_stop (join a.plan.now a.parts.now [] [] [] 0 0) (null_walk (join a.plan.now a.parts.now [] [] [] 0 0) a.depth) a.write a.i a.n a.counters.now a.room.now c.null_home-h.ensures.value c.if-h-ge32.false c.null_ids-g.ensures c.if-g-ne0.true

pub union::extend_nulls_sparse-loop-t-init : goal.union::extend_nulls_sparse-loop-t-init
union::extend_nulls_sparse-loop-t-init t c = λ g c2 room2 d. d

pub union::extend_nulls_sparse-returns-then-end-k : goal.union::extend_nulls_sparse-returns-then-end-k
union::extend_nulls_sparse-returns-then-end-k t c =
    let a = c.args in
    let l = c.loop-t in
    sparse_go (join a.plan.now a.parts.now [] [] [] 0 0) (null_walk (join a.plan.now a.parts.now [] [] [] 0 0) a.depth) a.write a.i a.n a.counters.now a.room.now c.null_home-h.ensures.value c.if-h-ge32.false c.null_ids-g.ensures c.if-g-ne0.false c.end_of-end.ensures.value (add-one a.i) (l.invariant _ _ _ (fields_none (join a.plan.now a.parts.now [] [] [] 0 0) (null_walk (join a.plan.now a.parts.now [] [] [] 0 0) a.depth) a.write a.n c.end_of-end.result l.k _ _ (32 - l._t) c.if-end-k.true))

pub union::extend_nulls_sparse-extend_nulls-g-requires : goal.union::extend_nulls_sparse-extend_nulls-g-requires
union::extend_nulls_sparse-extend_nulls-g-requires t c = omega arith

pub union::extend_nulls_sparse-returns-then-g-ne0-2 : goal.union::extend_nulls_sparse-returns-then-g-ne0-2
union::extend_nulls_sparse-returns-then-g-ne0-2 t c =
    let a = c.args in
    let l = c.loop-t in
    let z : 32 - l._t ≡ suc (32 - (l._t + 1)) = omega arith in
    sparse_go (join a.plan.now a.parts.now [] [] [] 0 0) (null_walk (join a.plan.now a.parts.now [] [] [] 0 0) a.depth) a.write a.i a.n a.counters.now a.room.now c.null_home-h.ensures.value c.if-h-ge32.false c.null_ids-g.ensures c.if-g-ne0.false c.end_of-end.ensures.value (add-one a.i) (l.invariant _ _ _ (fields_stop (join a.plan.now a.parts.now [] [] [] 0 0) (null_walk (join a.plan.now a.parts.now [] [] [] 0 0) a.depth) a.write a.n c.end_of-end.result l.k _ _ z c.if-end-k.false c.extend_nulls-g.ensures c.if-g-ne0-2.true))

pub union::extend_nulls_sparse-end_of-k-requires : goal.union::extend_nulls_sparse-end_of-k-requires
union::extend_nulls_sparse-end_of-k-requires t c = omega (arith, c.end_of-end.ensures.upper_bound)

pub union::extend_nulls_sparse-loop-t-preserved : goal.union::extend_nulls_sparse-loop-t-preserved
union::extend_nulls_sparse-loop-t-preserved t c =
    let a = c.args in
    let l = c.loop-t in
    let z : 32 - l._t ≡ suc (32 - (l._t + 1)) = omega arith in
    λ g c2 room2 d. l.invariant _ _ _ (fields_more (join a.plan.now a.parts.now [] [] [] 0 0) (null_walk (join a.plan.now a.parts.now [] [] [] 0 0) a.depth) a.write a.n c.end_of-end.result l.k _ _ z c.if-end-k.false c.extend_nulls-g.ensures c.if-g-ne0-2.false c.end_of-k.ensures.value d)

pub union::extend_nulls_sparse-returns : goal.union::extend_nulls_sparse-returns
union::extend_nulls_sparse-returns t c =
    let a = c.args in
    let l = c.loop-t in
    sparse_go (join a.plan.now a.parts.now [] [] [] 0 0) (null_walk (join a.plan.now a.parts.now [] [] [] 0 0) a.depth) a.write a.i a.n a.counters.now a.room.now c.null_home-h.ensures.value c.if-h-ge32.false c.null_ids-g.ensures c.if-g-ne0.false c.end_of-end.ensures.value (add-one a.i) (l.invariant _ _ _ (fields_over (join a.plan.now a.parts.now [] [] [] 0 0) (null_walk (join a.plan.now a.parts.now [] [] [] 0 0) a.depth) a.write a.n c.end_of-end.result l.k _ _ (omega arith)))
