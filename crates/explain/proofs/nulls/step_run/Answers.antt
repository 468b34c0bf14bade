-- `stop_walks::nulls::step_run` meets its contract. Assumes nothing.
use mathlib.Core.Path.{sym, ◌∙◌}
use mathlib.Core.List.{[]}
use native.Mathlib.Omega.{arith}
use native.Mathlib.Numerals.{add-one}
use Rattle.leaf_walk.specs.Join.{join}
use Rattle.explain.proofs.stop_walks.Laws.{two_more}
use Rattle.explain.proofs.nulls.Laws.{run_foreign, grow_none, grow_end, run_on, run_here, run_below, ends_low, ends_wide}
use Rattle.explain.proofs.nulls.step_run.Goals as goal

pub returns-then-not-has_ends : goal.returns-then-not-has_ends
returns-then-not-has_ends c =
    let a = c.args in
    let x = join a.plan.now a.parts.now [] [] [] 0 0 in
    run_foreign x a.depth a.i a.n a.counters.now c.has_ends.ensures c.if-not-has_ends.true-raw ∙ sym c.plain.ensures

pub overflow_add-i : goal.overflow_add-i
overflow_add-i c = omega arith

pub rows_of-requires : goal.rows_of-requires
rows_of-requires c =
    let a = c.args in
    let x = join a.plan.now a.parts.now [] [] [] 0 0 in
    omega (arith, ends_low x a.i c.has_ends.ensures c.if-not-has_ends.false-raw)

pub returns-then-rows_of-eq0 : goal.returns-then-rows_of-eq0
returns-then-rows_of-eq0 c =
    let a = c.args in
    let x = join a.plan.now a.parts.now [] [] [] 0 0 in
    grow_none x a.depth a.i a.n a.counters.now c.has_ends.ensures c.if-not-has_ends.false-raw c.bytes_of.ensures c.if-bytes_of-eq2.true (add-one a.i) c.rows_of.ensures c.if-rows_of-eq0.true ∙ sym c.plain-then-rows_of-eq0.ensures

pub step_end-requires : goal.step_end-requires
step_end-requires c =
    let a = c.args in
    let x = join a.plan.now a.parts.now [] [] [] 0 0 in
    record { i_bound = ends_low x a.i c.has_ends.ensures c.if-not-has_ends.false-raw; i_value = ends_wide x a.i c.has_ends.ensures c.if-not-has_ends.false-raw }

pub returns-then-bytes_of-eq2 : goal.returns-then-bytes_of-eq2
returns-then-bytes_of-eq2 c =
    let a = c.args in
    let x = join a.plan.now a.parts.now [] [] [] 0 0 in
    grow_end x a.depth a.i a.n a.counters.now c.has_ends.ensures c.if-not-has_ends.false-raw c.bytes_of.ensures c.if-bytes_of-eq2.true (add-one a.i) c.rows_of.ensures c.if-rows_of-eq0.false ∙ c.step_end.ensures a.parts.now a.depth

pub overflow_add-i-2 : goal.overflow_add-i-2
overflow_add-i-2 c = omega arith

pub step_end-requires-in-On : goal.step_end-requires-in-On
step_end-requires-in-On c =
    let a = c.args in
    let x = join a.plan.now a.parts.now [] [] [] 0 0 in
    record { i_bound = ends_low x a.i c.has_ends.ensures c.if-not-has_ends.false-raw; i_value = ends_wide x a.i c.has_ends.ensures c.if-not-has_ends.false-raw }

pub returns-in-On : goal.returns-in-On
returns-in-On c =
    let a = c.args in
    let x = join a.plan.now a.parts.now [] [] [] 0 0 in
    run_on x a.depth a.i a.n a.counters.now c.has_ends.ensures c.if-not-has_ends.false-raw c.bytes_of.ensures c.if-bytes_of-eq2.false (two_more a.i) c.step_into.ensures c.in-On.is ∙ c.step_end-in-On.ensures a.parts.now a.depth

pub returns-in-Here : goal.returns-in-Here
returns-in-Here c =
    let a = c.args in
    let x = join a.plan.now a.parts.now [] [] [] 0 0 in
    run_here x a.depth a.i a.n a.counters.now c.has_ends.ensures c.if-not-has_ends.false-raw c.bytes_of.ensures c.if-bytes_of-eq2.false (two_more a.i) c.step_into.ensures c.in-Here.is

pub returns-in-Below : goal.returns-in-Below
returns-in-Below c =
    let a = c.args in
    let x = join a.plan.now a.parts.now [] [] [] 0 0 in
    run_below x a.depth a.i a.n a.counters.now c.has_ends.ensures c.if-not-has_ends.false-raw c.bytes_of.ensures c.if-bytes_of-eq2.false (two_more a.i) c.step_into.ensures c.in-Below.is
