-- `stop_walks::runs::step_run` meets its contract. Assumes nothing.
use mathlib.Core.Path.{sym, ◌∙◌}
use mathlib.Core.Bool.{false}
use mathlib.Core.List.{[]}
use native.Mathlib.Omega.{arith}
use native.Mathlib.Numerals.{add-one}
use Rattle.walk.specs.Copy.{copy_walk}
use Rattle.leaf_walk.specs.Join.{join}
use Rattle.extend.proofs.Laws.{runs_ready_lem, runs_wide, runs_inside}
use Rattle.explain.proofs.stop_walks.Nodes.{ends_low, ends_wide, run_none, end_wide_lem, run_clash, run_foreign, run_values, run_past}
use Rattle.explain.proofs.stop_walks.Laws.{two_more}
use Rattle.explain.proofs.runs.step_run.Goals as goal

pub returns-then-n-eq0 : goal.returns-then-n-eq0
returns-then-n-eq0 c =
    let a = c.args in
    λ parts source depth. run_none (join a.plan.now parts a.lengths.now a.places.now a.body.now a.first source) depth a.i a.slot a.n a.counters.now c.if-n-eq0.true

pub overflow_add-i : goal.overflow_add-i
overflow_add-i c = omega arith

pub width_at-requires : goal.width_at-requires
width_at-requires c =
    let a = c.args in
    let y = join a.plan.now [] a.lengths.now a.places.now a.body.now a.first 0 in omega (arith, ends_low y a.i (end_wide_lem y 0 a.i a.slot a.n a.counters.now c.if-n-eq0.false (c.runs_ready-g.ensures [] [] 0 false).answer c.if-g-eq-RUN_END.true))

pub largest-requires : goal.largest-requires
largest-requires c =
    let a = c.args in
    let y = join a.plan.now [] a.lengths.now a.places.now a.body.now a.first 0 in ends_wide y a.i (end_wide_lem y 0 a.i a.slot a.n a.counters.now c.if-n-eq0.false (c.runs_ready-g.ensures [] [] 0 false).answer c.if-g-eq-RUN_END.true) (add-one a.i) c.width_at.ensures

pub returns-then-g-eq-RUN_END : goal.returns-then-g-eq-RUN_END
returns-then-g-eq-RUN_END c =
    let a = c.args in
    λ parts source depth. run_clash (join a.plan.now parts a.lengths.now a.places.now a.body.now a.first source) depth a.i a.slot a.n a.counters.now c.if-n-eq0.false (c.runs_ready-g.ensures parts [] source false).answer c.if-g-eq-RUN_END.true c.rows_of.ensures c.grow.ensures (rw (add-one a.i) at c.width_at.ensures) c.largest.ensures

pub returns-then-g-ne0 : goal.returns-then-g-ne0
returns-then-g-ne0 c =
    let a = c.args in
    λ parts source depth. run_foreign (join a.plan.now parts a.lengths.now a.places.now a.body.now a.first source) depth a.i a.slot a.n a.counters.now c.if-n-eq0.false (c.runs_ready-g.ensures parts [] source false).answer c.if-g-eq-RUN_END.false c.if-g-ne0.true ∙ sym c.plain.ensures

pub overflow_add-i-2 : goal.overflow_add-i-2
overflow_add-i-2 c = omega arith

pub width_at-w-requires : goal.width_at-w-requires
width_at-w-requires c =
    let a = c.args in
    let y = join a.plan.now [] a.lengths.now a.places.now a.body.now a.first 0 in omega (arith, (runs_ready_lem y (copy_walk y 0) false a.i a.slot a.n a.counters.now [] c.if-n-eq0.false (c.runs_ready-g.ensures [] [] 0 false) c.if-g-ne0.false).low)

pub runs_at-requires : goal.runs_at-requires
runs_at-requires c =
    let a = c.args in
    let y = join a.plan.now [] a.lengths.now a.places.now a.body.now a.first 0 in let r = runs_ready_lem y (copy_walk y 0) false a.i a.slot a.n a.counters.now [] c.if-n-eq0.false (c.runs_ready-g.ensures [] [] 0 false) c.if-g-ne0.false in record { first_bound = (c.requires.0, r.low, omega arith); w_value = runs_wide y a.i a.n a.counters.now (add-one a.i) c.width_at-w.ensures r; i_in_bounds = runs_inside y a.i a.n a.counters.now (add-one a.i) c.width_at-w.ensures r }

pub returns-in-Some : goal.returns-in-Some
returns-in-Some c =
    let a = c.args in
    λ parts source depth. run_values (join a.plan.now parts a.lengths.now a.places.now a.body.now a.first source) depth a.i a.slot a.n a.counters.now c.if-n-eq0.false (c.runs_ready-g.ensures parts [] source false).answer c.if-g-ne0.false (rw (add-one a.i) at c.width_at-w.ensures) (c.runs_at.ensures a.plan.now parts source (copy_walk (join a.plan.now parts a.lengths.now a.places.now a.body.now a.first source) depth)) c.in-Some.is (two_more a.i)

pub returns-in-None : goal.returns-in-None
returns-in-None c =
    let a = c.args in
    λ parts source depth. run_past (join a.plan.now parts a.lengths.now a.places.now a.body.now a.first source) depth a.i a.slot a.n a.counters.now c.if-n-eq0.false (c.runs_ready-g.ensures parts [] source false).answer c.if-g-ne0.false (rw (add-one a.i) at c.width_at-w.ensures) (c.runs_at.ensures a.plan.now parts source (copy_walk (join a.plan.now parts a.lengths.now a.places.now a.body.now a.first source) depth)) c.in-None.is ∙ sym c.plain-in-None.ensures
