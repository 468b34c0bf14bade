-- `width_loop::runs::walk_runs` meets its contract. Assumes nothing.
use mathlib.Core.List.{[]}
use native.Mathlib.Omega.{arith}
use Rattle.array_data.specs.entries.Entries.{column}
use Rattle.width_loop.proofs.Clips.{above_zero, no_runs, no_range, runs_over_lem, runs_yes}
use Rattle.width_loop.proofs.runs.walk_runs.Goals as goal

pub returns-then-n-eq0 : goal.returns-then-n-eq0
returns-then-n-eq0 c =
    let a = c.args in
    record { any_tree = (λ t t2 okay. no_runs a.plan.now a.parts.now a.write a.room.now (column a.lengths.now a.places.now [] a.body.now a.first) a.i a.w a.w2 a.s a.counters.now t t2 okay c.if-n-eq0.true c.add_rows.ensures); ranges_value = λ t t2 z. no_range (column a.lengths.now a.places.now [] a.body.now a.first) a.i a.w a.s a.ranges.now c.if-n-eq0.true c.set_range.ensures }

pub returns-then-not-sum_fits : goal.returns-then-not-sum_fits
returns-then-not-sum_fits c =
    let a = c.args in
    record { any_tree = (λ t t2 okay. runs_over_lem a.plan.now a.parts.now a.write a.room.now (column a.lengths.now a.places.now [] a.body.now a.first) a.i a.w a.w2 a.s a.counters.now t t2 okay c.if-n-eq0.false c.sum_fits.ensures c.if-not-sum_fits.true-raw); ranges_value = λ t t2 z. absurd (omega arith) }

pub put_runs-requires : goal.put_runs-requires
put_runs-requires c =
    let p = c.requires in
    record { i_bound = (p.i_bound.0, above_zero c.if-n-eq0.false, p.i_bound.1, p.i_bound.2); w_value = p.w_value; runs_here = p.runs_here }

pub returns : goal.returns
returns c =
    let a = c.args in
    record { any_tree = (λ t t2 okay. runs_yes a.plan.now a.parts.now a.write a.room.now (column a.lengths.now a.places.now [] a.body.now a.first) a.i a.w a.w2 a.s a.counters.now t t2 okay c.if-n-eq0.false c.sum_fits.ensures c.if-not-sum_fits.false-raw c.put_runs.ensures.walks); ranges_value = λ t t2 z. c.put_runs.ensures.ranges_value }
