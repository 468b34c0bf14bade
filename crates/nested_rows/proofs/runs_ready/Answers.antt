-- `rows::runs_ready` meets its contract. Assumes nothing.
use native.Mathlib.Omega.{arith}
use native.Mathlib.Numerals.{add-one}
use mathlib.Core.Path.{◌∙◌, ap}
use Rattle.walk.specs.State.{bytes_of}
use Rattle.leaf_walk.specs.Join.{join}
use Rattle.nested_rows.proofs.Laws.{ends_ready, wide_in, ready_none, ready_over, ready_out, ready_yes}
use Rattle.nested_rows.proofs.runs_ready.Goals as goal

pub returns-then-not-has_ends : goal.returns-then-not-has_ends
returns-then-not-has_ends c =
    let a = c.args in
    λ parts room source write. ready_none (join a.plan.now parts a.lengths.now a.places.now a.body.now a.first source) write a.i a.counters.now room a.n c.has_ends.ensures c.if-not-has_ends.true-raw

pub overflow_add-i : goal.overflow_add-i
overflow_add-i c = omega (arith, (ends_ready c.args.i _ c.has_ends.ensures c.if-not-has_ends.false-raw).0)

pub width_at-w-requires : goal.width_at-w-requires
width_at-w-requires c = omega (arith, (ends_ready c.args.i _ c.has_ends.ensures c.if-not-has_ends.false-raw).0)

pub sum_fits-requires : goal.sum_fits-requires
sum_fits-requires c = rw (← add-one c.args.i, ← c.width_at-w.ensures) at (ends_ready c.args.i _ c.has_ends.ensures c.if-not-has_ends.false-raw).1

pub returns-then-not-sum_fits : goal.returns-then-not-sum_fits
returns-then-not-sum_fits c =
    let a = c.args in
    λ parts room source write. ready_over (join a.plan.now parts a.lengths.now a.places.now a.body.now a.first source) write a.i a.counters.now room a.n c.has_ends.ensures c.if-not-has_ends.false-raw (add-one a.i) c.width_at-w.ensures c.rows_of.ensures c.sum_fits.ensures c.if-not-sum_fits.true-raw

pub ends_in-requires : goal.ends_in-requires
ends_in-requires c =
    let s = ends_ready c.args.i _ c.has_ends.ensures c.if-not-has_ends.false-raw in
    omega (arith, s.0, wide_in _ s.1, c.width_at-w.ensures ∙ ap (λ z. bytes_of c.args.plan.now z) (add-one c.args.i))

pub returns-then-not-ends_in : goal.returns-then-not-ends_in
returns-then-not-ends_in c =
    let a = c.args in
    λ parts room source write. ready_out (join a.plan.now parts a.lengths.now a.places.now a.body.now a.first source) write a.i a.counters.now room a.n c.has_ends.ensures c.if-not-has_ends.false-raw (add-one a.i) c.width_at-w.ensures c.rows_of.ensures c.sum_fits.ensures c.if-not-sum_fits.false-raw (c.ends_in.ensures a.plan.now parts source) c.if-not-ends_in.true-raw

pub returns : goal.returns
returns c =
    let a = c.args in
    λ parts room source write. ready_yes (join a.plan.now parts a.lengths.now a.places.now a.body.now a.first source) write a.i a.counters.now room a.n c.has_ends.ensures c.if-not-has_ends.false-raw (add-one a.i) c.width_at-w.ensures c.rows_of.ensures c.sum_fits.ensures c.if-not-sum_fits.false-raw (c.ends_in.ensures a.plan.now parts source) c.if-not-ends_in.false-raw
