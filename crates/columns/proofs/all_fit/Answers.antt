-- `columns::all_fit` meets its contract. The invariant: the nodes below i fit. Assumes nothing.
use mathlib.Core.Path.{sym}
use mathlib.Core.List.{[]}
use Prim.Native.Nat.{◌-◌}
use native.Mathlib.Omega.{arith}
use borrow.Author.Count.{below_more}
use Rattle.schema.proofs.Laws.{every_all, every_not}
use Rattle.array_data.specs.lent_tables.Lent.{tables}
use Rattle.array_data.proofs.lent_tables.Laws.{no, yes}
use Rattle.columns.specs.Grounds.{count_fits, few_buffers, node_fits}
use Rattle.columns.proofs.Laws.{count_not, buffers_not, node_fits_lem}
use Rattle.columns.proofs.all_fit.Goals as goal

pub loop-i-init : goal.loop-i-init
loop-i-init c = λ j h. absurd (omega arith)

pub overflow_add-first : goal.overflow_add-first
overflow_add-first c = omega arith

pub count_fits-requires : goal.count_fits-requires
count_fits-requires c = omega arith

pub returns-then-not-count_fits : goal.returns-then-not-count_fits
unfolding count_fits
returns-then-not-count_fits c =
    let z = c.args in
    let l = c.loop-i in
    let x = tables z.lengths.now z.places.now [] in
    sym (every_not (node_fits z.formats.now z.schema.now x z.first) z.n l.i (omega arith) (count_not z.formats.now z.schema.now x z.first l.i (no c.count_fits.ensures c.if-not-count_fits.true-raw)))

pub has_few_buffers-requires : goal.has_few_buffers-requires
has_few_buffers-requires c = omega arith

pub returns-then-not-has_few_buffers : goal.returns-then-not-has_few_buffers
unfolding few_buffers
returns-then-not-has_few_buffers c =
    let z = c.args in
    let l = c.loop-i in
    let x = tables z.lengths.now z.places.now [] in
    sym (every_not (node_fits z.formats.now z.schema.now x z.first) z.n l.i (omega arith) (buffers_not z.formats.now z.schema.now x z.first l.i (no c.has_few_buffers.ensures c.if-not-has_few_buffers.true-raw)))

pub loop-i-preserved : goal.loop-i-preserved
unfolding count_fits few_buffers
loop-i-preserved c =
    let z = c.args in
    let l = c.loop-i in
    let x = tables z.lengths.now z.places.now [] in
    (below_more _ _ l.invariant (node_fits_lem z.formats.now z.schema.now x z.first l.i (yes c.count_fits.ensures c.if-not-count_fits.false-raw) (yes c.has_few_buffers.ensures c.if-not-has_few_buffers.false-raw)))

pub returns : goal.returns
returns c =
    let z = c.args in
    sym (every_all (node_fits z.formats.now z.schema.now (tables z.lengths.now z.places.now []) z.first) z.n (λ j h. c.loop-i.invariant j (omega arith)))
