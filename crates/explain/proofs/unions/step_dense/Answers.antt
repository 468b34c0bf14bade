-- `stop_walks::unions::step_dense` meets its contract. The invariant: what stops the rest stops the whole. Assumes nothing.
use mathlib.Core.Path.{refl, sym, ◌∙◌}
use Prim.Native.Nat.{◌+◌, ◌-◌}
use native.Mathlib.Nat.{sub-zero}
use native.Mathlib.Omega.{arith}
use Rattle.walk.specs.State.{place}
use Rattle.walk.specs.Copy.{dense_row, copy_walk}
use Rattle.leaf_walk.specs.Join.{join}
use Rattle.extend.proofs.Laws.{pairs_row}
use Rattle.explain.specs.stops.Copy.{why_dense_row, why_copy}
use Rattle.explain.proofs.stop_walks.Laws.{first_none, row_on, row_here, row_below}
use Rattle.explain.proofs.stop_walks.Nodes.{dense_foreign, dense_rows_lem}
use Rattle.explain.proofs.unions.step_dense.Goals as goal

pub pairs_in-requires : goal.pairs_in-requires
pairs_in-requires c = omega arith

pub returns-then-not-pairs_in : goal.returns-then-not-pairs_in
returns-then-not-pairs_in c =
    let a = c.args in
    let x = join a.plan.now a.parts.now a.lengths.now a.places.now a.body.now a.first a.source in
    dense_foreign x a.depth a.i a.slot a.n a.counters.now (c.pairs_in.ensures a.plan.now a.parts.now a.lengths.now a.source) c.if-not-pairs_in.true-raw ∙ sym c.plain.ensures

pub loop-r-init : goal.loop-r-init
loop-r-init c = simp sub-zero refl

pub dense_row-requires : goal.dense_row-requires
dense_row-requires c =
    let a = c.args in
    let x = join a.plan.now a.parts.now a.lengths.now a.places.now a.body.now a.first a.source in
    let b = pairs_row x (place x a.i 3) (place x a.i 5) 1 4 a.slot a.n c.loop-r.r (c.pairs_in.ensures a.plan.now a.parts.now a.lengths.now a.source) c.if-not-pairs_in.false-raw c.loop-r-test.true in record { first_bound = (c.requires.0, c.requires.1, c.requires.2, omega arith); fact = (omega (arith, b.0), b.1) }

pub loop-r-preserved : goal.loop-r-preserved
loop-r-preserved c =
    let a = c.args in
    let x = join a.plan.now a.parts.now a.lengths.now a.places.now a.body.now a.first a.source in
    c.loop-r.invariant ∙ row_on (dense_row x (copy_walk x a.depth) a.i a.slot) (why_dense_row x (copy_walk x a.depth) (why_copy x a.depth) a.i a.slot) x a.depth (a.n - c.loop-r.r) (a.n - (c.loop-r.r + 1)) c.loop-r.r c.loop-r.counters (omega arith) c.dense_row.ensures refl c.in-On.is

pub returns-in-Here : goal.returns-in-Here
returns-in-Here c =
    let a = c.args in
    let x = join a.plan.now a.parts.now a.lengths.now a.places.now a.body.now a.first a.source in
    dense_rows_lem x a.depth a.i a.slot a.n a.counters.now (c.pairs_in.ensures a.plan.now a.parts.now a.lengths.now a.source) c.if-not-pairs_in.false-raw ∙ c.loop-r.invariant ∙ row_here (dense_row x (copy_walk x a.depth) a.i a.slot) (why_dense_row x (copy_walk x a.depth) (why_copy x a.depth) a.i a.slot) x a.depth (a.n - c.loop-r.r) (a.n - (c.loop-r.r + 1)) c.loop-r.r c.loop-r.counters (omega arith) c.dense_row.ensures c.in-Here.is

pub returns-in-Below : goal.returns-in-Below
returns-in-Below c =
    let a = c.args in
    let x = join a.plan.now a.parts.now a.lengths.now a.places.now a.body.now a.first a.source in
    dense_rows_lem x a.depth a.i a.slot a.n a.counters.now (c.pairs_in.ensures a.plan.now a.parts.now a.lengths.now a.source) c.if-not-pairs_in.false-raw ∙ c.loop-r.invariant ∙ row_below (dense_row x (copy_walk x a.depth) a.i a.slot) (why_dense_row x (copy_walk x a.depth) (why_copy x a.depth) a.i a.slot) x a.depth (a.n - c.loop-r.r) (a.n - (c.loop-r.r + 1)) c.loop-r.r c.loop-r.counters (omega arith) c.dense_row.ensures c.in-Below.is

pub returns : goal.returns
returns c =
    let a = c.args in
    let x = join a.plan.now a.parts.now a.lengths.now a.places.now a.body.now a.first a.source in
    dense_rows_lem x a.depth a.i a.slot a.n a.counters.now (c.pairs_in.ensures a.plan.now a.parts.now a.lengths.now a.source) c.if-not-pairs_in.false-raw ∙ c.loop-r.invariant ∙ first_none (dense_row x (copy_walk x a.depth) a.i a.slot) (why_dense_row x (copy_walk x a.depth) (why_copy x a.depth) a.i a.slot) (a.n - c.loop-r.r) c.loop-r.r c.loop-r.counters (omega arith)
