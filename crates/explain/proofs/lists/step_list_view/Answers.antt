-- `stop_walks::lists::step_list_view` meets its contract. The invariant: what stops the rest stops the whole. Assumes nothing.
use mathlib.Core.Path.{refl, sym, ◌∙◌}
use Prim.Native.Nat.{◌+◌, ◌-◌}
use native.Mathlib.Nat.{sub-zero}
use native.Mathlib.Omega.{arith}
use native.Mathlib.Numerals.{add-one}
use Rattle.room_writes.proofs.Bytes.{width_in_lem}
use Rattle.walk.specs.State.{place}
use Rattle.walk.specs.Copy.{list_view_row, copy_walk}
use Rattle.leaf_walk.specs.Join.{join}
use Rattle.extend.proofs.Laws.{pairs_row}
use Rattle.explain.specs.stops.Copy.{why_list_row, why_copy}
use Rattle.explain.proofs.stop_walks.Laws.{view_out, view_foreign, view_rows_lem, first_none, row_on, row_here, row_below}
use Rattle.explain.proofs.lists.step_list_view.Goals as goal

pub returns-then-i-ge32 : goal.returns-then-i-ge32
returns-then-i-ge32 c =
    let a = c.args in
    let x = join a.plan.now a.parts.now a.lengths.now a.places.now a.body.now a.first a.source in
    view_out x a.depth a.w a.i a.slot a.n a.counters.now (add-one a.i) c.if-i-ge32.true ∙ sym c.plain.ensures

pub pairs_in-requires : goal.pairs_in-requires
pairs_in-requires c = let v = width_in_lem c.args.w (λ p q. c.requires.w_value) in omega (arith, v)

pub returns-then-not-pairs_in : goal.returns-then-not-pairs_in
returns-then-not-pairs_in c =
    let a = c.args in
    let x = join a.plan.now a.parts.now a.lengths.now a.places.now a.body.now a.first a.source in
    view_foreign x a.depth a.w a.i a.slot a.n a.counters.now (add-one a.i) c.if-i-ge32.false (c.pairs_in.ensures a.plan.now a.parts.now a.lengths.now a.source) c.if-not-pairs_in.true-raw ∙ sym c.plain-then-not-pairs_in.ensures

pub loop-r-init : goal.loop-r-init
loop-r-init c = simp sub-zero refl

pub list_row-requires : goal.list_row-requires
list_row-requires c =
    let a = c.args in
    let x = join a.plan.now a.parts.now a.lengths.now a.places.now a.body.now a.first a.source in
    record { first_bound = (c.requires.first_bound.0, c.requires.first_bound.1, omega arith, omega arith); w_value = c.requires.w_value; fact = pairs_row x (place x a.i 3) (place x a.i 5) a.w a.w a.slot a.n c.loop-r.r (c.pairs_in.ensures a.plan.now a.parts.now a.lengths.now a.source) c.if-not-pairs_in.false-raw c.loop-r-test.true }

pub loop-r-preserved : goal.loop-r-preserved
loop-r-preserved c =
    let a = c.args in
    let x = join a.plan.now a.parts.now a.lengths.now a.places.now a.body.now a.first a.source in
    c.loop-r.invariant ∙ row_on (list_view_row x (copy_walk x a.depth) a.w a.i a.slot) (why_list_row x (copy_walk x a.depth) (why_copy x a.depth) a.w a.i a.slot) x a.depth (a.n - c.loop-r.r) (a.n - (c.loop-r.r + 1)) c.loop-r.r c.loop-r.counters (omega arith) c.list_row.ensures refl c.in-On.is

pub returns-in-Here : goal.returns-in-Here
returns-in-Here c =
    let a = c.args in
    let x = join a.plan.now a.parts.now a.lengths.now a.places.now a.body.now a.first a.source in
    view_rows_lem x a.depth a.w a.i a.slot a.n a.counters.now (add-one a.i) c.if-i-ge32.false (c.pairs_in.ensures a.plan.now a.parts.now a.lengths.now a.source) c.if-not-pairs_in.false-raw ∙ c.loop-r.invariant ∙ row_here (list_view_row x (copy_walk x a.depth) a.w a.i a.slot) (why_list_row x (copy_walk x a.depth) (why_copy x a.depth) a.w a.i a.slot) x a.depth (a.n - c.loop-r.r) (a.n - (c.loop-r.r + 1)) c.loop-r.r c.loop-r.counters (omega arith) c.list_row.ensures c.in-Here.is

pub returns-in-Below : goal.returns-in-Below
returns-in-Below c =
    let a = c.args in
    let x = join a.plan.now a.parts.now a.lengths.now a.places.now a.body.now a.first a.source in
    view_rows_lem x a.depth a.w a.i a.slot a.n a.counters.now (add-one a.i) c.if-i-ge32.false (c.pairs_in.ensures a.plan.now a.parts.now a.lengths.now a.source) c.if-not-pairs_in.false-raw ∙ c.loop-r.invariant ∙ row_below (list_view_row x (copy_walk x a.depth) a.w a.i a.slot) (why_list_row x (copy_walk x a.depth) (why_copy x a.depth) a.w a.i a.slot) x a.depth (a.n - c.loop-r.r) (a.n - (c.loop-r.r + 1)) c.loop-r.r c.loop-r.counters (omega arith) c.list_row.ensures c.in-Below.is

pub returns : goal.returns
returns c =
    let a = c.args in
    let x = join a.plan.now a.parts.now a.lengths.now a.places.now a.body.now a.first a.source in
    view_rows_lem x a.depth a.w a.i a.slot a.n a.counters.now (add-one a.i) c.if-i-ge32.false (c.pairs_in.ensures a.plan.now a.parts.now a.lengths.now a.source) c.if-not-pairs_in.false-raw ∙ c.loop-r.invariant ∙ first_none (list_view_row x (copy_walk x a.depth) a.w a.i a.slot) (why_list_row x (copy_walk x a.depth) (why_copy x a.depth) a.w a.i a.slot) (a.n - c.loop-r.r) c.loop-r.r c.loop-r.counters (omega arith)
