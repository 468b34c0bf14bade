-- `stop_walks::unions::step_sparse` meets its contract. The invariant: what stops the other children stops the union. Assumes nothing.
use mathlib.Core.Path.{refl, sym, ◌∙◌}
use Prim.Native.Nat.{◌+◌, ◌-◌}
use native.Mathlib.Nat.{sub-zero}
use native.Mathlib.Omega.{arith}
use native.Mathlib.Numerals.{add-one}
use Rattle.leaf_walk.specs.Join.{join}
use Rattle.explain.proofs.stop_walks.Nodes.{sparse_foreign, sparse_fields, fields_end, fields_none, fields_on, fields_here, fields_below}
use Rattle.explain.proofs.unions.step_sparse.Goals as goal

pub rows_in-requires : goal.rows_in-requires
rows_in-requires c = omega arith

pub returns-then-not-rows_in : goal.returns-then-not-rows_in
returns-then-not-rows_in c =
    let a = c.args in
    let x = join a.plan.now a.parts.now a.lengths.now a.places.now a.body.now a.first a.source in
    sparse_foreign x a.depth a.i a.slot a.n a.counters.now c.place.ensures (c.rows_in.ensures a.plan.now a.parts.now a.lengths.now a.places.now a.first a.source) c.if-not-rows_in.true-raw ∙ sym c.plain.ensures

pub loop-t-init : goal.loop-t-init
loop-t-init c = simp sub-zero refl

pub returns-then-end-k : goal.returns-then-end-k
returns-then-end-k c =
    let a = c.args in
    let x = join a.plan.now a.parts.now a.lengths.now a.places.now a.body.now a.first a.source in
    sparse_fields x a.depth a.i a.slot a.n a.counters.now c.place.ensures (c.rows_in.ensures a.plan.now a.parts.now a.lengths.now a.places.now a.first a.source) c.if-not-rows_in.false-raw c.end_of-end.ensures.value (add-one a.i) ∙ c.loop-t.invariant ∙ fields_end x a.depth a.slot a.n c.end_of-end.result (32 - c.loop-t.t) c.loop-t.k c.loop-t.counters c.if-end-k.true

pub step_into-requires : goal.step_into-requires
step_into-requires c = (c.requires.0, c.requires.1)

pub end_of-k-requires : goal.end_of-k-requires
end_of-k-requires c = omega (arith, c.end_of-end.ensures.upper_bound)

pub loop-t-preserved : goal.loop-t-preserved
loop-t-preserved c =
    let a = c.args in
    let x = join a.plan.now a.parts.now a.lengths.now a.places.now a.body.now a.first a.source in
    c.loop-t.invariant ∙ fields_on x a.depth a.slot a.n c.end_of-end.result (32 - c.loop-t.t) (32 - (c.loop-t.t + 1)) c.loop-t.k c.loop-t.counters (omega arith) c.if-end-k.false c.step_into.ensures c.end_of-k.ensures.value c.in-On.is

pub returns-in-Here : goal.returns-in-Here
returns-in-Here c =
    let a = c.args in
    let x = join a.plan.now a.parts.now a.lengths.now a.places.now a.body.now a.first a.source in
    sparse_fields x a.depth a.i a.slot a.n a.counters.now c.place.ensures (c.rows_in.ensures a.plan.now a.parts.now a.lengths.now a.places.now a.first a.source) c.if-not-rows_in.false-raw c.end_of-end.ensures.value (add-one a.i) ∙ c.loop-t.invariant ∙ fields_here x a.depth a.slot a.n c.end_of-end.result (32 - c.loop-t.t) (32 - (c.loop-t.t + 1)) c.loop-t.k c.loop-t.counters (omega arith) c.if-end-k.false c.step_into.ensures c.in-Here.is

pub returns-in-Below : goal.returns-in-Below
returns-in-Below c =
    let a = c.args in
    let x = join a.plan.now a.parts.now a.lengths.now a.places.now a.body.now a.first a.source in
    sparse_fields x a.depth a.i a.slot a.n a.counters.now c.place.ensures (c.rows_in.ensures a.plan.now a.parts.now a.lengths.now a.places.now a.first a.source) c.if-not-rows_in.false-raw c.end_of-end.ensures.value (add-one a.i) ∙ c.loop-t.invariant ∙ fields_below x a.depth a.slot a.n c.end_of-end.result (32 - c.loop-t.t) (32 - (c.loop-t.t + 1)) c.loop-t.k c.loop-t.counters (omega arith) c.if-end-k.false c.step_into.ensures c.in-Below.is

pub returns : goal.returns
returns c =
    let a = c.args in
    let x = join a.plan.now a.parts.now a.lengths.now a.places.now a.body.now a.first a.source in
    sparse_fields x a.depth a.i a.slot a.n a.counters.now c.place.ensures (c.rows_in.ensures a.plan.now a.parts.now a.lengths.now a.places.now a.first a.source) c.if-not-rows_in.false-raw c.end_of-end.ensures.value (add-one a.i) ∙ c.loop-t.invariant ∙ fields_none x a.depth a.slot a.n c.end_of-end.result (32 - c.loop-t.t) c.loop-t.k c.loop-t.counters (omega arith)
