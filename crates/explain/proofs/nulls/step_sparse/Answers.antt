-- `stop_walks::nulls::step_sparse` meets its contract. The invariant: what stops the other children stops the union. Assumes nothing.
use mathlib.Core.Path.{refl, sym, ◌∙◌}
use mathlib.Core.List.{[]}
use Prim.Native.Nat.{◌+◌, ◌-◌}
use native.Mathlib.Nat.{sub-zero}
use native.Mathlib.Omega.{arith}
use native.Mathlib.Numerals.{add-one}
use Rattle.leaf_walk.specs.Join.{join}
use Rattle.explain.proofs.nulls.Laws.{sparse_home, sparse_fields, fields_end, fields_none, fields_on, fields_here, fields_below}
use Rattle.explain.proofs.nulls.step_sparse.Goals as goal

pub returns-then-null_home-ge32 : goal.returns-then-null_home-ge32
returns-then-null_home-ge32 c =
    let a = c.args in
    let x = join a.plan.now a.parts.now [] [] [] 0 0 in
    sparse_home x a.depth a.i a.n a.counters.now c.null_home.ensures.value c.if-null_home-ge32.true ∙ sym c.homeless.ensures

pub loop-t-init : goal.loop-t-init
loop-t-init c = simp sub-zero refl

pub returns-then-end-k : goal.returns-then-end-k
returns-then-end-k c =
    let a = c.args in
    let x = join a.plan.now a.parts.now [] [] [] 0 0 in
    sparse_fields x a.depth a.i a.n a.counters.now c.null_home.ensures.value c.if-null_home-ge32.false c.end_of-end.ensures.value (add-one a.i) ∙ c.loop-t.invariant ∙ fields_end x a.depth a.n c.end_of-end.result (32 - c.loop-t.t) c.loop-t.k c.loop-t.counters c.if-end-k.true

pub end_of-k-requires : goal.end_of-k-requires
end_of-k-requires c = omega (arith, c.end_of-end.ensures.upper_bound)

pub loop-t-preserved : goal.loop-t-preserved
loop-t-preserved c =
    let a = c.args in
    let x = join a.plan.now a.parts.now [] [] [] 0 0 in
    c.loop-t.invariant ∙ fields_on x a.depth a.n c.end_of-end.result (32 - c.loop-t.t) (32 - (c.loop-t.t + 1)) c.loop-t.k c.loop-t.counters (omega arith) c.if-end-k.false c.step_into.ensures c.end_of-k.ensures.value c.in-On.is

pub returns-in-Here : goal.returns-in-Here
returns-in-Here c =
    let a = c.args in
    let x = join a.plan.now a.parts.now [] [] [] 0 0 in
    sparse_fields x a.depth a.i a.n a.counters.now c.null_home.ensures.value c.if-null_home-ge32.false c.end_of-end.ensures.value (add-one a.i) ∙ c.loop-t.invariant ∙ fields_here x a.depth a.n c.end_of-end.result (32 - c.loop-t.t) (32 - (c.loop-t.t + 1)) c.loop-t.k c.loop-t.counters (omega arith) c.if-end-k.false c.step_into.ensures c.in-Here.is

pub returns-in-Below : goal.returns-in-Below
returns-in-Below c =
    let a = c.args in
    let x = join a.plan.now a.parts.now [] [] [] 0 0 in
    sparse_fields x a.depth a.i a.n a.counters.now c.null_home.ensures.value c.if-null_home-ge32.false c.end_of-end.ensures.value (add-one a.i) ∙ c.loop-t.invariant ∙ fields_below x a.depth a.n c.end_of-end.result (32 - c.loop-t.t) (32 - (c.loop-t.t + 1)) c.loop-t.k c.loop-t.counters (omega arith) c.if-end-k.false c.step_into.ensures c.in-Below.is

pub returns : goal.returns
returns c =
    let a = c.args in
    let x = join a.plan.now a.parts.now [] [] [] 0 0 in
    sparse_fields x a.depth a.i a.n a.counters.now c.null_home.ensures.value c.if-null_home-ge32.false c.end_of-end.ensures.value (add-one a.i) ∙ c.loop-t.invariant ∙ fields_none x a.depth a.n c.end_of-end.result (32 - c.loop-t.t) c.loop-t.k c.loop-t.counters (omega arith)
