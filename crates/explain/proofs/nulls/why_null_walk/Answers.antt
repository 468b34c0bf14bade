-- `stop_walks::nulls::why_null_walk` meets its contract. The invariant: what stops the nulls that are left to look at stops the order. Assumes nothing.
use mathlib.Core.Path.{refl, sym, ◌∙◌}
use mathlib.Core.List.{[]}
use Prim.Native.Nat.{◌-◌}
use native.Mathlib.Omega.{arith}
use Rattle.leaf_walk.specs.Join.{join}
use Rattle.explain.proofs.nulls.Laws.{after_on, after_here, after_below, level, bottom}
use Rattle.explain.proofs.nulls.why_null_walk.Goals as goal

pub loop-left-init : goal.loop-left-init
loop-left-init c = refl

pub overflow_sub-left : goal.overflow_sub-left
overflow_sub-left c = omega arith

pub returns-in-On : goal.returns-in-On
returns-in-On c =
    let a = c.args in
    let x = join a.plan.now a.parts.now [] [] [] 0 0 in
    c.plain.ensures ∙ sym (c.loop-left.invariant ∙ level x c.loop-left.node c.loop-left.len c.loop-left.counters c.loop-left.left (c.loop-left.left - 1) (omega arith) ∙ c.step_node.ensures ∙ after_on x (c.loop-left.left - 1) c.in-On.is _)

pub returns-in-Here : goal.returns-in-Here
returns-in-Here c =
    let a = c.args in
    let x = join a.plan.now a.parts.now [] [] [] 0 0 in
    sym (c.loop-left.invariant ∙ level x c.loop-left.node c.loop-left.len c.loop-left.counters c.loop-left.left (c.loop-left.left - 1) (omega arith) ∙ c.step_node.ensures ∙ after_here x (c.loop-left.left - 1) c.in-Here.is _)

pub loop-left-smaller : goal.loop-left-smaller
loop-left-smaller c = omega arith

pub loop-left-preserved : goal.loop-left-preserved
loop-left-preserved c =
    let a = c.args in
    let x = join a.plan.now a.parts.now [] [] [] 0 0 in
    c.loop-left.invariant ∙ level x c.loop-left.node c.loop-left.len c.loop-left.counters c.loop-left.left (c.loop-left.left - 1) (omega arith) ∙ c.step_node.ensures ∙ after_below x (c.loop-left.left - 1) c.in-Below.is _

pub returns : goal.returns
returns c =
    let a = c.args in
    let x = join a.plan.now a.parts.now [] [] [] 0 0 in
    c.plain-2.ensures ∙ sym (c.loop-left.invariant ∙ bottom x c.loop-left.node c.loop-left.len c.loop-left.counters c.loop-left.left (omega arith))
