-- `steps::child_with` meets its contract. Assumes nothing.
use mathlib.Core.Path.{◌≡◌, sym, ◌∙◌}
use Prim.Native.Nat.{◌-◌, ◌+◌}
use native.Mathlib.Omega.{arith}
use Rattle.walk.specs.Copy.{child_with}
use Rattle.nested_rows.proofs.lookups.Laws.{child_none, child_here, child_next}
use Rattle.nested_rows.proofs.lookups.child_with.Goals as goal

pub returns-then-end-k : goal.returns-then-end-k
returns-then-end-k c =
    let a = c.args in
    let l = c.loop-t in
    record { value = sym (child_none a.plan.now a.end l.k a.id (32 - l._t) c.if-end-k.true) ∙ l.invariant; upper_bound = omega arith }

pub returns-then-id_of-id : goal.returns-then-id_of-id
returns-then-id_of-id c =
    let a = c.args in
    let l = c.loop-t in
    let z : 32 - l._t ≡ Prim.Native.Nat.suc (32 - (l._t + 1)) = omega arith in
    record { value = sym (child_here a.plan.now a.end l.k a.id z c.if-end-k.false c.id_of.ensures c.if-id_of-id.true) ∙ l.invariant; upper_bound = omega arith }

pub loop-t-preserved : goal.loop-t-preserved
loop-t-preserved c =
    let a = c.args in
    let l = c.loop-t in
    let z : 32 - l._t ≡ Prim.Native.Nat.suc (32 - (l._t + 1)) = omega arith in
    sym (child_next a.plan.now a.end l.k a.id z c.if-end-k.false c.id_of.ensures c.if-id_of-id.false c.end_of-k.ensures.value) ∙ l.invariant

pub returns : goal.returns
unfolding child_with
returns c =
    let l = c.loop-t in
    let z : 32 - l._t ≡ 0 = omega arith in
    record { value = rw z at l.invariant; upper_bound = omega arith }
