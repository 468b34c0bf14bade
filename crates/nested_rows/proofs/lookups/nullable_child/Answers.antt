-- `steps::nullable_child` meets its contract. Assumes nothing.
use mathlib.Core.Path.{◌≡◌, sym, ◌∙◌}
use Prim.Native.Nat.{◌-◌, ◌+◌}
use native.Mathlib.Omega.{arith}
use Rattle.walk.specs.Nulls.{nullable_child}
use Rattle.nested_rows.proofs.lookups.Laws.{nullable_none, nullable_here, nullable_next}
use Rattle.nested_rows.proofs.lookups.nullable_child.Goals as goal

pub returns-then-end-k : goal.returns-then-end-k
returns-then-end-k c =
    let a = c.args in
    let l = c.loop-t in
    record { value = sym (nullable_none a.plan.now a.end l.k (32 - l._t) c.if-end-k.true) ∙ l.invariant; upper_bound = omega arith }

pub returns-then-nullable_of-eq1 : goal.returns-then-nullable_of-eq1
returns-then-nullable_of-eq1 c =
    let a = c.args in
    let l = c.loop-t in
    let z : 32 - l._t ≡ Prim.Native.Nat.suc (32 - (l._t + 1)) = omega arith in
    record { value = sym (nullable_here a.plan.now a.end l.k z c.if-end-k.false c.nullable_of.ensures c.if-nullable_of-eq1.true) ∙ l.invariant; upper_bound = omega arith }

pub loop-t-preserved : goal.loop-t-preserved
loop-t-preserved c =
    let a = c.args in
    let l = c.loop-t in
    let z : 32 - l._t ≡ Prim.Native.Nat.suc (32 - (l._t + 1)) = omega arith in
    sym (nullable_next a.plan.now a.end l.k z c.if-end-k.false c.nullable_of.ensures c.if-nullable_of-eq1.false c.end_of-k.ensures.value) ∙ l.invariant

pub returns : goal.returns
unfolding nullable_child
returns c =
    let l = c.loop-t in
    let z : 32 - l._t ≡ 0 = omega arith in
    record { value = rw z at l.invariant; upper_bound = omega arith }
