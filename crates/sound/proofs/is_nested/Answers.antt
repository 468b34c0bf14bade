-- `sound::is_nested` meets its contract. The invariant: the nodes below it before k end inside. Assumes nothing.
use Prim.Native.Nat.{suc, ◌+◌, ◌-◌}
use mathlib.Core.Path.{◌≡◌, refl}
use native.Mathlib.Omega.{arith}
use Rattle.sound.proofs.Laws.{nested_no, nested_more, nested_end}
use Rattle.sound.proofs.is_nested.Goals as goal

pub loop-k-init : goal.loop-k-init
loop-k-init c = let z : c.args.i + 1 - suc c.args.i ≡ 0 = omega arith in rw z refl

pub returns-then-end-end_of : goal.returns-then-end-end_of
returns-then-end-end_of c =
    let i = c.args.i in
    let k = c.loop-k.k in
    nested_no c.args.plan.now i c.end_of-end.ensures.value (k - suc i) k (omega arith) (omega arith) c.end_of.ensures.value c.if-end-end_of.true

pub loop-k-preserved : goal.loop-k-preserved
loop-k-preserved c =
    let i = c.args.i in
    let k = c.loop-k.k in
    nested_more c.args.plan.now i c.end_of-end.ensures.value (k - suc i) (k + 1 - suc i) k (omega arith) (omega arith) c.loop-k.invariant c.end_of.ensures.value c.if-end-end_of.false

pub returns : goal.returns
returns c = nested_end c.args.plan.now c.args.i c.end_of-end.ensures.value c.loop-k.k (λ h. omega arith) (omega arith) c.loop-k.invariant
