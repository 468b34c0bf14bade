-- `trip::walk_orders` meets its contract. The invariant: where the rest is walked, so is the whole. Assumes nothing.
use mathlib.Core.Path.{refl}
use Prim.Native.Nat.{◌+◌, ◌-◌}
use native.Mathlib.Nat.{sub-zero}
use native.Mathlib.Omega.{arith}
use Rattle.transform.specs.Answer.{lent}
use Rattle.trip.specs.Walk.{step_at}
use Rattle.trip.proofs.Laws.{stepped_none, stepped_stop, stepped_more}
use borrow.Author.Rules.{rules}
use Rattle.trip.proofs.walk_orders.Goals as goal

pub loop-k-init : goal.loop-k-init
loop-k-init c = λ g p c2 room2. simp sub-zero (λ d. d)

pub returns-then-g-ne0 : goal.returns-then-g-ne0
returns-then-g-ne0 c =
    let z = c.args in
    let l = c.loop-k in
    l.invariant _ _ _ _ (stepped_stop z.write (step_at (lent z.plan.now z.parts.now z.sources.now z.lengths.now z.places.now z.body.now) z.ask z.within z.orders.now) (z.n - l.k) (z.n - (l.k + 1)) l.k l.counters l.room (omega arith) c.walk_step-g.ensures c.if-g-ne0.true)

pub loop-k-preserved : goal.loop-k-preserved
loop-k-preserved c =
    let z = c.args in
    let l = c.loop-k in
    λ g p c2 room2 s. l.invariant g p c2 room2 (stepped_more z.write (step_at (lent z.plan.now z.parts.now z.sources.now z.lengths.now z.places.now z.body.now) z.ask z.within z.orders.now) (z.n - l.k) (z.n - (l.k + 1)) l.k (l.k + 1) l.counters l.room (omega arith) refl c.walk_step-g.ensures c.if-g-ne0.false s)

pub returns : goal.returns
returns c =
    let z = c.args in
    let l = c.loop-k in
    l.invariant _ _ _ _ (stepped_none z.write (step_at (lent z.plan.now z.parts.now z.sources.now z.lengths.now z.places.now z.body.now) z.ask z.within z.orders.now) (z.n - l.k) l.k l.counters l.room (omega arith))
