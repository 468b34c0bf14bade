-- `explain::walk_orders` meets its contract. The invariant: what stops the rest stops the list. Assumes nothing.
use mathlib.Core.Path.{refl, sym, ap, ◌∙◌}
use Prim.Native.Nat.{◌+◌, ◌-◌}
use native.Mathlib.Nat.{sub-zero}
use native.Mathlib.Omega.{arith}
use lib.ListN.{length}
use Rattle.transform.specs.Answer.{lent}
use Rattle.explain.proofs.Laws.{small_room, list_from, list_stop, list_on, list_long, list_end}
use Rattle.explain.proofs.walk_orders.Goals as goal

pub loop-k-init : goal.loop-k-init
loop-k-init c =
    let a = c.args in
    let x = lent a.plan.now a.parts.now a.sources.now a.lengths.now a.places.now a.body.now in
    (ap length c.load-tally.ensures ∙ c.requires.0, list_from a.orders.now x a.m a.counters.now c.requires.3 c.requires.1 c.requires.2 c.load-tally.ensures (sub-zero a.n))

pub order_at-w-requires : goal.order_at-w-requires
order_at-w-requires c =
    let a = c.args in
    (omega (arith, c.requires.1), small_room a.plan.now a.m c.requires.3)

pub overflow_cast-result : goal.overflow_cast-result
overflow_cast-result c = omega (arith, c.requires.1)

pub returns-then-w-ne0 : goal.returns-then-w-ne0
returns-then-w-ne0 c =
    let a = c.args in
    let x = lent a.plan.now a.parts.now a.sources.now a.lengths.now a.places.now a.body.now in
    sym (c.loop-k.invariant.1 ∙ list_stop a.orders.now x a.m a.counters.now c.requires.3 (a.n - c.loop-k.k) (a.n - (c.loop-k.k + 1)) c.loop-k.k (omega arith) c.loop-k.invariant.0 c.order_at-w.ensures c.if-w-ne0.true refl)

pub loop-k-preserved : goal.loop-k-preserved
loop-k-preserved c =
    let a = c.args in
    let x = lent a.plan.now a.parts.now a.sources.now a.lengths.now a.places.now a.body.now in
    (list_long a.orders.now x a.m a.counters.now c.requires.3 (a.n - c.loop-k.k) (a.n - (c.loop-k.k + 1)) c.loop-k.k (omega arith) c.loop-k.invariant.0 c.order_at-w.ensures c.if-w-ne0.false, c.loop-k.invariant.1 ∙ list_on a.orders.now x a.m a.counters.now c.requires.3 (a.n - c.loop-k.k) (a.n - (c.loop-k.k + 1)) c.loop-k.k (omega arith) c.loop-k.invariant.0 c.order_at-w.ensures c.if-w-ne0.false refl)

pub returns : goal.returns
returns c =
    let a = c.args in
    let x = lent a.plan.now a.parts.now a.sources.now a.lengths.now a.places.now a.body.now in
    list_end a.orders.now x a.m a.counters.now c.requires.3 (a.n - c.loop-k.k) c.loop-k.k c.loop-k.tally (omega arith) c.at_first.ensures ∙ sym c.loop-k.invariant.1
