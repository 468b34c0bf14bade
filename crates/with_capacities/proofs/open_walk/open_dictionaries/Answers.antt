-- `open_walk::open_dictionaries` meets its contract. The invariant: where the rest is done, the whole is. Assumes nothing.
use mathlib.Core.Path.{refl}
use Prim.Native.Nat.{◌+◌, ◌-◌}
use native.Mathlib.Nat.{sub-zero}
use native.Mathlib.Omega.{arith}
use Rattle.walk.proofs.Laws.{each_none, each_stop, each_more}
use Rattle.refinement.specs.opening.Open.{open_dictionary}
use Rattle.refinement.specs.orders.Order.{lent}
use Rattle.with_capacities.proofs.open_walk.Laws.{nodes_did}
use Rattle.with_capacities.proofs.open_walk.open_dictionaries.Goals as goal

pub loop-i-init : goal.loop-i-init
loop-i-init c = λ g c2 room2. simp sub-zero (λ d. d)

pub returns-then-g-ne0 : goal.returns-then-g-ne0
returns-then-g-ne0 c =
    let z = c.args in
    let l = c.loop-i in
    let n = c.node_count-n.result in
    let x = lent z.plan.now z.parts.now z.sources.now z.lengths.now z.places.now z.body.now in
    nodes_did x z.write (open_dictionary x) z.counters.now z.room.now c.node_count-n.ensures.value (l.invariant _ _ _ (each_stop _ _ (n - l.i) (n - (l.i + 1)) _ _ _ (omega arith) c.open_dictionary-g.ensures c.if-g-ne0.true))

pub loop-i-preserved : goal.loop-i-preserved
loop-i-preserved c =
    let l = c.loop-i in
    let n = c.node_count-n.result in
    λ g c2 room2 d. l.invariant _ _ _ (each_more _ _ (n - l.i) (n - (l.i + 1)) l.i (l.i + 1) _ _ (omega arith) refl c.open_dictionary-g.ensures c.if-g-ne0.false d)

pub returns : goal.returns
returns c =
    let z = c.args in
    let l = c.loop-i in
    let x = lent z.plan.now z.parts.now z.sources.now z.lengths.now z.places.now z.body.now in
    nodes_did x z.write (open_dictionary x) z.counters.now z.room.now c.node_count-n.ensures.value (l.invariant _ _ _ (each_none _ _ (c.node_count-n.result - l.i) _ _ _ (omega arith)))
