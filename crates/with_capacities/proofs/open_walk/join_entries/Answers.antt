-- `open_walk::join_entries` meets its contract. The invariant: where the rest is done, the whole is. Assumes nothing.
use mathlib.Core.Path.{refl}
use Prim.Native.Nat.{◌+◌, ◌-◌}
use native.Mathlib.Nat.{sub-zero}
use native.Mathlib.Omega.{arith}
use Rattle.walk.proofs.Laws.{each_none, each_stop, each_more}
use Rattle.refinement.specs.orders.Order.{lent}
use Rattle.with_capacities.proofs.open_walk.Laws.{entries_did}
use Rattle.with_capacities.proofs.open_walk.join_entries.Goals as goal

pub loop-s-init : goal.loop-s-init
loop-s-init c = λ g c2 room2. simp sub-zero (λ d. d)

pub returns-then-g-ne0 : goal.returns-then-g-ne0
returns-then-g-ne0 c =
    let z = c.args in
    let l = c.loop-s in
    let m = c.source_count-m.result in
    entries_did (lent z.plan.now z.parts.now z.sources.now z.lengths.now z.places.now z.body.now) z.write z.i z.counters.now z.room.now c.source_count-m.ensures.value (l.invariant _ _ _ (each_stop _ _ (m - l.s) (m - (l.s + 1)) _ _ _ (omega arith) c.join_source-g.ensures c.if-g-ne0.true))

pub loop-s-preserved : goal.loop-s-preserved
loop-s-preserved c =
    let l = c.loop-s in
    let m = c.source_count-m.result in
    λ g c2 room2 d. l.invariant _ _ _ (each_more _ _ (m - l.s) (m - (l.s + 1)) l.s (l.s + 1) _ _ (omega arith) refl c.join_source-g.ensures c.if-g-ne0.false d)

pub returns : goal.returns
returns c =
    let z = c.args in
    let l = c.loop-s in
    entries_did (lent z.plan.now z.parts.now z.sources.now z.lengths.now z.places.now z.body.now) z.write z.i z.counters.now z.room.now c.source_count-m.ensures.value (l.invariant _ _ _ (each_none _ _ (c.source_count-m.result - l.s) _ _ _ (omega arith)))
