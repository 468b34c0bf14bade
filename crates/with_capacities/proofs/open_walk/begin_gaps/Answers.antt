-- `open_walk::begin_gaps` meets its contract. The invariant: where the rest is done, the whole is. Assumes nothing.
use mathlib.Core.Path.{refl}
use Prim.Native.Nat.{◌+◌, ◌-◌}
use native.Mathlib.Nat.{sub-zero}
use native.Mathlib.Omega.{arith}
use Rattle.walk.proofs.Laws.{each_none, each_more}
use Rattle.refinement.specs.opening.Open.{begin_gaps}
use Rattle.refinement.specs.orders.Order.{lent}
use Rattle.with_capacities.proofs.open_walk.Laws.{nodes_did}
use Rattle.with_capacities.proofs.open_walk.begin_gaps.Goals as goal

pub loop-i-init : goal.loop-i-init
loop-i-init c = λ parts sources lengths places body room write g c2 room2. simp sub-zero (λ d. d)

pub loop-i-preserved : goal.loop-i-preserved
loop-i-preserved c =
    let l = c.loop-i in
    let n = c.node_count-n.result in
    λ parts sources lengths places body room write g c2 room2 d. l.invariant parts sources lengths places body room write _ _ _ (each_more _ _ (n - l.i) (n - (l.i + 1)) l.i (l.i + 1) _ _ (omega arith) refl (c.begin_gap.ensures parts sources lengths places body room write) refl d)

pub returns : goal.returns
returns c =
    let z = c.args in
    let l = c.loop-i in
    λ parts sources lengths places body room write. let x = lent z.plan.now parts sources lengths places body in nodes_did x write (begin_gaps x) z.counters.now room c.node_count-n.ensures.value (l.invariant parts sources lengths places body room write _ _ _ (each_none _ _ (c.node_count-n.result - l.i) _ _ _ (omega arith)))
