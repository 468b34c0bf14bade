-- `batch_walk::sizes::furthest_by` meets its contract. Assumes nothing.
use mathlib.Core.Path.{◌≡◌}
use Prim.Native.Nat.{◌+◌}
use native.Mathlib.Omega.{arith}
use lib.ListN.{length}
use Rattle.number.specs.Number.{entry}
use Rattle.batch.proofs.batch_walk.Sums.{entry_in_lem, furthest_none, furthest_more, end_is}
use Rattle.batch.proofs.sizes.furthest_by.Goals as goal

pub loop-r-preserved : goal.loop-r-preserved
loop-r-preserved c =
    let a = c.args in
    let l = c.loop-r in
    furthest_more (λ q. entry a.w a.body.now a.offsets (a.slot + q) + entry a.w a.body.now a.sizes (a.slot + q)) l.r l.invariant (end_is c.grow-end.ensures c.entry_at-start.ensures c.entry_at.ensures) c.max-most.ensures

pub loop-r-init : goal.loop-r-init
loop-r-init c = furthest_none _
