-- `batch_walk::sizes::add_sizes` meets its contract. Assumes nothing.
use mathlib.Core.Path.{◌≡◌}
use Prim.Native.Nat.{◌+◌}
use native.Mathlib.Omega.{arith}
use lib.ListN.{length}
use Rattle.number.specs.Number.{entry}
use Rattle.batch.proofs.batch_walk.Sums.{entry_in_lem, grown_none, grown_more}
use Rattle.batch.proofs.sizes.add_sizes.Goals as goal

pub loop-r-preserved : goal.loop-r-preserved
loop-r-preserved c =
    let a = c.args in
    grown_more (λ q. entry a.w a.body.now a.at (a.slot + q)) a.rows c.loop-r.r c.loop-r.invariant c.entry_at.ensures c.grow-sum.ensures

pub loop-r-init : goal.loop-r-init
loop-r-init c = grown_none _ c.args.rows (omega arith)
