-- `batch::texts::rises_by` meets its contract. Assumes nothing.
use mathlib.Core.Path.{◌≡◌}
use Prim.Native.Nat.{◌+◌}
use native.Mathlib.Omega.{arith}
use lib.ListN.{length}
use Rattle.batch.proofs.batch_walk.Sums.{step_in}
use Rattle.batch.proofs.batch_walk.TextLeaf.{falls_none, falls_more, falls_now}
use Rattle.batch.proofs.texts.rises_by.Goals as goal

pub loop-r-init : goal.loop-r-init
loop-r-init c = let a = c.args in (c.entry_at-before.ensures, falls_none a.w a.body.now a.from)

pub returns-then-next-before : goal.returns-then-next-before
returns-then-next-before c = let a = c.args in falls_now a.w a.body.now a.from c.loop-r.r a.n (omega arith) c.loop-r.invariant.0 c.entry_at-next.ensures c.if-next-before.true

pub loop-r-preserved : goal.loop-r-preserved
loop-r-preserved c = let a = c.args in (c.entry_at-next.ensures, falls_more a.w a.body.now a.from c.loop-r.r c.loop-r.invariant.1 c.loop-r.invariant.0 c.entry_at-next.ensures (omega arith))
