-- `batch::texts::few_rise` meets its contract. Assumes nothing.
use Prim.Native.Nat.{◌+◌}
use native.Mathlib.Omega.{arith}
use lib.ListN.{length}
use Rattle.batch.proofs.batch_walk.Sums.{step_in}
use Rattle.batch.proofs.batch_walk.FewRise.{few_one, few_two, few_three, few_all}
use Rattle.batch.proofs.texts.few_rise.Goals as goal

pub returns-then-one-lead : goal.returns-then-one-lead
returns-then-one-lead c = let a = c.args in few_one a.w a.body.now a.from a.n (omega arith) c.entry_at-lead.ensures c.min.ensures c.entry_at-one.ensures (omega arith)

pub returns-then-two-one : goal.returns-then-two-one
returns-then-two-one c = let a = c.args in few_two a.w a.body.now a.from a.n (omega arith) c.entry_at-lead.ensures c.min.ensures c.entry_at-one.ensures c.min-2.ensures c.entry_at-two.ensures (omega arith)

pub returns-then-last-two : goal.returns-then-last-two
returns-then-last-two c = let a = c.args in few_three a.w a.body.now a.from a.n (omega arith) c.entry_at-lead.ensures c.min.ensures c.entry_at-one.ensures c.min-2.ensures c.entry_at-two.ensures c.entry_at-last.ensures (omega arith)

pub returns : goal.returns
returns c = let a = c.args in few_all a.w a.body.now a.from a.n (omega arith) c.entry_at-lead.ensures c.min.ensures c.entry_at-one.ensures c.min-2.ensures c.entry_at-two.ensures c.entry_at-last.ensures (omega arith) (omega arith) (omega arith)
