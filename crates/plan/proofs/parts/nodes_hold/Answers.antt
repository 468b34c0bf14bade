-- `parts::nodes_hold` meets its contract. The invariant: the parts of the nodes below i hold. Assumes nothing.
use mathlib.Core.Path.{sym}
use native.Mathlib.Omega.{arith}
use Rattle.columnar.specs.Test.{every}
use Rattle.columnar.proofs.Test.{every_false}
use Rattle.array_data.proofs.lent_tables.Laws.{no, yes}
use Rattle.plan.specs.parts.Parts.{part_holds}
use Rattle.plan.proofs.parts.Laws.{every_one, every_now}
use Rattle.plan.proofs.parts.nodes_hold.Goals as goal

pub returns-then-not-node_holds : goal.returns-then-not-node_holds
returns-then-not-node_holds c = sym (every_false (λ k. every (λ b. part_holds c.args.plan.now c.args.counters.now c.args.parts.now k b) 3) c.args.n c.loop-i.i (omega arith) (no c.node_holds.ensures c.if-not-node_holds.true-raw))

pub loop-i-preserved : goal.loop-i-preserved
loop-i-preserved c = every_one (λ k. every (λ b. part_holds c.args.plan.now c.args.counters.now c.args.parts.now k b) 3) c.loop-i.i c.loop-i.invariant (yes c.node_holds.ensures c.if-not-node_holds.false-raw)

pub returns : goal.returns
returns c = sym (every_now (λ k. every (λ b. part_holds c.args.plan.now c.args.counters.now c.args.parts.now k b) 3) c.args.n c.loop-i.i (omega arith) (omega arith) c.loop-i.invariant)
