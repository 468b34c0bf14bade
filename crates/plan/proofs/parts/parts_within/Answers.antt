-- `parts::parts_within` meets its contract. The invariant: the parts of the nodes below i lie well. Assumes nothing.
use mathlib.Core.Path.{sym}
use native.Mathlib.Omega.{arith}
use Rattle.columnar.specs.Test.{every}
use Rattle.columnar.proofs.Test.{every_false}
use Rattle.array_data.proofs.lent_tables.Laws.{no, yes}
use Rattle.plan.specs.parts.Parts.{nodes_of, part_within, parts_within}
use Rattle.plan.proofs.parts.Laws.{every_one, every_now}
use Rattle.plan.proofs.parts.parts_within.Goals as goal

pub returns-then-not-node_within : goal.returns-then-not-node_within
unfolding parts_within
returns-then-not-node_within c = sym (every_false (λ k. every (λ b. part_within c.args.plan.now c.args.parts.now c.args.m k b) 3) (nodes_of c.args.plan.now) c.loop-i.i (omega (arith, c.node_count-n.ensures.value)) (no c.node_within.ensures c.if-not-node_within.true-raw))

pub loop-i-preserved : goal.loop-i-preserved
loop-i-preserved c = every_one (λ k. every (λ b. part_within c.args.plan.now c.args.parts.now c.args.m k b) 3) c.loop-i.i c.loop-i.invariant (yes c.node_within.ensures c.if-not-node_within.false-raw)

pub returns : goal.returns
unfolding parts_within
returns c = sym (every_now (λ k. every (λ b. part_within c.args.plan.now c.args.parts.now c.args.m k b) 3) (nodes_of c.args.plan.now) c.loop-i.i (omega (arith, c.node_count-n.ensures.value)) (omega (arith, c.node_count-n.ensures.value)) c.loop-i.invariant)
