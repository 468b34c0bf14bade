-- `sound::plan_sound` meets its contract. The invariant: the nodes below i stand well. Assumes nothing.
use native.Mathlib.Omega.{arith}
use Rattle.array_data.proofs.lent_tables.Laws.{no, yes}
use Rattle.plan.proofs.parts.Laws.{every_one}
use Rattle.refinement.specs.orders.Sound.{node_sound}
use Rattle.sound.proofs.Laws.{plan_none, plan_no, plan_all}
use Rattle.sound.proofs.plan_sound.Goals as goal

pub returns-then-n-eq0 : goal.returns-then-n-eq0
returns-then-n-eq0 c = plan_none c.args.plan.now c.node_count-n.ensures.value c.if-n-eq0.true

pub node_sound-requires : goal.node_sound-requires
node_sound-requires c = (omega (arith, c.node_count-n.ensures.upper_bound), c.node_count-n.ensures.upper_bound)

pub returns-then-not-node_sound : goal.returns-then-not-node_sound
returns-then-not-node_sound c = plan_no c.args.plan.now c.node_count-n.ensures.value c.if-n-eq0.false c.loop-i.i (omega arith) (no c.node_sound.ensures c.if-not-node_sound.true-raw)

pub loop-i-preserved : goal.loop-i-preserved
loop-i-preserved c = every_one (node_sound c.args.plan.now c.node_count-n.result) c.loop-i.i c.loop-i.invariant (yes c.node_sound.ensures c.if-not-node_sound.false-raw)

pub returns : goal.returns
returns c = plan_all c.args.plan.now c.node_count-n.ensures.value c.if-n-eq0.false c.loop-i.i (omega arith) (omega arith) c.loop-i.invariant
