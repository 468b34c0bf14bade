-- `parts::all_in_room` meets its contract. The invariant: the parts below p lie in the room. Assumes nothing.
use mathlib.Core.Path.{sym}
use native.Mathlib.Omega.{arith}
use Rattle.columnar.proofs.Test.{every_false}
use Rattle.array_data.proofs.lent_tables.Laws.{no, yes}
use Rattle.plan.specs.parts.Parts.{in_room}
use Rattle.plan.proofs.parts.Laws.{every_one, every_now}
use Rattle.plan.proofs.placed.all_in_room.Goals as goal

pub returns-then-not-in_room : goal.returns-then-not-in_room
returns-then-not-in_room c = sym (every_false (in_room c.args.parts.now c.args.m) c.args.count c.loop-p.p (omega arith) (no c.in_room.ensures c.if-not-in_room.true-raw))

pub loop-p-preserved : goal.loop-p-preserved
loop-p-preserved c = every_one (in_room c.args.parts.now c.args.m) c.loop-p.p c.loop-p.invariant (yes c.in_room.ensures c.if-not-in_room.false-raw)

pub returns : goal.returns
returns c = sym (every_now (in_room c.args.parts.now c.args.m) c.args.count c.loop-p.p (omega arith) (omega arith) c.loop-p.invariant)
