-- `parts::is_apart` meets its contract. The invariant: part p is apart from those below q. Assumes nothing.
use mathlib.Core.Path.{sym}
use native.Mathlib.Omega.{arith}
use Rattle.columnar.proofs.Test.{every_false}
use Rattle.array_data.proofs.lent_tables.Laws.{no, yes}
use Rattle.plan.specs.parts.Parts.{apart}
use Rattle.plan.proofs.parts.Laws.{every_one, every_now}
use Rattle.plan.proofs.placed.is_apart.Goals as goal

pub returns-then-not-are_apart : goal.returns-then-not-are_apart
returns-then-not-are_apart c = sym (every_false (λ r. apart c.args.parts.now c.args.p r) c.args.p c.loop-q.q (omega arith) (no c.are_apart.ensures c.if-not-are_apart.true-raw))

pub loop-q-preserved : goal.loop-q-preserved
loop-q-preserved c = every_one (λ r. apart c.args.parts.now c.args.p r) c.loop-q.q c.loop-q.invariant (yes c.are_apart.ensures c.if-not-are_apart.false-raw)

pub returns : goal.returns
returns c = sym (every_now (λ r. apart c.args.parts.now c.args.p r) c.args.p c.loop-q.q (omega arith) (omega arith) c.loop-q.invariant)
