-- `parts::all_apart` meets its contract. The invariant: the parts below p are apart. Assumes nothing.
use mathlib.Core.Path.{sym}
use native.Mathlib.Omega.{arith}
use Rattle.columnar.specs.Test.{every}
use Rattle.columnar.proofs.Test.{every_false}
use Rattle.array_data.proofs.lent_tables.Laws.{no, yes}
use Rattle.plan.specs.parts.Parts.{apart}
use Rattle.plan.proofs.parts.Laws.{every_one, every_now}
use Rattle.plan.proofs.placed.all_apart.Goals as goal

pub returns-then-not-is_apart : goal.returns-then-not-is_apart
returns-then-not-is_apart c = sym (every_false (λ r. every (λ q. apart c.args.parts.now r q) r) c.args.count c.loop-p.p (omega arith) (no c.is_apart.ensures c.if-not-is_apart.true-raw))

pub loop-p-preserved : goal.loop-p-preserved
loop-p-preserved c = every_one (λ r. every (λ q. apart c.args.parts.now r q) r) c.loop-p.p c.loop-p.invariant (yes c.is_apart.ensures c.if-not-is_apart.false-raw)

pub returns : goal.returns
returns c = sym (every_now (λ r. every (λ q. apart c.args.parts.now r q) r) c.args.count c.loop-p.p (omega arith) (omega arith) c.loop-p.invariant)
