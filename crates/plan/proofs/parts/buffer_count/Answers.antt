-- `parts::buffer_count` meets its contract. Assumes nothing.
use mathlib.Core.Path.{sym}
use native.Mathlib.Omega.{arith}
use lib.ListN.{get_or-eq_default}
use Rattle.plan.specs.parts.Parts.{buffer_counts}
use Rattle.plan.proofs.parts.buffer_count.Goals as goal

pub returns-else-k-lt24 : goal.returns-else-k-lt24
returns-else-k-lt24 c = sym (get_or-eq_default buffer_counts 0 {n = c.args.code} (omega arith))
