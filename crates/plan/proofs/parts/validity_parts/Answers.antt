-- `parts::validity_parts` meets its contract. Assumes nothing.
use native.Mathlib.Omega.{arith}
use mathlib.Core.Path.{◌∙◌}
use lib.Dec.{ltb}
use Rattle.array_data.proofs.lent_tables.Laws.{no, yes, is_none, is_some}
use Rattle.plan.specs.parts.Parts.{validity_parts}
use Rattle.plan.proofs.parts.Laws.{byte_one, byte_small}
use Rattle.plan.proofs.parts.validity_parts.Goals as goal

pub returns-then-not-is_copied : goal.returns-then-not-is_copied
unfolding validity_parts
returns-then-not-is_copied c = record { value = rw (no c.is_copied.ensures c.if-not-is_copied.true-raw); upper_bound = omega arith }

pub returns-then-keeps_of-eq0 : goal.returns-then-keeps_of-eq0
unfolding validity_parts
returns-then-keeps_of-eq0 c = record { value = rw (yes c.is_copied.ensures c.if-not-is_copied.false-raw, is_none c.keeps_of.ensures c.if-keeps_of-eq0.true); upper_bound = omega arith }

pub returns : goal.returns
unfolding validity_parts
returns c = record { value = byte_one (ltb c.code_of.result 21) ∙ rw (yes c.is_copied.ensures c.if-not-is_copied.false-raw, is_some c.keeps_of.ensures c.if-keeps_of-eq0.false, c.code_of.ensures); upper_bound = byte_small (ltb c.code_of.result 21) }
