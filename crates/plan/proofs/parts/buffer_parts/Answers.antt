-- `parts::buffer_parts` meets its contract. Assumes nothing.
use mathlib.Core.Path.{ap, ◌∙◌}
use native.Mathlib.Omega.{arith}
use Rattle.array_data.proofs.lent_tables.Laws.{no, yes}
use Rattle.plan.specs.parts.Parts.{buffer_count, buffer_parts}
use Rattle.plan.proofs.parts.Laws.{few_buffers_lem}
use Rattle.plan.proofs.parts.buffer_parts.Goals as goal

pub returns-then-not-is_copied : goal.returns-then-not-is_copied
unfolding buffer_parts
returns-then-not-is_copied c = record { value = rw (no c.is_copied.ensures c.if-not-is_copied.true-raw); upper_bound = omega arith }

pub returns : goal.returns
unfolding buffer_parts
returns c = record { value = rw (yes c.is_copied.ensures c.if-not-is_copied.false-raw) (c.buffer_count.ensures ∙ ap buffer_count c.code_of.ensures); upper_bound = omega (arith, c.buffer_count.ensures, few_buffers_lem c.code_of.result) }
