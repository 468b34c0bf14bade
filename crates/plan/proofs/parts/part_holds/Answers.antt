-- `parts::part_holds` meets its contract. Assumes nothing.
use mathlib.Core.Path.{◌∙◌}
use Rattle.array_data.proofs.lent_tables.Laws.{no, yes}
use Rattle.plan.specs.parts.Parts.{part_holds}
use Rattle.plan.proofs.parts.Laws.{holds_by}
use Rattle.plan.proofs.parts.part_holds.Goals as goal

pub returns-then-not-has_part : goal.returns-then-not-has_part
unfolding part_holds
returns-then-not-has_part c = rw (no c.has_part.ensures c.if-not-has_part.true-raw)

pub returns : goal.returns
unfolding part_holds
returns c = rw (yes c.has_part.ensures c.if-not-has_part.false-raw) (c.fits.ensures ∙ holds_by c.args.plan.now c.args.counters.now c.args.parts.now c.args.i c.args.b c.code_of-code.ensures c.rows_of-r.ensures c.bytes_of-n.ensures c.number_of.ensures.value c.at_u64-size.ensures)
