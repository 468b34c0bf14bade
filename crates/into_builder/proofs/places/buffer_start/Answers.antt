-- `finished_places::buffer_start` meets its contract. Assumes nothing.
use mathlib.Core.Path.{refl}
use Rattle.array_data.proofs.lent_tables.Laws.{no, yes}
use Rattle.into_builder.proofs.places.Spots.{start_none, start_some}
use native.Mathlib.Omega.{arith}
use Rattle.into_builder.proofs.places.buffer_start.Goals as goal

pub returns-then-not-has_part : goal.returns-then-not-has_part
returns-then-not-has_part c = start_none c.args.plan.now c.args.parts.now c.args.base c.args.i c.args.b refl (no c.has_part.ensures c.if-not-has_part.true-raw)

pub overflow_add-result : goal.overflow_add-result
overflow_add-result c = omega (arith, c.requires.2 (yes c.has_part.ensures c.if-not-has_part.false-raw), c.part_start.ensures)

pub returns : goal.returns
returns c = start_some c.args.plan.now c.args.parts.now c.args.base c.args.i c.args.b refl (yes c.has_part.ensures c.if-not-has_part.false-raw) c.part_start.ensures
