-- `finished_places::buffer_size` meets its contract. Assumes nothing.
use mathlib.Core.Path.{refl}
use Rattle.array_data.proofs.lent_tables.Laws.{no, yes}
use Rattle.into_builder.proofs.places.Spots.{size_none, size_some}
use Rattle.into_builder.proofs.places.buffer_size.Goals as goal

pub returns-then-not-has_part : goal.returns-then-not-has_part
returns-then-not-has_part c = size_none c.args.plan.now c.args.counters.now c.args.i c.args.b refl (no c.has_part.ensures c.if-not-has_part.true-raw)

pub part_size-requires : goal.part_size-requires
part_size-requires c = (c.requires.0, c.requires.1, c.requires.2 (yes c.has_part.ensures c.if-not-has_part.false-raw))

pub returns : goal.returns
returns c = size_some c.args.plan.now c.args.counters.now c.args.i c.args.b refl (yes c.has_part.ensures c.if-not-has_part.false-raw) c.part_size.ensures
