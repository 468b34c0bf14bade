-- `finished_counts::zeros_at` meets its contract. Assumes nothing.
use mathlib.Core.Path.{refl}
use Rattle.array_data.proofs.lent_tables.Laws.{no, yes}
use Rattle.into_builder.proofs.counts.Nulls.{zeros_none, zeros_some}
use native.Mathlib.Omega.{arith}
use Rattle.into_builder.proofs.counts.zeros_at.Goals as goal

pub returns-then-not-has_part : goal.returns-then-not-has_part
returns-then-not-has_part c =
    let z = c.args in
    zeros_none z.plan.now z.parts.now z.counters.now z.room.now z.i refl (no c.has_part.ensures c.if-not-has_part.true-raw)

pub count_zeros-requires : goal.count_zeros-requires
count_zeros-requires c = omega (arith, c.requires.1 (yes c.has_part.ensures c.if-not-has_part.false-raw), c.part_start-start.ensures, c.at_u64-n.ensures)

pub returns : goal.returns
returns c =
    let z = c.args in
    zeros_some z.plan.now z.parts.now z.counters.now z.room.now z.i refl (yes c.has_part.ensures c.if-not-has_part.false-raw) c.part_start-start.ensures c.at_u64-n.ensures c.count_zeros.ensures
