-- `finished_places::valid_place` meets its contract. Assumes nothing.
use mathlib.Core.Path.{refl}
use Rattle.array_data.proofs.lent_tables.Laws.{no, yes}
use Rattle.into_builder.proofs.counts.Nulls.{zeros_are}
use Rattle.into_builder.proofs.places.Spots.{valid_dropped, valid_is, valid_start_lem, valid_size}
use native.Mathlib.Omega.{arith}
use Rattle.into_builder.proofs.places.valid_place.Goals as goal

pub returns-then-not-has_part : goal.returns-then-not-has_part
returns-then-not-has_part c =
    let z = c.args in
    λ room g. valid_dropped z.plan.now z.parts.now z.counters.now room z.base z.i z.j z.zeros (zeros_are z.plan.now z.parts.now z.counters.now room z.i z.zeros g refl (no c.has_part.ensures c.if-not-has_part.true-raw))

pub returns-then-zeros-eq0 : goal.returns-then-zeros-eq0
returns-then-zeros-eq0 c =
    let z = c.args in
    λ room g. valid_dropped z.plan.now z.parts.now z.counters.now room z.base z.i z.j z.zeros c.if-zeros-eq0.true

pub returns-then-j-eq0 : goal.returns-then-j-eq0
returns-then-j-eq0 c =
    let z = c.args in
    λ room g. valid_is z.plan.now z.parts.now z.counters.now room z.base z.i z.j z.zeros c.if-zeros-eq0.false c.if-j-eq0.true

pub overflow_add-result : goal.overflow_add-result
overflow_add-result c = omega (arith, c.requires.2.start 0 (omega arith) (yes c.has_part.ensures c.if-not-has_part.false-raw), c.part_start.ensures)

pub returns-then-j-eq1 : goal.returns-then-j-eq1
returns-then-j-eq1 c =
    let z = c.args in
    λ room g. valid_start_lem z.plan.now z.parts.now z.counters.now room z.base z.i z.j z.zeros c.if-zeros-eq0.false c.if-j-eq1.true c.part_start.ensures

pub part_size-requires : goal.part_size-requires
part_size-requires c = (c.requires.0, omega arith, c.requires.2.size 0 (omega arith) (yes c.has_part.ensures c.if-not-has_part.false-raw))

pub returns : goal.returns
returns c =
    let z = c.args in
    λ room g. valid_size z.plan.now z.parts.now z.counters.now room z.base z.i z.j z.zeros c.if-zeros-eq0.false c.requires.1 c.if-j-eq0.false c.if-j-eq1.false c.part_size.ensures
