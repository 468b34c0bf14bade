-- `finished_places::view_place` meets its contract. Assumes nothing.
use mathlib.Core.Path.{refl}
use Rattle.array_data.proofs.lent_tables.Laws.{no, yes}
use Rattle.into_builder.proofs.places.Spots.{view_not, view_first, view_count_lem}
use Rattle.into_builder.proofs.places.view_place.Goals as goal

pub returns-then-not-is_view : goal.returns-then-not-is_view
returns-then-not-is_view c =
    let z = c.args in
    view_not z.plan.now z.sources.now z.places.now z.i z.j c.code_of.ensures refl (no c.is_view.ensures c.if-not-is_view.true-raw)

pub returns-then-j-eq7 : goal.returns-then-j-eq7
returns-then-j-eq7 c =
    let z = c.args in
    view_first z.plan.now z.sources.now z.places.now z.i z.j c.code_of.ensures refl (yes c.is_view.ensures c.if-not-is_view.false-raw) c.if-j-eq7.true c.count_before.ensures.value

pub returns : goal.returns
returns c =
    let z = c.args in
    view_count_lem z.plan.now z.sources.now z.places.now z.i z.j c.code_of.ensures refl (yes c.is_view.ensures c.if-not-is_view.false-raw) c.if-j-eq7.false c.count_at.ensures.value
