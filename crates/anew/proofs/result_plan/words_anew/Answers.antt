-- `result_plan::words_anew` meets its contract. Assumes nothing.
use native.Mathlib.Omega.{arith}
use Rattle.array_data.specs.lent_tables.Lent.{tables}
use Rattle.anew.specs.ResultPlan.{keeps_from}
use Rattle.anew.proofs.result_plan.Laws.{words_by}
use Rattle.anew.proofs.result_plan.words_anew.Goals as goal

pub plant-requires : goal.plant-requires
plant-requires c = let p = c.requires in omega arith

pub write_nulls-requires : goal.write_nulls-requires
write_nulls-requires c = let p = c.requires in (p.1, p.2, p.3)

pub write_dictionaries-requires : goal.write_dictionaries-requires
write_dictionaries-requires c = c.requires.1

pub write_parts-requires : goal.write_parts-requires
write_parts-requires c = c.requires.1

pub returns : goal.returns
returns c =
    let z = c.args in
    words_by z.formats.now z.schema.now z.target z.n (keeps_from (tables z.lengths.now z.places.now z.body.now) z.first z.from.now) z.joined c.plant.ensures c.write_nulls.ensures c.write_dictionaries.ensures c.write_parts.ensures
