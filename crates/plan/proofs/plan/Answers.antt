-- `plan::plan` meets its contract. Assumes nothing.
use Rattle.plan.proofs.Laws.{planned_by}
use Rattle.plan.proofs.plan.Goals as goal

pub returns : goal.returns
returns c =
    let z = c.args in
    planned_by z.formats.now z.schema.now z.lengths.now z.places.now z.body.now z.sources.now z.keep z.gaps c.lay_out.ensures c.choice_word.ensures
