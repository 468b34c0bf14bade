-- `plan::lay_out` meets its contract. Assumes nothing.
use mathlib.Core.Path.{refl}
use Rattle.plan.proofs.Laws.{laid_by}
use Rattle.plan.proofs.lay_out.Goals as goal

pub returns : goal.returns
returns c =
    let z = c.args in
    laid_by z.formats.now z.schema.now z.lengths.now z.places.now z.body.now z.sources.now z.keep refl c.at_u32-first.ensures c.at_u32-n.ensures c.write_type.ensures c.write_keeps.ensures c.write_joined.ensures c.write_bases.ensures c.write_parts.ensures c.part_total.ensures.value
