-- `target_rules::has_same_format` meets its contract. Assumes nothing.
use mathlib.Core.Path.{◌∙◌}
use Rattle.schema.proofs.Laws.{formats_by}
use Rattle.width_walks.proofs.target_rules.has_same_format.Goals as goal

pub returns : goal.returns
returns c =
    let z = c.args in
    c.same_format.ensures ∙ formats_by z.formats.now z.schema.now z.first z.first2 z.i _ _ _ _ c.get-at.ensures c.get-len.ensures c.get-at2.ensures c.get-len2.ensures
