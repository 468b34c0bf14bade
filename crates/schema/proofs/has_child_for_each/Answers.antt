-- `schema::has_child_for_each` meets its contract. Assumes nothing.
use mathlib.Core.Path.{sym}
use Rattle.schema.proofs.Laws.{no_ids, counts}
use Rattle.schema.proofs.has_child_for_each.Goals as goal

pub returns-in_default : goal.returns-in_default
returns-in_default c =
    let z = c.args in
    sym (no_ids z.schema.now z.first z.i z.formats.now _ _ _ c.get-at.ensures c.get-len.ensures c.union_ids.ensures.value c.in_default.is)

pub returns : goal.returns
returns c =
    let z = c.args in
    sym (counts z.schema.now z.first z.i z.formats.now _ _ _ c.get-at.ensures c.get-len.ensures c.union_ids.ensures.value _ _ c.in-Some.is c.children_of-n.ensures)
