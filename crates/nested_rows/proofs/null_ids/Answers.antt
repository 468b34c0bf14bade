-- `rows::null_ids` meets its contract. Assumes nothing.
use Rattle.nested_rows.proofs.Laws.{ids_did}
use Rattle.nested_rows.proofs.null_ids.Goals as goal

pub returns : goal.returns
returns c =
    let a = c.args in
    ids_did a.plan.now a.parts.now a.write a.i a.counters.now a.room.now a.h a.n c.rows_of-o.ensures c.id_of.ensures c.put_same.ensures
