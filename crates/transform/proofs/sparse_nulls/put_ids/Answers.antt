-- `transform::sparse_nulls::put_ids` meets its contract. Assumes nothing.
use mathlib.Core.Bool.{true}
use Rattle.nested_rows.proofs.Laws.{ids_did}
use Rattle.transform.proofs.sparse_nulls.put_ids.Goals as goal

pub returns : goal.returns
returns c =
    let a = c.args in
    ids_did a.plan.now a.parts.now true 0 a.counters.now a.room.now a.h a.n c.at_u64-o.ensures c.id_of-id.ensures c.put_same.ensures
