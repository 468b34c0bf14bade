-- `transform::sparse_nulls::add_sparse_nulls` meets its contract. Assumes nothing.
use native.Mathlib.Omega.{arith}
use Rattle.transform.proofs.sparse_nulls.Laws.{sparse_homeless, sparse_refused, sparse_made}
use Rattle.transform.proofs.sparse_nulls.add_sparse_nulls.Goals as goal

pub returns-then-h-ge32 : goal.returns-then-h-ge32
returns-then-h-ge32 c =
    let a = c.args in
    λ sources lengths places body. sparse_homeless a.plan.now a.parts.now sources lengths places body a.n a.counters.now a.room.now c.requires.1 c.requires.2 c.null_home-h.ensures.value c.if-h-ge32.true c.no_home.ensures

pub returns-then-g-ne0 : goal.returns-then-g-ne0
returns-then-g-ne0 c =
    let a = c.args in
    let n = c.node_count-end.ensures in
    λ sources lengths places body. sparse_refused a.plan.now a.parts.now sources lengths places body a.n a.counters.now a.room.now c.requires.1 c.requires.2 c.null_home-h.ensures.value c.if-h-ge32.false c.requires.0 n.value (omega (arith, n.upper_bound)) c.fields_ground-g.ensures c.if-g-ne0.true

pub returns : goal.returns
returns c =
    let a = c.args in
    let n = c.node_count-end.ensures in
    λ sources lengths places body. sparse_made a.plan.now a.parts.now sources lengths places body a.n a.counters.now a.room.now c.requires.1 c.requires.2 c.null_home-h.ensures.value c.if-h-ge32.false c.requires.0 n.value (omega (arith, n.upper_bound)) c.fields_ground-g.ensures c.if-g-ne0.false c.put_ids.ensures c.put_fields.ensures (c.count_nulls.ensures a.parts.now _) c.add_to.ensures
