-- `into_builder::tables_fit` meets its contract. Assumes nothing.
use Rattle.into_builder.proofs.Whole.{fit_by}
use native.Mathlib.Omega.{arith}
use Rattle.into_builder.proofs.tables_fit.Goals as goal

pub count_before-total-requires : goal.count_before-total-requires
count_before-total-requires c = c.node_count-n.ensures.upper_bound

pub overflow_mul-nodes : goal.overflow_mul-nodes
overflow_mul-nodes c = omega (arith, c.node_count-n.ensures.upper_bound)

pub overflow_mul-nodes-2 : goal.overflow_mul-nodes-2
overflow_mul-nodes-2 c = omega (arith, c.node_count-n.ensures.upper_bound)

pub overflow_mul-result : goal.overflow_mul-result
overflow_mul-result c = omega (arith, c.count_before-total.ensures.upper_bound)

pub returns : goal.returns
returns c =
    let z = c.args in
    fit_by z.plan.now z.sources.now z.places.now z.lengths z.nulls z.spots z.names c.node_count-n.ensures.value c.count_before-total.ensures.value
