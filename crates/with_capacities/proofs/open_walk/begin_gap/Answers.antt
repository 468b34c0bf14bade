-- `open_walk::begin_gap` meets its contract. Assumes nothing.
use mathlib.Core.Path.{ap, ◌∙◌}
use Rattle.schema.specs.formats.Code.{is_run_end}
use Rattle.refinement.specs.orders.Order.{lent}
use Rattle.with_capacities.proofs.open_walk.Laws.{gap_none, gap_off, gap_on}
use Rattle.with_capacities.proofs.open_walk.begin_gap.Goals as goal

pub returns-then-not-is_run_end : goal.returns-then-not-is_run_end
returns-then-not-is_run_end c =
    let z = c.args in
    λ parts sources lengths places body room write. gap_none (lent z.plan.now parts sources lengths places body) write z.i z.counters.now room (c.is_run_end.ensures ∙ ap is_run_end c.code_of-code.ensures) c.if-not-is_run_end.true-raw

pub returns-then-at_u64-ne1 : goal.returns-then-at_u64-ne1
returns-then-at_u64-ne1 c =
    let z = c.args in
    λ parts sources lengths places body room write. gap_off (lent z.plan.now parts sources lengths places body) write z.i z.counters.now room (c.is_run_end.ensures ∙ ap is_run_end c.code_of-code.ensures) c.if-not-is_run_end.false-raw c.at_u64.ensures c.if-at_u64-ne1.true

pub returns : goal.returns
returns c =
    let z = c.args in
    λ parts sources lengths places body room write. gap_on (lent z.plan.now parts sources lengths places body) write z.i z.counters.now room (c.is_run_end.ensures ∙ ap is_run_end c.code_of-code.ensures) c.if-not-is_run_end.false-raw c.at_u64.ensures c.if-at_u64-ne1.false c.set_bytes.ensures
