-- `explain::why_nulls` meets its contract. Assumes nothing.
use mathlib.Core.Path.{sym, ◌∙◌}
use Rattle.array_data.proofs.lent_tables.Laws.{no, yes}
use Rattle.model.specs.Book.{nulls}
use Rattle.transform.specs.Answer.{lent}
use Rattle.explain.proofs.Laws.{small_room, no_counters, no_plan, asked}
use Rattle.explain.proofs.why_nulls.Goals as goal

pub returns-then-counters-ne-COUNTERS : goal.returns-then-counters-ne-COUNTERS
returns-then-counters-ne-COUNTERS c =
    let a = c.args in
    λ sources lengths places body. c.plain.ensures ∙ sym (no_counters (lent a.plan.now a.parts.now sources lengths places body) a.m a.counters.now c.if-counters-ne-COUNTERS.true (nulls a.n))

pub returns-then-not-is_walkable : goal.returns-then-not-is_walkable
returns-then-not-is_walkable c =
    let a = c.args in
    λ sources lengths places body. c.plain-then-not-is_walkable.ensures ∙ sym (no_plan (lent a.plan.now a.parts.now sources lengths places body) a.m a.counters.now c.if-counters-ne-COUNTERS.false (no c.is_walkable.ensures c.if-not-is_walkable.true-raw) (nulls a.n))

pub order_nulls-requires : goal.order_nulls-requires
order_nulls-requires c =
    let a = c.args in
    small_room a.plan.now a.m (yes c.is_walkable.ensures c.if-not-is_walkable.false-raw)

pub returns : goal.returns
returns c =
    let a = c.args in
    λ sources lengths places body. asked (lent a.plan.now a.parts.now sources lengths places body) a.m a.counters.now c.if-counters-ne-COUNTERS.false (yes c.is_walkable.ensures c.if-not-is_walkable.false-raw) (nulls a.n) c.load-tally.ensures (c.order_nulls.ensures sources lengths places body)
