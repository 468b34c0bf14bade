-- `explain::why_copy` meets its contract. Assumes nothing.
use mathlib.Core.Path.{sym, ◌∙◌}
use Rattle.array_data.proofs.lent_tables.Laws.{no, yes}
use Rattle.model.specs.Book.{copy}
use Rattle.transform.specs.Answer.{lent}
use Rattle.explain.proofs.Laws.{small_room, no_counters, no_plan, asked}
use Rattle.explain.proofs.why_copy.Goals as goal

pub returns-then-counters-ne-COUNTERS : goal.returns-then-counters-ne-COUNTERS
returns-then-counters-ne-COUNTERS c =
    let a = c.args in
    let x = lent a.plan.now a.parts.now a.sources.now a.lengths.now a.places.now a.body.now in
    c.plain.ensures ∙ sym (no_counters x a.m a.counters.now c.if-counters-ne-COUNTERS.true (copy a.source a.start a.end))

pub returns-then-not-is_walkable : goal.returns-then-not-is_walkable
returns-then-not-is_walkable c =
    let a = c.args in
    let x = lent a.plan.now a.parts.now a.sources.now a.lengths.now a.places.now a.body.now in
    c.plain-then-not-is_walkable.ensures ∙ sym (no_plan x a.m a.counters.now c.if-counters-ne-COUNTERS.false (no c.is_walkable.ensures c.if-not-is_walkable.true-raw) (copy a.source a.start a.end))

pub order_copy-requires : goal.order_copy-requires
order_copy-requires c =
    let a = c.args in
    small_room a.plan.now a.m (yes c.is_walkable.ensures c.if-not-is_walkable.false-raw)

pub returns : goal.returns
returns c =
    let a = c.args in
    let x = lent a.plan.now a.parts.now a.sources.now a.lengths.now a.places.now a.body.now in
    asked x a.m a.counters.now c.if-counters-ne-COUNTERS.false (yes c.is_walkable.ensures c.if-not-is_walkable.false-raw) (copy a.source a.start a.end) c.load-tally.ensures c.order_copy.ensures
