-- `with_capacities::room_placed` meets its contract. Assumes nothing.
use borrow.Author.Tests.{eq-eqb, ne_eqb}
use mathlib.Core.Path.{ap, ◌∙◌}
use Rattle.plan.specs.parts.Parts.{parts_placed}
use Rattle.with_capacities.proofs.room_placed.Goals as goal

pub returns-then-words-ne-WORDS : goal.returns-then-words-ne-WORDS
returns-then-words-ne-WORDS c = rw (ne_eqb c.args.words 872 c.if-words-ne-WORDS.true)

pub returns-then-counters-ne-COUNTERS : goal.returns-then-counters-ne-COUNTERS
returns-then-counters-ne-COUNTERS c = rw (eq-eqb c.args.words 872 c.if-words-ne-WORDS.false, ne_eqb c.args.counters 96 c.if-counters-ne-COUNTERS.true)

pub returns : goal.returns
returns c =
    let z = c.args in
    rw (eq-eqb z.words 872 c.if-words-ne-WORDS.false, eq-eqb z.counters 96 c.if-counters-ne-COUNTERS.false) (c.parts_placed.ensures ∙ ap (λ k. parts_placed z.parts.now k z.m) c.part_total.ensures.value)
