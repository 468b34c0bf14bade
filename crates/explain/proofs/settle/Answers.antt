-- `explain::settle` meets its contract. Assumes nothing.
use mathlib.Core.Path.{refl, ◌∙◌}
use Rattle.array_data.proofs.lent_tables.Laws.{no, yes}
use native.Mathlib.Omega.{arith}
use Rattle.explain.specs.stops.Why.{unless}
use Rattle.explain.proofs.stops.Shorts.{part_size}
use Rattle.explain.proofs.settle.Goals as goal

pub returns-then-not-parts_within : goal.returns-then-not-parts_within
unfolding unless
returns-then-not-parts_within c = c.plain.ensures ∙ rw (no c.parts_within.ensures c.if-not-parts_within.true-raw) refl

pub why_parts-requires : goal.why_parts-requires
why_parts-requires c =
    let a = c.args in
    λ i b p q h. omega (arith, part_size a.plan.now a.counters.now a.parts.now 0 a.m c.requires (yes c.parts_within.ensures c.if-not-parts_within.false-raw) i b p q h)

pub returns : goal.returns
unfolding unless
returns c = c.why_parts.ensures ∙ rw (yes c.parts_within.ensures c.if-not-parts_within.false-raw) refl
