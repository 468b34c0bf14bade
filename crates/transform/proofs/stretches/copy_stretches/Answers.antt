-- `transform::stretches::copy_stretches` meets its contract. Assumes nothing.
use mathlib.Core.Path.{refl, ◌∙◌}
use mathlib.Core.List.{[]}
use native.Mathlib.Omega.{arith}
use borrow.Author.Tests.{not-false}
use Rattle.array_data.proofs.lent_tables.Laws.{yes}
use Rattle.bits.proofs.Laws.{below_of_lem}
use Rattle.batch.proofs.batch_walk.Rises.{rises}
use Rattle.transform.specs.Answer.{lent}
use Rattle.transform.proofs.stretches.Laws.{dry_room, counters_of_lem, stretches_parts, stretches_made, stretches_zero}
use borrow.Author.Rules.{rules}
use Rattle.transform.proofs.stretches.copy_stretches.Goals as goal

pub returns-then-g-ne0-2 : goal.returns-then-g-ne0-2
returns-then-g-ne0-2 c =
    let a = c.args in
    record { counters_value = λ h. (refl, dry_room (c.copy_by_stretches-g.ensures 0)); copies_any = λ h sources source. stretches_parts (lent a.plan.now a.parts.now sources a.lengths.now a.places.now a.body.now) a.counters.now a.room.now a.first source a.start a.n (counters_of_lem a.counters.now c.requires.0 (λ q. let h = (c.slice_known-1.given q).fits in omega arith)) c.load-tried.ensures (c.copy_by_stretches-g.ensures source) c.if-g-ne0.false (rw c.copied-asked.ensures at c.parts_ground-g.ensures) c.if-g-ne0-2.true }

pub returns : goal.returns
returns c =
    let a = c.args in
    record { counters_value = λ h. absurd (let z = stretches_zero (lent a.plan.now a.parts.now [] a.lengths.now a.places.now a.body.now) a.counters.now a.room.now a.first 0 a.start a.n (counters_of_lem a.counters.now c.requires.0 (λ q. let h = (c.slice_known-1.given q).fits in omega arith)) c.load-tried.ensures (c.copy_by_stretches-g.ensures 0) c.if-g-ne0.false (rw c.copied-asked.ensures at c.parts_ground-g.ensures) c.if-g-ne0-2.false (below_of_lem 256 a.body.now (λ q. (c.shared_slice_known-5-1.given q).fits)) (below_of_lem 256 a.room.now (λ q. (c.slice_known-2-1.given q).fits)) (omega (arith, c.well_formed)) (rises a.plan.now a.parts.now c.parts_rise.ensures (not-false c.parts_rise.result c.if-not-parts_rise.false-raw)) c.load-tally.ensures (c.copy_by_stretches-g-2.ensures 0) c.store.ensures in omega (arith, z, h)); copies_any = λ h sources source. stretches_made (lent a.plan.now a.parts.now sources a.lengths.now a.places.now a.body.now) a.counters.now a.room.now a.first source a.start a.n (counters_of_lem a.counters.now c.requires.0 (λ q. let h = (c.slice_known-1.given q).fits in omega arith)) c.load-tried.ensures (c.copy_by_stretches-g.ensures source) c.if-g-ne0.false (rw c.copied-asked.ensures at c.parts_ground-g.ensures) c.if-g-ne0-2.false (below_of_lem 256 a.body.now (λ q. (c.shared_slice_known-5-1.given q).fits)) (below_of_lem 256 a.room.now (λ q. (c.slice_known-2-1.given q).fits)) (omega (arith, c.well_formed)) (rises a.plan.now a.parts.now c.parts_rise.ensures (not-false c.parts_rise.result c.if-not-parts_rise.false-raw)) c.load-tally.ensures (c.copy_by_stretches-g-2.ensures source) c.store.ensures }

pub returns-then-g-ne0 : goal.returns-then-g-ne0
returns-then-g-ne0 c = record { counters_value = λ h. (refl, dry_room (c.copy_by_stretches-g.ensures 0)); copies_any = λ h. absurd (h refl) }
