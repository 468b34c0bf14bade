-- `finished_counts::kept_in` meets its contract. Assumes nothing.
use mathlib.Core.Path.{refl}
use borrow.Author.Tests.{ltb-true}
use Rattle.array_data.proofs.lent_tables.Laws.{no, yes}
use Rattle.into_builder.proofs.counts.Nulls.{kept_copied, kept_not, kept_by}
use Rattle.into_builder.proofs.counts.kept_in.Goals as goal

pub returns-then-is_copied : goal.returns-then-is_copied
returns-then-is_copied c =
    let z = c.args in
    kept_copied z.plan.now z.sources.now z.lengths.now z.places.now z.body.now z.i c.is_copied.ensures c.if-is_copied.true

pub is_counted-requires : goal.is_counted-requires
is_counted-requires c = c.node_of-k.ensures.upper_bound

pub returns-then-not-is_counted : goal.returns-then-not-is_counted
returns-then-not-is_counted c =
    let z = c.args in
    kept_not z.plan.now z.sources.now z.lengths.now z.places.now z.body.now z.i c.is_copied.ensures c.if-is_copied.false c.node_of-k.ensures.value refl (no c.is_counted.ensures c.if-not-is_counted.true-raw)

pub mask_holds-requires : goal.mask_holds-requires
mask_holds-requires c = record { small = c.node_of-k.ensures.upper_bound; sum = ltb-true _ _ (yes c.is_counted.ensures c.if-not-is_counted.false-raw) }

pub returns : goal.returns
returns c =
    let z = c.args in
    kept_by z.plan.now z.sources.now z.lengths.now z.places.now z.body.now z.i c.is_copied.ensures c.if-is_copied.false c.node_of-k.ensures.value refl (yes c.is_counted.ensures c.if-not-is_counted.false-raw) c.mask_holds.ensures
