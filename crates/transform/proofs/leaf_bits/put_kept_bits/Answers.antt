-- `transform::leaf_bits::put_kept_bits` meets its contract. Assumes nothing.
use mathlib.Core.Path.{refl, ap}
use mathlib.Core.Bool.{true, not}
use mathlib.Core.List.{[]}
use borrow.Author.Tests.{leb-true}
use Rattle.leaf_walk.specs.Join.{join}
use Rattle.leaf_walk.proofs.Laws.{mask_ones, mask_bits, bits_yes}
use Rattle.transform.proofs.leaf_rows.Laws.{bits_tests}
use Rattle.transform.proofs.leaf_bits.put_kept_bits.Goals as goal

pub returns-then-place-eq0 : goal.returns-then-place-eq0
returns-then-place-eq0 c =
    let a = c.args in
    λ lengths source. mask_ones (join a.plan.now a.parts.now lengths a.places.now a.body.now a.first source) a.i true a.counters.now a.room.now a.slot a.n refl c.requires.fact c.place.ensures c.if-place-eq0.true c.at_u64-p.ensures c.put_ones.ensures

pub put_mask-zeros-requires : goal.put_mask-zeros-requires
put_mask-zeros-requires c =
    let a = c.args in
    (c.requires.counters_len.2, leb-true _ _ (bits_tests (join a.plan.now [] [] a.places.now a.body.now a.first 0) a.i a.slot a.n refl c.requires.fact c.place.ensures c.if-place-eq0.false c.place-at.ensures c.requires.counters_len.4))

pub returns : goal.returns
returns c =
    let a = c.args in
    let k = bits_tests (join a.plan.now [] [] a.places.now a.body.now a.first 0) a.i a.slot a.n refl c.requires.fact c.place.ensures c.if-place-eq0.false c.place-at.ensures c.requires.counters_len.4 in
    λ lengths source. mask_bits (join a.plan.now a.parts.now lengths a.places.now a.body.now a.first source) a.i true a.counters.now a.room.now a.slot a.n refl c.requires.fact c.place.ensures c.if-place-eq0.false (bits_yes (join a.plan.now a.parts.now lengths a.places.now a.body.now a.first source) a.i true a.counters.now a.room.now a.slot a.n c.place-at.ensures refl (ap not k) c.at_u64-p.ensures c.put_mask-zeros.ensures.room_after c.put_mask-zeros.ensures.value c.add_to.ensures)
