-- `leaf_walk::copy_bits` meets its contract. Assumes nothing.
use native.Mathlib.Omega.{arith}
use borrow.Author.Tests.{leb-true}
use Rattle.array_data.proofs.lent_tables.Laws.{yes}
use Rattle.leaf_walk.specs.Join.{join}
use Rattle.leaf_walk.proofs.Laws.{bits_no, bits_tried, bits_yes}
use Rattle.leaf_walk.proofs.copy_bits.Goals as goal

pub returns-then-not-bits_fit_behind : goal.returns-then-not-bits_fit_behind
returns-then-not-bits_fit_behind c =
    let a = c.args in
    λ lengths source. bits_no (join a.plan.now a.parts.now lengths a.places.now a.body.now a.first source) a.i a.write a.counters.now a.room.now a.slot a.n c.place-at.ensures c.bits_fit_behind.ensures c.if-not-bits_fit_behind.true-raw

pub returns-then-is_uncounted : goal.returns-then-is_uncounted
returns-then-is_uncounted c =
    let a = c.args in
    λ lengths source. bits_tried (join a.plan.now a.parts.now lengths a.places.now a.body.now a.first source) a.i a.write a.counters.now a.room.now a.slot a.n c.place-at.ensures c.bits_fit_behind.ensures c.if-not-bits_fit_behind.false-raw c.is_uncounted.ensures c.if-is_uncounted.true

pub put_mask-zeros-requires : goal.put_mask-zeros-requires
put_mask-zeros-requires c =
    (omega (arith, c.requires), leb-true _ _ (yes c.bits_fit_behind.ensures c.if-not-bits_fit_behind.false-raw))

pub returns : goal.returns
returns c =
    let a = c.args in
    λ lengths source. bits_yes (join a.plan.now a.parts.now lengths a.places.now a.body.now a.first source) a.i a.write a.counters.now a.room.now a.slot a.n c.place-at.ensures c.bits_fit_behind.ensures c.if-not-bits_fit_behind.false-raw c.rows_of-p.ensures c.put_mask-zeros.ensures.room_after c.put_mask-zeros.ensures.value c.add_nulls.ensures
