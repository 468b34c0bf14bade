-- `convert::views::view_walk` meets its contract. Assumes nothing.
use native.Mathlib.Omega.{arith}
use Rattle.leaf_walk.specs.Join.{join}
use Rattle.convert.proofs.Walked.{slot_as, length_as, wide_as}
use Rattle.convert.proofs.Viewed.{walk_mask, walk_rows, walk_done}
use borrow.Author.Rules.{rules}
use Rattle.convert.proofs.views.view_walk.Goals as goal

pub copy_mask-g-requires : goal.copy_mask-g-requires
copy_mask-g-requires c = let z = c.args in let a = slot_as (join z.plan.now z.parts.now z.lengths.now z.places.now z.body.now z.first 0) 0 0 0 c.offset_of-slot.ensures in let b = length_as (join z.plan.now z.parts.now z.lengths.now z.places.now z.body.now z.first 0) 0 0 0 c.length_of-n.ensures in let p = c.requires.first_bound in (search rules, search rules, omega (arith, a, b, p))

pub returns-then-g-ne0 : goal.returns-then-g-ne0
returns-then-g-ne0 c = let z = c.args in walk_mask (join z.plan.now z.parts.now z.lengths.now z.places.now z.body.now z.first 0) z.write z.counters.now z.room.now _ _ (slot_as (join z.plan.now z.parts.now z.lengths.now z.places.now z.body.now z.first 0) 0 0 0 c.offset_of-slot.ensures) (length_as (join z.plan.now z.parts.now z.lengths.now z.places.now z.body.now z.first 0) 0 0 0 c.length_of-n.ensures) (c.copy_mask-g.ensures z.lengths.now 0) c.if-g-ne0.true

pub view_rows-g-requires : goal.view_rows-g-requires
view_rows-g-requires c = let z = c.args in let a = slot_as (join z.plan.now z.parts.now z.lengths.now z.places.now z.body.now z.first 0) 0 0 0 c.offset_of-slot.ensures in let b = length_as (join z.plan.now z.parts.now z.lengths.now z.places.now z.body.now z.first 0) 0 0 0 c.length_of-n.ensures in let p = c.requires.first_bound in record { w_value = wide_as c.width_at-w.ensures c.requires.plan_value; slot_value = (a, omega (arith, a, b, p)) }

pub returns-then-g-ne0-2 : goal.returns-then-g-ne0-2
returns-then-g-ne0-2 c = let z = c.args in walk_rows (join z.plan.now z.parts.now z.lengths.now z.places.now z.body.now z.first 0) z.write z.counters.now z.room.now _ _ (slot_as (join z.plan.now z.parts.now z.lengths.now z.places.now z.body.now z.first 0) 0 0 0 c.offset_of-slot.ensures) (length_as (join z.plan.now z.parts.now z.lengths.now z.places.now z.body.now z.first 0) 0 0 0 c.length_of-n.ensures) (c.copy_mask-g.ensures z.lengths.now 0) c.if-g-ne0.false _ c.width_at-w.ensures c.view_rows-g.ensures c.if-g-ne0-2.true

pub returns : goal.returns
returns c = let z = c.args in walk_done (join z.plan.now z.parts.now z.lengths.now z.places.now z.body.now z.first 0) z.write z.counters.now z.room.now _ _ (slot_as (join z.plan.now z.parts.now z.lengths.now z.places.now z.body.now z.first 0) 0 0 0 c.offset_of-slot.ensures) (length_as (join z.plan.now z.parts.now z.lengths.now z.places.now z.body.now z.first 0) 0 0 0 c.length_of-n.ensures) (c.copy_mask-g.ensures z.lengths.now 0) c.if-g-ne0.false _ c.width_at-w.ensures c.view_rows-g.ensures c.if-g-ne0-2.false c.add_rows.ensures
