-- `convert::views::view_row` meets its contract. Assumes nothing.
use mathlib.Core.Path.{refl}
use Rattle.leaf_walk.specs.Join.{join}
use Rattle.convert.proofs.Viewed.{start_fits, next_fits, row_small, view_did}
use borrow.Author.Rules.{rules}
use Rattle.convert.proofs.views.view_row.Goals as goal

pub entry_at-start-requires : goal.entry_at-start-requires
entry_at-start-requires c = let z = c.args in record { w_value = c.requires.w_value; k_in_bounds = start_fits (join z.plan.now z.parts.now z.lengths.now z.places.now z.body.now z.first 0) z.w z.slot z.r c.place-at.ensures c.requires.fact.3 }

pub entry_at-next-requires : goal.entry_at-next-requires
entry_at-next-requires c = let z = c.args in record { w_value = c.requires.w_value; k_in_bounds = next_fits (join z.plan.now z.parts.now z.lengths.now z.places.now z.body.now z.first 0) z.w z.slot z.r c.place-at.ensures c.requires.fact.3 }

pub overflow_mul-o : goal.overflow_mul-o
overflow_mul-o c = let z = c.args in let q = row_small z.w z.r c.requires.fact.2 in search (rules, q)

pub returns : goal.returns
returns c = let z = c.args in view_did (join z.plan.now z.parts.now z.lengths.now z.places.now z.body.now z.first 0) z.write z.w z.r z.counters.now z.room.now z.slot c.requires.fact.0 c.place-at.ensures c.entry_at-start.ensures c.entry_at-next.ensures refl c.put_number.ensures c.saturating_sub-size.ensures c.put_number-2.ensures
