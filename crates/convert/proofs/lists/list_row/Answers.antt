-- `convert::lists::list_row` meets its contract. Assumes nothing.
use Rattle.leaf_walk.specs.Join.{join}
use native.Mathlib.Omega.{arith}
use mathlib.Core.Path.{ap, ◌∙◌}
use Prim.Native.Nat.{◌+◌}
use Rattle.columnar.specs.Array.{ok}
use Rattle.convert.specs.convert_lists.Listing as walks
use Rattle.convert.proofs.Walked.{row_valid, row_null}
use Rattle.convert.proofs.lists.list_row.Goals as goal

pub copy_row-requires : goal.copy_row-requires
copy_row-requires c = record { w_value = c.requires.w_value; fact = c.requires.fact }

pub returns-then-is_valid : goal.returns-then-is_valid
returns-then-is_valid c =
    let z = c.args in
    row_valid (join z.plan.now z.parts.now z.lengths.now z.places.now z.body.now z.first 0) z.write z.w z.r z.counters.now z.room.now (c.is_valid.ensures z.plan.now z.parts.now z.lengths.now z.w ∙ ap (λ k. ok (walks.validity (join z.plan.now z.parts.now z.lengths.now z.places.now z.body.now z.first 0) z.w) (k + z.r)) c.requires.fact.0) c.if-is_valid.true c.copy_row.ensures

pub end_row-requires : goal.end_row-requires
end_row-requires c = record { w_value = c.requires.w_value; r_bound = (let q = c.requires.fact.1 in omega (arith, q), c.requires.fact.2) }

pub returns : goal.returns
returns c =
    let z = c.args in
    row_null (join z.plan.now z.parts.now z.lengths.now z.places.now z.body.now z.first 0) z.write z.w z.r z.counters.now z.room.now (c.is_valid.ensures z.plan.now z.parts.now z.lengths.now z.w ∙ ap (λ k. ok (walks.validity (join z.plan.now z.parts.now z.lengths.now z.places.now z.body.now z.first 0) z.w) (k + z.r)) c.requires.fact.0) c.if-is_valid.false (c.end_row.ensures z.lengths.now z.places.now z.body.now z.first)
