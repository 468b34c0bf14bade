-- `batch::list_view::put_head` meets its contract. Assumes nothing.
use mathlib.Core.Path.{refl, sym, subst}
use mathlib.Core.List.{[]}
use Prim.Native.Nat.{◌+◌, ◌*◌, ◌≤◌}
use native.Mathlib.Numerals.{add-one}
use native.Mathlib.Omega.{arith}
use lib.ListN.{length}
use Rattle.room_writes.proofs.Bytes.{width_in_lem}
use Rattle.leaf_walk.specs.Join.{join}
use Rattle.batch.proofs.batch_walk.Node.{half_most, pairs_within, sum_parts, list_childless, list_short, list_over, list_goes}
use Rattle.batch.proofs.list_view.put_head.Goals as goal

pub returns-then-not-pairs_in : goal.returns-then-not-pairs_in
returns-then-not-pairs_in c =
    let a = c.args in
    record { any_lengths = λ h lengths source child. rw c.refused-then-not-pairs_in.ensures (list_short (join a.plan.now a.parts.now lengths a.places.now a.body.now a.first source) child a.i a.w a.slot a.n a.write a.counters.now a.room.now c.has_child.ensures c.if-not-has_child.false-raw (c.pairs_in.ensures a.plan.now a.parts.now lengths source) c.if-not-pairs_in.true-raw); named = λ h. absurd (omega (arith, c.refused-then-not-pairs_in.ensures, h)); any_lengths_2 = λ h. absurd (omega (arith, c.refused-then-not-pairs_in.ensures, h)) }

pub returns-then-not-is_offset : goal.returns-then-not-is_offset
returns-then-not-is_offset c =
    let a = c.args in
    record { any_lengths = λ h lengths source child. rw c.refused-then-not-is_offset.ensures (list_over (join a.plan.now a.parts.now lengths a.places.now a.body.now a.first source) child a.i a.w a.slot a.n a.write a.counters.now a.room.now c.has_child.ensures c.if-not-has_child.false-raw (c.pairs_in.ensures a.plan.now a.parts.now lengths source) c.if-not-pairs_in.false-raw (let h = half_most a.w c.requires.w_value in omega arith) c.place-sizes.ensures (rw (add-one a.i) at c.rows_of-rows.ensures) c.sum_sizes-sum.ensures c.is_offset.ensures c.if-not-is_offset.true-raw); named = λ h. absurd (omega (arith, c.refused-then-not-is_offset.ensures, h)); any_lengths_2 = λ h. absurd (omega (arith, c.refused-then-not-is_offset.ensures, h)) }

pub put_sums-requires : goal.put_sums-requires
put_sums-requires c =
    let a = c.args in
    let h = pairs_within (join a.plan.now a.parts.now [] a.places.now a.body.now a.first 0) a.i a.w a.slot a.n (c.pairs_in.ensures a.plan.now a.parts.now [] 0) c.if-not-pairs_in.false-raw in
    let g = sum_parts (join a.plan.now a.parts.now [] a.places.now a.body.now a.first 0) a.i a.w a.slot a.n (half_most a.w c.requires.w_value) c.place-sizes.ensures c.sum_sizes-sum.ensures c.is_offset.ensures c.if-not-is_offset.false-raw in
    record { i_bound = (omega (arith, c.requires.first_bound.1), subst (λ v. v + a.w * (a.slot + a.n) ≤ length a.body.now) (sym c.place-sizes.ensures) h.1, c.requires.first_bound.2, g.0); w_value = c.requires.w_value }

pub returns : goal.returns
returns c =
    let a = c.args in
    let h = pairs_within (join a.plan.now a.parts.now [] a.places.now a.body.now a.first 0) a.i a.w a.slot a.n (c.pairs_in.ensures a.plan.now a.parts.now [] 0) c.if-not-pairs_in.false-raw in
    let g = sum_parts (join a.plan.now a.parts.now [] a.places.now a.body.now a.first 0) a.i a.w a.slot a.n (half_most a.w c.requires.w_value) c.place-sizes.ensures c.sum_sizes-sum.ensures c.is_offset.ensures c.if-not-is_offset.false-raw in
    record { any_lengths = λ h. absurd (h refl); named = λ z. (h.0, h.1, g.2, g.3); any_lengths_2 = λ z lengths source child g2 c2 room2 d. list_goes (join a.plan.now a.parts.now lengths a.places.now a.body.now a.first source) child a.i a.w a.slot a.n a.write a.counters.now a.room.now c.has_child.ensures c.if-not-has_child.false-raw (c.pairs_in.ensures a.plan.now a.parts.now lengths source) c.if-not-pairs_in.false-raw (let h = half_most a.w c.requires.w_value in omega arith) c.place-sizes.ensures (rw (add-one a.i) at c.rows_of-rows.ensures) c.sum_sizes-sum.ensures c.is_offset.ensures c.if-not-is_offset.false-raw (omega (arith, c.well_formed)) c.rows_of.ensures c.scale-o.ensures c.put_sums.ensures (omega (arith, c.well_formed)) c.put_copy.ensures d }

pub returns-then-not-has_child : goal.returns-then-not-has_child
returns-then-not-has_child c =
    let a = c.args in
    record { any_lengths = λ h lengths source child. rw c.refused.ensures (list_childless (join a.plan.now a.parts.now lengths a.places.now a.body.now a.first source) child a.i a.w a.slot a.n a.write a.counters.now a.room.now c.has_child.ensures c.if-not-has_child.true-raw); named = λ h. absurd (omega (arith, c.refused.ensures, h)); any_lengths_2 = λ h. absurd (omega (arith, c.refused.ensures, h)) }

pub sum_sizes-sum-requires : goal.sum_sizes-sum-requires
sum_sizes-sum-requires c =
    let a = c.args in
    let h = pairs_within (join a.plan.now a.parts.now [] a.places.now a.body.now a.first 0) a.i a.w a.slot a.n (c.pairs_in.ensures a.plan.now a.parts.now [] 0) c.if-not-pairs_in.false-raw in
    record { n_in_bounds = (subst (λ v. v + a.w * (a.slot + a.n) ≤ length a.body.now) (sym c.place-sizes.ensures) h.1, c.requires.first_bound.2); w_value = c.requires.w_value }

pub overflow_mul-from : goal.overflow_mul-from
overflow_mul-from c =
    let a = c.args in
    let h = pairs_within (join a.plan.now a.parts.now [] a.places.now a.body.now a.first 0) a.i a.w a.slot a.n (c.pairs_in.ensures a.plan.now a.parts.now [] 0) c.if-not-pairs_in.false-raw in
    omega (arith, h.1, c.well_formed)

pub overflow_add-from : goal.overflow_add-from
overflow_add-from c =
    let a = c.args in
    let h = pairs_within (join a.plan.now a.parts.now [] a.places.now a.body.now a.first 0) a.i a.w a.slot a.n (c.pairs_in.ensures a.plan.now a.parts.now [] 0) c.if-not-pairs_in.false-raw in
    omega (arith, h.1, c.well_formed, c.place-sizes.ensures)

pub overflow_mul-w : goal.overflow_mul-w
overflow_mul-w c =
    let a = c.args in
    let h = pairs_within (join a.plan.now a.parts.now [] a.places.now a.body.now a.first 0) a.i a.w a.slot a.n (c.pairs_in.ensures a.plan.now a.parts.now [] 0) c.if-not-pairs_in.false-raw in
    omega (arith, h.1, c.well_formed)

pub put_copy-requires : goal.put_copy-requires
put_copy-requires c =
    let a = c.args in
    let h = pairs_within (join a.plan.now a.parts.now [] a.places.now a.body.now a.first 0) a.i a.w a.slot a.n (c.pairs_in.ensures a.plan.now a.parts.now [] 0) c.if-not-pairs_in.false-raw in
    omega (arith, h.1, c.place-sizes.ensures, c.requires.first_bound)

pub overflow_sub-total : goal.overflow_sub-total
overflow_sub-total c =
    let a = c.args in
    let g = sum_parts (join a.plan.now a.parts.now [] a.places.now a.body.now a.first 0) a.i a.w a.slot a.n (half_most a.w c.requires.w_value) c.place-sizes.ensures c.sum_sizes-sum.ensures c.is_offset.ensures c.if-not-is_offset.false-raw in
    omega (arith, g.1)
