-- `width_loop::kinds::walk_list_view` meets its contract. Assumes nothing.
use mathlib.Core.List.{[]}
use native.Mathlib.Nat.{mul_comm}
use Prim.Native.Nat.{◌+◌}
use native.Mathlib.Omega.{arith}
use Rattle.array_data.specs.entries.Entries.{column}
use Rattle.width_loop.proofs.Own.{did_zero, first_small, second_small, first_most, second_most, pairs_as, next_settles}
use Rattle.width_loop.proofs.kinds.walk_list_view.Goals as goal

pub put_pairs-g-requires : goal.put_pairs-g-requires
put_pairs-g-requires c =
    let a = c.args in
    let p = c.requires in
    let x = column a.lengths.now a.places.now [] a.body.now a.first in
    let e = c.place_at-at.ensures in
    let f = c.place_at-too.ensures in
    let m = c.length_at-most.ensures in
    record { i_bound = (omega arith, omega (arith, e, mul_comm a.w (a.s + a.n)), omega (arith, f, mul_comm a.w (a.s + a.n))); w_value = p.w_value; by_index = (first_small x a.i a.s a.n a.w p.fact.1 p.fact.3 e p.fact_2.0, second_small x a.i a.s a.n a.w p.fact.2 p.fact.4 f p.fact_2.1); by_index_2 = (first_most x a.i a.s a.n a.w p.fact.1 p.fact.3 e m p.fact_3.0, second_most x a.i a.s a.n a.w p.fact.2 p.fact.4 f m p.fact_3.1) }

pub returns-then-g-ne0 : goal.returns-then-g-ne0
returns-then-g-ne0 c =
    let a = c.args in
    let p = c.requires in
    record { any_tree = (λ t t2 okay d. pairs_as a.plan.now a.parts.now a.write a.room.now (column [] a.places.now [] a.body.now a.first) a.i a.s a.n d t t2 okay a.w a.w2 p.fact.1 p.fact.2 p.fact.3 p.fact.4 c.place_at-at.ensures c.place_at-too.ensures c.put_pairs-g.ensures); ranges_value = λ t t2 z. absurd (c.if-g-ne0.true z) }

pub returns : goal.returns
returns c =
    let a = c.args in
    let p = c.requires in
    record { any_tree = (λ t t2 okay d. did_zero c.if-g-ne0.false (pairs_as a.plan.now a.parts.now a.write a.room.now (column [] a.places.now [] a.body.now a.first) a.i a.s a.n d t t2 okay a.w a.w2 p.fact.1 p.fact.2 p.fact.3 p.fact.4 c.place_at-at.ensures c.place_at-too.ensures c.put_pairs-g.ensures)); ranges_value = λ t t2 z. next_settles (column a.lengths.now a.places.now [] a.body.now a.first) a.i a.ranges.now c.length_at-most.ensures c.set_range.ensures }
