-- `trip::order::walk_copy` meets its contract. Assumes nothing.
use Prim.Native.Nat.{◌≤◌}
use native.Mathlib.Omega.{arith}
use lib.Dec.{leb}
use borrow.Author.Tests.{leb-true}
use Rattle.array_data.proofs.lent_tables.Laws.{no, yes, and_left}
use Rattle.transform.specs.Answer.{lent}
use Rattle.trip.proofs.Laws.{walk_no_source, walk_no_rows, walk_copied}
use Rattle.trip.proofs.order.walk_copy.Goals as goal

pub returns-then-at_u64-source : goal.returns-then-at_u64-source
returns-then-at_u64-source c =
    let z = c.args in
    let x = lent z.plan.now z.parts.now z.sources.now z.lengths.now z.places.now z.body.now in
    walk_no_source x z.counters.now z.source z.start z.end c.at_u64.ensures c.if-at_u64-source.true

pub returns-then-not-in_source : goal.returns-then-not-in_source
returns-then-not-in_source c =
    let z = c.args in
    let x = lent z.plan.now z.parts.now z.sources.now z.lengths.now z.places.now z.body.now in
    walk_no_rows x z.counters.now z.source z.start z.end c.at_u64.ensures c.if-at_u64-source.false c.at_u32-first.ensures (no c.in_source.ensures c.if-not-in_source.true-raw)

pub overflow_sub-end : goal.overflow_sub-end
overflow_sub-end c =
    let z = c.args in
    let f : z.start ≤ z.end = leb-true _ _ (and_left (leb z.start z.end) _ (yes c.in_source.ensures c.if-not-in_source.false-raw)) in
    omega (arith, f)

pub returns : goal.returns
returns c =
    let z = c.args in
    let x = lent z.plan.now z.parts.now z.sources.now z.lengths.now z.places.now z.body.now in
    walk_copied x z.counters.now z.source z.start z.end c.at_u64.ensures c.if-at_u64-source.false c.at_u32-first.ensures (yes c.in_source.ensures c.if-not-in_source.false-raw) c.extend.ensures
