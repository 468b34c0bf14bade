-- `explain::order_copy` meets its contract. Assumes nothing.
use Prim.Native.Nat.{◌≤◌}
use native.Mathlib.Omega.{arith}
use lib.Dec.{leb}
use borrow.Author.Tests.{leb-true}
use Rattle.array_data.proofs.lent_tables.Laws.{yes, and_left}
use Rattle.transform.specs.Answer.{lent}
use Rattle.explain.proofs.Laws.{no_source, no_rows, copied}
use Rattle.explain.proofs.order_copy.Goals as goal

pub returns-then-at_u64-source : goal.returns-then-at_u64-source
returns-then-at_u64-source c =
    let a = c.args in
    let x = lent a.plan.now a.parts.now a.sources.now a.lengths.now a.places.now a.body.now in
    no_source x a.m a.source a.start a.end c.at_u64.ensures c.if-at_u64-source.true c.plain.ensures

pub returns-then-not-in_source : goal.returns-then-not-in_source
returns-then-not-in_source c =
    let a = c.args in
    let x = lent a.plan.now a.parts.now a.sources.now a.lengths.now a.places.now a.body.now in
    no_rows x a.m a.source a.start a.end c.at_u64.ensures c.if-at_u64-source.false c.at_u32-first.ensures c.in_source.ensures c.if-not-in_source.true-raw c.plain-then-not-in_source.ensures

pub overflow_sub-end : goal.overflow_sub-end
overflow_sub-end c =
    let a = c.args in
    let f : a.start ≤ a.end = leb-true _ _ (and_left (leb a.start a.end) _ (yes c.in_source.ensures c.if-not-in_source.false-raw)) in omega (arith, f)

pub returns : goal.returns
returns c =
    let a = c.args in
    let x = lent a.plan.now a.parts.now a.sources.now a.lengths.now a.places.now a.body.now in
    copied x a.m a.source a.start a.end c.at_u64.ensures c.if-at_u64-source.false c.at_u32-first.ensures c.in_source.ensures c.if-not-in_source.false-raw (c.copy_rows.ensures a.sources.now)
