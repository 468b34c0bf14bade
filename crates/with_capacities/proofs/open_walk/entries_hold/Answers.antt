-- `open_walk::entries_hold` meets its contract. The invariant: the entries of the sources below s are counted. Assumes nothing.
use mathlib.Core.Path.{sym}
use mathlib.Core.List.{[]}
use native.Mathlib.Omega.{arith}
use Rattle.columnar.proofs.Test.{every_false}
use Rattle.array_data.proofs.lent_tables.Laws.{no, yes}
use Rattle.plan.proofs.parts.Laws.{every_one, every_now}
use Rattle.refinement.specs.orders.Order.{lent}
use Rattle.with_capacities.proofs.open_walk.Laws.{entry_holds, entry_at, entries_are}
use Rattle.with_capacities.proofs.open_walk.entries_hold.Goals as goal

pub returns-then-not-fits : goal.returns-then-not-fits
returns-then-not-fits c =
    let z = c.args in
    let s = c.loop-s.s in
    let m = c.source_count-m.result in
    λ parts places body.
    let x = lent z.plan.now parts z.sources.now z.lengths.now places body in
    entries_are x z.i c.source_count-m.ensures.value
    (sym (every_false (entry_holds x z.i) m s (omega arith) (no (entry_at x z.i s c.base_of.ensures c.node_of.ensures.value c.length_of-n.ensures c.fits.ensures) c.if-not-fits.true-raw)))

pub loop-s-preserved : goal.loop-s-preserved
loop-s-preserved c =
    let z = c.args in
    let s = c.loop-s.s in
    let x = lent z.plan.now [] z.sources.now z.lengths.now [] [] in
    every_one (entry_holds x z.i) s c.loop-s.invariant (yes (entry_at x z.i s c.base_of.ensures c.node_of.ensures.value c.length_of-n.ensures c.fits.ensures) c.if-not-fits.false-raw)

pub returns : goal.returns
returns c =
    let z = c.args in
    let s = c.loop-s.s in
    let m = c.source_count-m.result in
    λ parts places body.
    let x = lent z.plan.now parts z.sources.now z.lengths.now places body in
    entries_are x z.i c.source_count-m.ensures.value (sym (every_now (entry_holds x z.i) m s (omega arith) (omega arith) c.loop-s.invariant))
