-- `open_walk::keys_hold` meets its contract. The invariant: the keys of the sources below s have room. Assumes nothing.
use mathlib.Core.Path.{refl, sym}
use mathlib.Core.List.{[]}
use native.Mathlib.Omega.{arith}
use Rattle.columnar.proofs.Test.{every_false}
use Rattle.array_data.proofs.lent_tables.Laws.{no, yes}
use Rattle.plan.proofs.parts.Laws.{every_one, every_now}
use Rattle.refinement.specs.opening.Open.{key_holds}
use Rattle.refinement.specs.orders.Order.{lent}
use Rattle.with_capacities.proofs.open_walk.Laws.{keys_none, keys_are, key_at_lem}
use Rattle.with_capacities.proofs.open_walk.keys_hold.Goals as goal

pub returns-then-not-is_integer : goal.returns-then-not-is_integer
returns-then-not-is_integer c =
    let z = c.args in
    λ parts places body. keys_none (lent z.plan.now parts z.sources.now z.lengths.now places body) z.i c.code_of-code.ensures c.is_integer.ensures c.if-not-is_integer.true-raw

pub loop-s-init : goal.loop-s-init
loop-s-init c = λ n e. refl

pub key_fits-requires : goal.key_fits-requires
key_fits-requires c = yes c.is_integer.ensures c.if-not-is_integer.false-raw

pub returns-then-not-key_fits : goal.returns-then-not-key_fits
returns-then-not-key_fits c =
    let z = c.args in
    let s = c.loop-s.s in
    let m = c.source_count-m.result in
    λ parts places body.
    let x = lent z.plan.now parts z.sources.now z.lengths.now places body in
    keys_are x z.i c.code_of-code.ensures c.is_integer.ensures c.if-not-is_integer.false-raw c.source_count-m.ensures.value
    (λ n e. sym (every_false (key_holds x n z.i) m s (omega arith) (no (key_at_lem x n z.i s c.base_of-start.ensures c.node_of-k.ensures.value c.length_of-n.ensures (c.key_fits.ensures n e)) c.if-not-key_fits.true-raw)))

pub loop-s-preserved : goal.loop-s-preserved
loop-s-preserved c =
    let z = c.args in
    let s = c.loop-s.s in
    let x = lent z.plan.now [] z.sources.now z.lengths.now [] [] in
    λ n e. every_one (key_holds x n z.i) s (c.loop-s.invariant n e) (yes (key_at_lem x n z.i s c.base_of-start.ensures c.node_of-k.ensures.value c.length_of-n.ensures (c.key_fits.ensures n e)) c.if-not-key_fits.false-raw)

pub returns : goal.returns
returns c =
    let z = c.args in
    let s = c.loop-s.s in
    let m = c.source_count-m.result in
    λ parts places body.
    let x = lent z.plan.now parts z.sources.now z.lengths.now places body in
    keys_are x z.i c.code_of-code.ensures c.is_integer.ensures c.if-not-is_integer.false-raw c.source_count-m.ensures.value
    (λ n e. sym (every_now (key_holds x n z.i) m s (omega arith) (omega arith) (c.loop-s.invariant n e)))
