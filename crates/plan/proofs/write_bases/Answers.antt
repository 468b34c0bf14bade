-- `plan::write_bases` meets its contract. The invariant: the first q words are written. Assumes nothing.
use Prim.Native.Nat.{◌+◌, ◌*◌, ◌/◌, ◌%◌}
use native.Mathlib.Omega.{arith}
use Rattle.array_data.specs.lent_tables.Lent.{tables}
use Rattle.plan.specs.Plan.{base_word, with_bases}
use Rattle.plan.proofs.Laws.{filled_none, filled_more, filled_all}
use Rattle.plan.proofs.write_bases.Goals as goal

pub loop-q-init : goal.loop-q-init
loop-q-init c =
    let z = c.args in
    filled_none (λ k. 352 + k) (λ words k. base_word (tables z.lengths.now z.places.now z.body.now) z.sources.now z.m words (k / 32) (k % 32)) z.plan.now

pub loop-q-preserved : goal.loop-q-preserved
loop-q-preserved c =
    let z = c.args in
    let l = c.loop-q in
    filled_more (λ k. 352 + k) (λ words k. base_word (tables z.lengths.now z.places.now z.body.now) z.sources.now z.m words (k / 32) (k % 32)) l.q z.plan.now l.plan l.invariant c.base_word.ensures

pub returns : goal.returns
unfolding with_bases
returns c =
    let z = c.args in
    let l = c.loop-q in
    filled_all (λ k. 352 + k) (λ words k. base_word (tables z.lengths.now z.places.now z.body.now) z.sources.now z.m words (k / 32) (k % 32)) l.q (32 * z.m) z.plan.now l.plan (omega arith) l.invariant
