-- `convert::lists::list_rows` meets its contract. The invariant: where the rest is done, the whole is. Assumes nothing.
use mathlib.Core.Path.{refl}
use mathlib.Core.List.{[]}
use Prim.Native.Nat.{◌+◌, ◌-◌}
use native.Mathlib.Nat.{sub-zero}
use native.Mathlib.Omega.{arith}
use Rattle.walk.proofs.Laws.{each_none, each_stop, each_more}
use Rattle.leaf_walk.specs.Join.{join}
use Rattle.convert.proofs.Walked.{rows_short, rows_all, row_first, row_second, row_size, wide_small}
use borrow.Author.Rules.{rules}
use Rattle.convert.proofs.lists.list_rows.Goals as goal

pub pairs_in-requires : goal.pairs_in-requires
pairs_in-requires c = let z = c.args in let s = wide_small z.w c.requires.w_value in (search rules, search rules, c.requires.slot_value.1, s, s)

pub returns-then-not-pairs_in : goal.returns-then-not-pairs_in
returns-then-not-pairs_in c = let z = c.args in rows_short (join z.plan.now z.parts.now z.lengths.now z.places.now z.body.now z.first 0) z.write z.w z.n z.counters.now z.room.now z.slot c.requires.slot_value.0 (c.pairs_in.ensures z.plan.now z.parts.now z.lengths.now 0) c.if-not-pairs_in.true-raw

pub loop-r-init : goal.loop-r-init
loop-r-init c = λ g c2 room2. simp sub-zero (λ d. d)

pub list_row-g-requires : goal.list_row-g-requires
list_row-g-requires c =
    let z = c.args in
    let p = c.pairs_in.ensures [] [] z.lengths.now 0 in
    let q = c.requires.slot_value.1 in
    let l = c.loop-r in
    let s = row_size (join [] [] z.lengths.now z.places.now z.body.now z.first 0) z.w z.slot z.n l.r p c.if-not-pairs_in.false-raw (omega arith) in
    record { w_value = c.requires.w_value; fact = (c.requires.slot_value.0, omega (arith, q), omega (arith, s), row_first (join [] [] z.lengths.now z.places.now z.body.now z.first 0) z.w z.slot z.n l.r p c.if-not-pairs_in.false-raw (omega arith), row_second (join [] [] z.lengths.now z.places.now z.body.now z.first 0) z.w z.slot z.n l.r p c.if-not-pairs_in.false-raw (omega arith)) }

pub returns-then-g-ne0 : goal.returns-then-g-ne0
returns-then-g-ne0 c =
    let z = c.args in
    let l = c.loop-r in
    rows_all (join z.plan.now z.parts.now z.lengths.now z.places.now z.body.now z.first 0) z.write z.w z.n z.counters.now z.room.now z.slot c.requires.slot_value.0 (c.pairs_in.ensures z.plan.now z.parts.now z.lengths.now 0) c.if-not-pairs_in.false-raw (l.invariant _ _ _ (each_stop _ _ (z.n - l.r) (z.n - (l.r + 1)) _ _ _ (omega arith) c.list_row-g.ensures c.if-g-ne0.true))

pub loop-r-preserved : goal.loop-r-preserved
loop-r-preserved c =
    let z = c.args in
    let l = c.loop-r in
    λ g c2 room2 d. l.invariant _ _ _ (each_more _ _ (z.n - l.r) (z.n - (l.r + 1)) l.r (l.r + 1) _ _ (omega arith) refl c.list_row-g.ensures c.if-g-ne0.false d)

pub returns : goal.returns
returns c =
    let z = c.args in
    let l = c.loop-r in
    rows_all (join z.plan.now z.parts.now z.lengths.now z.places.now z.body.now z.first 0) z.write z.w z.n z.counters.now z.room.now z.slot c.requires.slot_value.0 (c.pairs_in.ensures z.plan.now z.parts.now z.lengths.now 0) c.if-not-pairs_in.false-raw (l.invariant _ _ _ (each_none _ _ (z.n - l.r) _ _ _ (omega arith)))
