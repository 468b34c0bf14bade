-- `sharing::any_null` meets its contract. The invariant: no source below s has a null. Assumes nothing.
use mathlib.Core.Path.{◌≡◌, sym}
use native.Mathlib.Numerals.{add-one}
use native.Mathlib.Omega.{arith}
use Rattle.array_data.specs.lent_tables.Lent.{tables}
use Rattle.plan.specs.dictionaries.Sources.{array_at}
use Rattle.plan.proofs.dictionaries.Laws.{count_at_lem, nulls_no, nulls_yes}
use Rattle.plan.proofs.dictionaries.any_null.Goals as goal

pub returns-then-null_count-ne0 : goal.returns-then-null_count-ne0
returns-then-null_count-ne0 c =
    let a = c.args in
    sym (nulls_yes (array_at (tables a.lengths.now a.places.now a.body.now) a.sources.now a.i) c.loop-s.s a.m (omega arith) (count_at_lem (tables a.lengths.now a.places.now a.body.now) a.sources.now a.i c.loop-s.s c.null_count.ensures c.node_of-k.ensures.value) c.if-null_count-ne0.true)

pub loop-s-preserved : goal.loop-s-preserved
loop-s-preserved c =
    let a = c.args in
    let s = c.loop-s.s in
    rw (add-one s) (nulls_no (array_at (tables a.lengths.now a.places.now a.body.now) a.sources.now a.i) s c.loop-s.invariant (count_at_lem (tables a.lengths.now a.places.now a.body.now) a.sources.now a.i s c.null_count.ensures c.node_of-k.ensures.value) c.if-null_count-ne0.false)

pub returns : goal.returns
returns c =
    let a = c.args in
    let e : c.loop-s.s ≡ a.m = omega arith in
    sym (rw e at c.loop-s.invariant)
