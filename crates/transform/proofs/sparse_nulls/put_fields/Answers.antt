-- `transform::sparse_nulls::put_fields` meets its contract. Assumes nothing.
use mathlib.Core.Path.{refl, sym, ◌∙◌}
use mathlib.Core.Bool.{true}
use mathlib.Core.List.{[]}
use Prim.Native.Nat.{◌+◌, ◌-◌}
use native.Mathlib.Numerals.{add-one}
use native.Mathlib.Omega.{arith}
use Rattle.walk.specs.Nulls.{null_walk}
use Rattle.leaf_walk.specs.Join.{join}
use Rattle.extend.proofs.NullLaws.{fields_none, fields_more}
use Rattle.transform.proofs.sparse_rows.Fields.{field_at}
use Rattle.transform.proofs.sparse_nulls.put_fields.Goals as goal

pub put_field-requires : goal.put_field-requires
put_field-requires c =
    let k = c.loop-k.k in
    let b = c.loop-k-test.true in
    (omega (arith, c.loop-k.auto.counters, c.requires.0), omega (arith, b, c.requires.1), c.requires.3.fields k c.loop-k.auto.k (omega (arith, b, c.requires.2)), c.requires.4)

pub loop-k-preserved : goal.loop-k-preserved
loop-k-preserved c =
    let a = c.args in
    let x = join a.plan.now a.parts.now [] [] [] 0 0 in
    let k = c.loop-k.k in
    let b = c.loop-k-test.true in
    let next = (field_at a.plan.now c.requires.3 k c.loop-k.auto.k (omega (arith, b, c.requires.2))).end in
    λ g c2 room2 d. c.loop-k.invariant g c2 room2 (fields_more x (null_walk x 7) true a.n a.end k c.loop-k.counters c.loop-k.room {f' = 33 - (k + 1)} (omega (arith, b, c.requires.1)) b c.put_field.ensures refl (add-one k ∙ sym next) d)

pub returns : goal.returns
returns c =
    let a = c.args in
    let x = join a.plan.now a.parts.now [] [] [] 0 0 in
    c.loop-k.invariant _ _ _ (fields_none x (null_walk x 7) true a.n a.end c.loop-k.k c.loop-k.counters c.loop-k.room (33 - c.loop-k.k) c.loop-k-test.false)
