-- `transform::sparse_rows::put_fields` meets its contract. Assumes nothing.
use mathlib.Core.Path.{refl, sym, ◌∙◌}
use mathlib.Core.Bool.{true}
use Prim.Native.Nat.{◌+◌, ◌-◌}
use native.Mathlib.Numerals.{add-one}
use native.Mathlib.Omega.{arith}
use Rattle.walk.specs.Copy.{copy_walk}
use Rattle.leaf_walk.specs.Join.{join}
use Rattle.extend.proofs.Laws.{fields_none, fields_more}
use Rattle.transform.proofs.sparse_rows.Fields.{field_at}
use Rattle.transform.proofs.sparse_rows.Laws.{fields_split}
use Rattle.transform.proofs.sparse_rows.put_fields.Goals as goal

pub put_field-requires : goal.put_field-requires
put_field-requires c =
    let a = c.args in
    let k = c.loop-k.k in
    let b = c.loop-k-test.true in
    record { counters_len = (omega (arith, c.loop-k.auto.counters, c.requires.counters_len.0), c.requires.counters_len.1, omega (arith, b, c.requires.counters_len.2), c.requires.counters_len.4.fields k c.loop-k.auto.k (omega (arith, b, c.requires.counters_len.3))); n_value = (fields_split (join a.plan.now a.parts.now a.lengths.now a.places.now a.body.now a.first 0) a.row a.n a.end k {f' = 33 - (k + 1)} (omega (arith, b, c.requires.counters_len.2)) (add-one k) b c.loop-k.invariant.0).0 }

pub loop-k-preserved : goal.loop-k-preserved
loop-k-preserved c =
    let a = c.args in
    let k = c.loop-k.k in
    let b = c.loop-k-test.true in
    ((fields_split (join a.plan.now a.parts.now a.lengths.now a.places.now a.body.now a.first 0) a.row a.n a.end k {f' = 33 - (k + 1)} (omega (arith, b, c.requires.counters_len.2)) (add-one k) b c.loop-k.invariant.0).1, λ source g c2 room2 d. c.loop-k.invariant.1 source g c2 room2 (fields_more (join a.plan.now a.parts.now a.lengths.now a.places.now a.body.now a.first source) (copy_walk (join a.plan.now a.parts.now a.lengths.now a.places.now a.body.now a.first source) 7) true a.row a.n a.end k c.loop-k.counters c.loop-k.room {f' = 33 - (k + 1)} (omega (arith, b, c.requires.counters_len.2)) b (c.put_field.ensures source) refl (add-one k ∙ sym (field_at a.plan.now c.requires.counters_len.4 k c.loop-k.auto.k (omega (arith, b, c.requires.counters_len.3))).end) d))

pub returns : goal.returns
returns c =
    let a = c.args in
    λ source. c.loop-k.invariant.1 source _ _ _ (fields_none (join a.plan.now a.parts.now a.lengths.now a.places.now a.body.now a.first source) (copy_walk (join a.plan.now a.parts.now a.lengths.now a.places.now a.body.now a.first source) 7) true a.row a.n a.end c.loop-k.k c.loop-k.counters c.loop-k.room (33 - c.loop-k.k) c.loop-k-test.false)
