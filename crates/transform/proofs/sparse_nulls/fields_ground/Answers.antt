-- `transform::sparse_nulls::fields_ground` meets its contract. Assumes nothing.
use mathlib.Core.Path.{sym, ap, ◌∙◌}
use Prim.Native.Nat.{ℕ, ◌-◌, ◌≤◌}
use native.Mathlib.Omega.{arith}
use Rattle.schema.specs.formats.Code.{is_fixed}
use Rattle.walk.specs.State.{grown}
use Rattle.plan.specs.parts.Parts.{entry_size}
use Rattle.plan.proofs.grounds.Laws.{nodes_more, nodes_all}
use Rattle.transform.proofs.sparse_rows.Fields.{field_at, field_copied}
use Rattle.transform.proofs.sparse_nulls.fields_ground.Goals as goal

pub loop-k-init : goal.loop-k-init
loop-k-init c =
    let a = c.args in
    let p : 1 ≤ a.end = omega (arith, c.requires.2.some, c.requires.1) in
    λ t h. c.ids_ground-g.ensures t (h 0 p ∙ ap (λ (v : ℕ). grown v a.n) (sym c.at_u64.ensures) ∙ sym c.grow-r.ensures)

pub node_ground-requires : goal.node_ground-requires
node_ground-requires c =
    let p = c.args.plan.now in
    let k = c.loop-k.k in
    let some = c.loop-k.auto.k in
    let f = field_at p c.requires.2 k some (omega (arith, c.loop-k-test.true, c.requires.1)) in
    let w = c.number_size-w.ensures ∙ ap entry_size c.code_of.ensures in
    (omega (arith, c.loop-k-test.true, c.requires.0), f.fixed, w, field_copied p c.requires.2 k some (omega (arith, c.loop-k-test.true, c.requires.1)))

pub loop-k-preserved : goal.loop-k-preserved
loop-k-preserved c =
    let a = c.args in
    let k = c.loop-k.k in
    let b = c.loop-k-test.true in
    λ t h. nodes_more a.plan.now t a.parts.now a.m k (c.loop-k.invariant t h) (c.node_ground.ensures t (h k b ∙ ap (λ (v : ℕ). grown v a.n) (sym c.at_u64-in-loop-k.ensures) ∙ sym c.grow-r-in-loop-k.ensures)) c.worse-g.ensures

pub returns : goal.returns
returns c =
    let a = c.args in
    λ t h. nodes_all a.plan.now t a.parts.now a.m c.loop-k.k a.end c.requires.1 c.loop-k-test.false (omega (arith, c.requires.2.some, c.requires.1)) (c.loop-k.invariant t h)
