-- `transform::sparse_rows::fields_ground` meets its contract. Assumes nothing.
use mathlib.Core.Path.{refl, sym, ap, ◌∙◌}
use Prim.Native.Nat.{ℕ, ◌+◌, ◌-◌, ◌≤◌}
use native.Mathlib.Numerals.{add-one}
use native.Mathlib.Omega.{arith}
use Rattle.schema.specs.formats.Code.{is_fixed}
use Rattle.array_data.proofs.lent_tables.Laws.{no, yes}
use Rattle.walk.specs.State.{code_of, grown}
use Rattle.leaf_walk.specs.Join.{join}
use Rattle.plan.specs.parts.Parts.{entry_size}
use Rattle.plan.proofs.grounds.Laws.{nodes_more, nodes_all}
use Rattle.transform.proofs.numbers.Laws.{number_wide}
use Rattle.transform.proofs.null_ways.Laws.{never}
use Rattle.transform.proofs.sparse_rows.Fields.{field_at, field_copied}
use Rattle.transform.proofs.sparse_rows.Laws.{fields_over, fields_no, fields_yes}
use Rattle.transform.proofs.sparse_rows.fields_ground.Goals as goal

pub loop-k-init : goal.loop-k-init
loop-k-init c =
    let a = c.args in
    let p : 1 ≤ a.end = omega (arith, c.requires.3.some, c.requires.2) in
    (λ source. refl, λ t h. c.ids_ground-g.ensures t (h 0 p ∙ ap (λ (v : ℕ). grown v a.n) (sym c.at_u64.ensures) ∙ sym c.grow-r.ensures))

pub field_in-requires : goal.field_in-requires
field_in-requires c =
    let f = field_at c.args.plan.now c.requires.3 c.loop-k.k c.loop-k.auto.k (omega (arith, c.loop-k-test.true, c.requires.2)) in
    let w = c.number_size-w.ensures ∙ ap entry_size c.code_of.ensures in
    (c.requires.0, omega (arith, c.loop-k-test.true, c.requires.1), (number_wide (code_of c.args.plan.now c.loop-k.k) f.fixed w).1, w)

pub returns-then-not-field_in : goal.returns-then-not-field_in
returns-then-not-field_in c =
    let a = c.args in
    let k = c.loop-k.k in
    record { by_index = λ source z. refl; by_index_2 = λ source t z h. never (sym (c.loop-k.invariant.0 source ∙ fields_no (join a.plan.now a.parts.now a.lengths.now a.places.now a.body.now a.first source) a.row a.n a.end k {f' = 33 - (k + 1)} (omega (arith, c.loop-k-test.true, c.requires.1)) c.loop-k-test.true (no (c.field_in.ensures a.parts.now source) c.if-not-field_in.true-raw)) ∙ z) }

pub node_ground-requires : goal.node_ground-requires
node_ground-requires c =
    let f = field_at c.args.plan.now c.requires.3 c.loop-k.k c.loop-k.auto.k (omega (arith, c.loop-k-test.true, c.requires.2)) in
    (omega (arith, c.loop-k-test.true, c.requires.1), f.fixed, c.number_size-w.ensures ∙ ap entry_size c.code_of.ensures, field_copied c.args.plan.now c.requires.3 c.loop-k.k c.loop-k.auto.k (omega (arith, c.loop-k-test.true, c.requires.2)))

pub loop-k-preserved : goal.loop-k-preserved
loop-k-preserved c =
    let a = c.args in
    let k = c.loop-k.k in
    let b = c.loop-k-test.true in
    (λ source. c.loop-k.invariant.0 source ∙ fields_yes (join a.plan.now a.parts.now a.lengths.now a.places.now a.body.now a.first source) a.row a.n a.end k {f' = 33 - (k + 1)} (omega (arith, b, c.requires.1)) (add-one k) b (yes (c.field_in.ensures a.parts.now source) c.if-not-field_in.false-raw), λ t h. nodes_more a.plan.now t a.parts.now a.m k (c.loop-k.invariant.1 t h) (c.node_ground.ensures t (h k b ∙ ap (λ (v : ℕ). grown v a.n) (sym c.at_u64-in-loop-k.ensures) ∙ sym c.grow-r-in-loop-k.ensures)) c.worse-g.ensures)

pub returns : goal.returns
returns c =
    let a = c.args in
    let k = c.loop-k.k in
    let b = c.loop-k-test.false in
    record { by_index = λ source z. never (sym z ∙ (c.loop-k.invariant.0 source ∙ fields_over (join a.plan.now a.parts.now a.lengths.now a.places.now a.body.now a.first source) a.row a.n a.end k (33 - k) b)); by_index_2 = λ source t z h. nodes_all a.plan.now t a.parts.now a.m k a.end c.requires.2 b (omega (arith, c.requires.3.some, c.requires.2)) (c.loop-k.invariant.1 t h) }
