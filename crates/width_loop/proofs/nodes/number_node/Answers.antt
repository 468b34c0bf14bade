-- `width_loop::nodes::number_node` meets its contract. Assumes nothing.
use mathlib.Core.Path.{◌≡◌, refl, sym, ap, subst, ◌∙◌}
use Prim.Native.Nat.{◌+◌, ◌*◌, ◌≤◌}
use native.Mathlib.Omega.{arith}
use Rattle.columnar.specs.Types.{width}
use Rattle.columnar.specs.Array.{ok}
use Rattle.schema.specs.formats.Code.{is_integer, width_of}
use Rattle.schema.specs.formats.Types.{number_of, number_or}
use Rattle.schema.specs.Tree.{dictionary, code_of}
use Rattle.array_data.specs.Tables.{place, valid_of}
use Rattle.array_data.specs.NodeKinds.{fixed_node, dictionary_node}
use Rattle.array_data.specs.entries.Entries.{column}
use Rattle.array_data.specs.type_tree.Lent.{tree_of}
use Rattle.leaf_walk.proofs.Widths.{fixed_width}
use Rattle.width_loop.proofs.Laws.{slots_in}
use Rattle.width_loop.proofs.Rules.{mask_less, fixed_here, key_here}
use Rattle.width_loop.proofs.Here.{number_wide, few, rule_as, sum_here, fixed_kinds, key_kinds, key_below, bits_here, by_kinds, settled_by}
use Rattle.array_data.proofs.type_tree.Shaped.{integer_fixed}
use Rattle.width_loop.proofs.Own.{fixed_as}
use Rattle.array_data.specs.Typed.{kind_in}
use Rattle.width_loop.proofs.nodes.number_node.Goals as goal

pub dictionary_of-requires : goal.dictionary_of-requires
dictionary_of-requires c =
    let a = c.args in
    let k = c.requires.by_index.0 in
    let z = c.requires.by_index.1 in
    (omega arith, omega (arith, few a.formats.now a.schema.now a.lengths.now a.places.now a.body.now a.first k a.target z.accepted, z.is_node))

pub place_at-at-requires : goal.place_at-at-requires
place_at-at-requires c =
    let a = c.args in
    let k = c.requires.by_index.0 in
    let z = c.requires.by_index.1 in
    (omega (arith, few a.formats.now a.schema.now a.lengths.now a.places.now a.body.now a.first k a.target z.accepted, z.is_node), omega arith)

pub put_slots-requires : goal.put_slots-requires
put_slots-requires c =
    let a = c.args in
    let k = c.requires.by_index.0 in
    let z = c.requires.by_index.1 in
    let m = number_or (number_of (code_of a.formats.now a.schema.now a.first a.i)) in
    let e = c.width_of-w.ensures ∙ ap width_of c.requires.fact.1 ∙ sym (number_wide (code_of a.formats.now a.schema.now a.first a.i) c.requires.fact.0) in
    let d = sym c.dictionary_of.ensures ∙ c.if-dictionary_of-eq0.true in
    let f = fixed_here (column a.lengths.now a.places.now z.accepted.buffers a.body.now a.first) a.i a.s a.n z.above z.below m (rule_as a.formats.now a.schema.now a.lengths.now a.places.now a.body.now a.first k a.target z.accepted a.i z.is_node (fixed_node m) (fixed_kinds a.formats.now a.schema.now a.lengths.now a.places.now a.body.now a.first k a.target z.accepted a.i z.is_node c.requires.fact.0 d)) in
    (omega (arith, few a.formats.now a.schema.now a.lengths.now a.places.now a.body.now a.first k a.target z.accepted, z.is_node), omega arith, omega (arith, c.place_at-at.ensures, ap (λ y. y * (a.s + a.n)) e, slots_in a.body.now (place (column a.lengths.now a.places.now z.accepted.buffers a.body.now a.first) a.i 3) (place (column a.lengths.now a.places.now z.accepted.buffers a.body.now a.first) a.i 4) (width m) a.s a.n f.0 f.1))

pub returns-then-dictionary_of-eq0 : goal.returns-then-dictionary_of-eq0
returns-then-dictionary_of-eq0 c =
    let a = c.args in
    let k = c.requires.by_index.0 in
    let z = c.requires.by_index.1 in
    let m = number_or (number_of (code_of a.formats.now a.schema.now a.first a.i)) in
    let e = c.width_of-w.ensures ∙ ap width_of c.requires.fact.1 ∙ sym (number_wide (code_of a.formats.now a.schema.now a.first a.i) c.requires.fact.0) in
    let d = sym c.dictionary_of.ensures ∙ c.if-dictionary_of-eq0.true in
    let f = fixed_here (column a.lengths.now a.places.now z.accepted.buffers a.body.now a.first) a.i a.s a.n z.above z.below m (rule_as a.formats.now a.schema.now a.lengths.now a.places.now a.body.now a.first k a.target z.accepted a.i z.is_node (fixed_node m) (fixed_kinds a.formats.now a.schema.now a.lengths.now a.places.now a.body.now a.first k a.target z.accepted a.i z.is_node c.requires.fact.0 d)) in
    record { by_index_2 = (λ buffers c2 count. by_kinds a.formats.now a.schema.now a.lengths.now a.places.now buffers a.body.now a.plan.now a.first count a.target a.i a.s a.n a.parts.now a.write a.room.now c2 (fixed_kinds a.formats.now a.schema.now a.lengths.now a.places.now a.body.now a.first k a.target z.accepted a.i z.is_node c.requires.fact.0 d) refl (fixed_as a.plan.now a.parts.now a.write a.room.now (column a.lengths.now a.places.now buffers a.body.now a.first) a.i a.s a.n c2 (tree_of a.formats.now a.schema.now a.first count) (tree_of a.formats.now a.schema.now a.target count) (ok (valid_of (column a.lengths.now a.places.now buffers a.body.now a.first) a.i)) (kind_in (tree_of a.formats.now a.schema.now a.target count) a.i) m e f.0 f.1 c.place_at-at.ensures c.put_slots.ensures)); by_index_3 = λ buffers count y. settled_by a.formats.now a.schema.now a.lengths.now a.places.now buffers a.body.now a.plan.now a.first count a.target a.i a.s a.n a.ranges.now (fixed_kinds a.formats.now a.schema.now a.lengths.now a.places.now a.body.now a.first k a.target z.accepted a.i z.is_node c.requires.fact.0 d) refl }

pub code_of-code-requires : goal.code_of-code-requires
code_of-code-requires c =
    let a = c.args in
    let k = c.requires.by_index.0 in
    let z = c.requires.by_index.1 in
    (omega arith, omega (arith, few a.formats.now a.schema.now a.lengths.now a.places.now a.body.now a.first k a.target z.accepted, z.is_node))

pub walk_keys-requires : goal.walk_keys-requires
walk_keys-requires c =
    let a = c.args in
    let k = c.requires.by_index.0 in
    let z = c.requires.by_index.1 in
    let m = number_or (number_of (code_of a.formats.now a.schema.now a.first a.i)) in
    let d : dictionary a.schema.now a.first a.i ≡ 0 → ⊥ = λ y. c.if-dictionary_of-eq0.false (c.dictionary_of.ensures ∙ y) in
    let q = key_kinds a.formats.now a.schema.now a.lengths.now a.places.now a.body.now a.first k a.target z.accepted a.i z.is_node c.requires.fact.0 d in
    let f = key_here (column a.lengths.now a.places.now z.accepted.buffers a.body.now a.first) a.i a.s a.n z.above z.below m (rule_as a.formats.now a.schema.now a.lengths.now a.places.now a.body.now a.first k a.target z.accepted a.i z.is_node (dictionary_node m) q.0) in
    let e = c.width_of-w.ensures ∙ ap width_of c.requires.fact.1 ∙ sym (number_wide (code_of a.formats.now a.schema.now a.first a.i) c.requires.fact.0) in
    let e2 = c.width_of-w2.ensures ∙ ap width_of c.code_of-code.ensures in
    let b = bits_here a.formats.now a.schema.now a.lengths.now a.places.now a.body.now a.first k a.target z.accepted a.i z.is_node in
    record { i_bound = (omega (arith, few a.formats.now a.schema.now a.lengths.now a.places.now a.body.now a.first k a.target z.accepted, key_below a.formats.now a.schema.now a.lengths.now a.places.now a.body.now a.first k a.target z.accepted a.i z.is_node m q.0), omega (arith, sum_here a.formats.now a.schema.now a.lengths.now a.places.now a.body.now a.first k a.target z.accepted a.i z.is_node, z.below), f.0, subst (λ y. (a.s + a.n) * y ≤ place (column a.lengths.now a.places.now z.accepted.buffers a.body.now a.first) a.i 4) (sym e) f.1, ap is_integer c.code_of-code.ensures ∙ q.2); i_value = (b.there, mask_less (valid_of (column a.lengths.now a.places.now z.accepted.buffers a.body.now a.first) a.i) _ (a.s + a.n) z.below b.enough); w_value = (subst (λ y. (y ≡ 1 → ⊥) → (y ≡ 2 → ⊥) → (y ≡ 4 → ⊥) → y ≡ 8) (sym (c.width_of-w.ensures ∙ ap width_of c.requires.fact.1)) (fixed_width (code_of a.formats.now a.schema.now a.first a.i) c.requires.fact.0), subst (λ y. (y ≡ 1 → ⊥) → (y ≡ 2 → ⊥) → (y ≡ 4 → ⊥) → y ≡ 8) (sym e2) (fixed_width (code_of a.formats.now a.schema.now a.target a.i) (integer_fixed (code_of a.formats.now a.schema.now a.target a.i) q.2))) }

pub returns : goal.returns
returns c =
    let a = c.args in
    let k = c.requires.by_index.0 in
    let z = c.requires.by_index.1 in
    let m = number_or (number_of (code_of a.formats.now a.schema.now a.first a.i)) in
    let m2 = number_or (number_of (code_of a.formats.now a.schema.now a.target a.i)) in
    let d : dictionary a.schema.now a.first a.i ≡ 0 → ⊥ = λ y. c.if-dictionary_of-eq0.false (c.dictionary_of.ensures ∙ y) in
    let q = key_kinds a.formats.now a.schema.now a.lengths.now a.places.now a.body.now a.first k a.target z.accepted a.i z.is_node c.requires.fact.0 d in
    let e = number_wide (code_of a.formats.now a.schema.now a.first a.i) c.requires.fact.0 ∙ sym (c.width_of-w.ensures ∙ ap width_of c.requires.fact.1) in
    let e2 = number_wide (code_of a.formats.now a.schema.now a.target a.i) (integer_fixed (code_of a.formats.now a.schema.now a.target a.i) q.2) ∙ sym (c.width_of-w2.ensures ∙ ap width_of c.code_of-code.ensures) in
    record { by_index_2 = (λ buffers c2 count. by_kinds a.formats.now a.schema.now a.lengths.now a.places.now buffers a.body.now a.plan.now a.first count a.target a.i a.s a.n a.parts.now a.write a.room.now c2 q.0 q.1 (c.walk_keys.ensures.fact (tree_of a.formats.now a.schema.now a.first count) (tree_of a.formats.now a.schema.now a.target count) m m2 c2 e (ap number_of c.code_of-code.ensures ∙ q.3) e2)); by_index_3 = λ buffers count y. settled_by a.formats.now a.schema.now a.lengths.now a.places.now buffers a.body.now a.plan.now a.first count a.target a.i a.s a.n a.ranges.now q.0 (c.walk_keys.ensures.ranges_value (tree_of a.formats.now a.schema.now a.first count) (tree_of a.formats.now a.schema.now a.target count) m y) }
