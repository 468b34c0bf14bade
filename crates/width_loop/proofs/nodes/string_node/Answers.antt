-- `width_loop::nodes::string_node` meets its contract. Assumes nothing.
use mathlib.Core.Path.{◌≡◌, sym, ap, subst, ◌∙◌}
use native.Mathlib.Omega.{arith}
use lib.ListN.{length}
use Rattle.columnar.specs.Array.{ok}
use Rattle.columnar.specs.Plain.{OffsetsRule}
use Rattle.schema.specs.formats.Code.{width_of}
use Rattle.schema.specs.Tree.{code_of}
use Rattle.array_data.specs.Tables.{valid_of, first_buffer, second_buffer}
use Rattle.array_data.specs.NodeKinds.{string_node}
use Rattle.array_data.specs.entries.Entries.{column}
use Rattle.array_data.specs.type_tree.Lent.{tree_of}
use Rattle.leaf_walk.proofs.Widths.{string_width}
use Rattle.width_loop.proofs.Rules.{string_here}
use Rattle.width_loop.proofs.Here.{few, rule_as, sum_here, string_kinds, by_kinds}
use Rattle.width_loop.proofs.nodes.string_node.Goals as goal

pub width_at-w2-requires : goal.width_at-w2-requires
width_at-w2-requires c =
    let a = c.args in
    let k = c.requires.by_index.0 in
    let z = c.requires.by_index.1 in
    omega (arith, few a.formats.now a.schema.now a.lengths.now a.places.now a.body.now a.first k a.target z.accepted, z.is_node)

pub walk_string-requires : goal.walk_string-requires
walk_string-requires c =
    let a = c.args in
    let k = c.requires.by_index.0 in
    let z = c.requires.by_index.1 in
    let q = string_kinds a.formats.now a.schema.now a.lengths.now a.places.now a.body.now a.first k a.target z.accepted a.i z.is_node c.requires.fact.0 in
    let f = string_here (column a.lengths.now a.places.now z.accepted.buffers a.body.now a.first) a.i a.s a.n z.above z.below (width_of (code_of a.formats.now a.schema.now a.first a.i)) (rule_as a.formats.now a.schema.now a.lengths.now a.places.now a.body.now a.first k a.target z.accepted a.i z.is_node (string_node (width_of (code_of a.formats.now a.schema.now a.first a.i))) q.0) in
    record { i_bound = (omega (arith, few a.formats.now a.schema.now a.lengths.now a.places.now a.body.now a.first k a.target z.accepted, z.is_node), omega (arith, sum_here a.formats.now a.schema.now a.lengths.now a.places.now a.body.now a.first k a.target z.accepted a.i z.is_node, z.below), f.0, f.1); w_value = (subst (λ y. (y ≡ 4 → ⊥) → y ≡ 8) (sym (c.width_of-w.ensures ∙ ap width_of c.requires.fact.1)) (string_width (code_of a.formats.now a.schema.now a.first a.i) c.requires.fact.0), subst (λ y. (y ≡ 4 → ⊥) → y ≡ 8) (sym c.width_at-w2.ensures) (string_width (code_of a.formats.now a.schema.now a.target a.i) q.2)); offsets_rule = subst (λ y. OffsetsRule y (first_buffer (column a.lengths.now a.places.now z.accepted.buffers a.body.now a.first) a.i) (length (second_buffer (column a.lengths.now a.places.now z.accepted.buffers a.body.now a.first) a.i)) a.s a.n) (sym (c.width_of-w.ensures ∙ ap width_of c.requires.fact.1)) f.2 }

pub returns : goal.returns
returns c =
    let a = c.args in
    let k = c.requires.by_index.0 in
    let z = c.requires.by_index.1 in
    let q = string_kinds a.formats.now a.schema.now a.lengths.now a.places.now a.body.now a.first k a.target z.accepted a.i z.is_node c.requires.fact.0 in
    λ buffers count. by_kinds a.formats.now a.schema.now a.lengths.now a.places.now buffers a.body.now a.plan.now a.first count a.target a.i a.s a.n a.parts.now a.write a.room.now a.counters.now (q.0 ∙ ap string_node (sym (c.width_of-w.ensures ∙ ap width_of c.requires.fact.1))) (q.1 ∙ ap string_node (sym c.width_at-w2.ensures)) (c.walk_string.ensures (tree_of a.formats.now a.schema.now a.first count) (tree_of a.formats.now a.schema.now a.target count) (ok (valid_of (column a.lengths.now a.places.now buffers a.body.now a.first) a.i)))
