-- `width_loop::nodes::list_node` meets its contract. Assumes nothing.
use mathlib.Core.Path.{◌≡◌, sym, ap, subst, ◌∙◌}
use Prim.Native.Nat.{suc}
use native.Mathlib.Omega.{arith}
use Rattle.columnar.specs.Array.{ok}
use Rattle.columnar.specs.Plain.{OffsetsRule}
use Rattle.schema.specs.formats.Code.{width_of}
use Rattle.schema.specs.Tree.{code_of}
use Rattle.array_data.specs.Tables.{length_of, valid_of, first_buffer}
use Rattle.array_data.specs.NodeKinds.{list_node}
use Rattle.array_data.specs.entries.Entries.{column}
use Rattle.array_data.specs.type_tree.Lent.{tree_of}
use Rattle.leaf_walk.proofs.Widths.{lists_width}
use Rattle.width_loop.proofs.Rules.{list_here}
use Rattle.width_loop.proofs.Here.{few, rule_as, sum_here, list_kinds, list_below, by_kinds, settled_by}
use Rattle.width_loop.proofs.nodes.list_node.Goals as goal

pub width_at-w-requires : goal.width_at-w-requires
width_at-w-requires c =
    let a = c.args in
    let k = c.requires.by_index.0 in
    let z = c.requires.by_index.1 in
    omega (arith, few a.formats.now a.schema.now a.lengths.now a.places.now a.body.now a.first k a.target z.accepted, z.is_node)

pub width_at-w2-requires : goal.width_at-w2-requires
width_at-w2-requires c =
    let a = c.args in
    let k = c.requires.by_index.0 in
    let z = c.requires.by_index.1 in
    omega (arith, few a.formats.now a.schema.now a.lengths.now a.places.now a.body.now a.first k a.target z.accepted, z.is_node)

pub walk_list-requires : goal.walk_list-requires
walk_list-requires c =
    let a = c.args in
    let k = c.requires.by_index.0 in
    let z = c.requires.by_index.1 in
    let q = list_kinds a.formats.now a.schema.now a.lengths.now a.places.now a.body.now a.first k a.target z.accepted a.i z.is_node c.requires.i_value in
    let f = list_here (column a.lengths.now a.places.now z.accepted.buffers a.body.now a.first) a.i a.s a.n z.above z.below (width_of (code_of a.formats.now a.schema.now a.first a.i)) (rule_as a.formats.now a.schema.now a.lengths.now a.places.now a.body.now a.first k a.target z.accepted a.i z.is_node (list_node (width_of (code_of a.formats.now a.schema.now a.first a.i))) q.0) in
    record { i_bound = (omega (arith, few a.formats.now a.schema.now a.lengths.now a.places.now a.body.now a.first k a.target z.accepted, list_below a.formats.now a.schema.now a.lengths.now a.places.now a.body.now a.first k a.target z.accepted a.i z.is_node (width_of (code_of a.formats.now a.schema.now a.first a.i)) q.0), omega (arith, sum_here a.formats.now a.schema.now a.lengths.now a.places.now a.body.now a.first k a.target z.accepted a.i z.is_node, z.below), f.0); w_value = (subst (λ y. (y ≡ 4 → ⊥) → y ≡ 8) (sym c.width_at-w.ensures) (lists_width (code_of a.formats.now a.schema.now a.first a.i) c.requires.i_value), subst (λ y. (y ≡ 4 → ⊥) → y ≡ 8) (sym c.width_at-w2.ensures) (lists_width (code_of a.formats.now a.schema.now a.target a.i) q.2)); by_index = (length_of (column a.lengths.now a.places.now z.accepted.buffers a.body.now a.first) (suc a.i), subst (λ y. OffsetsRule y (first_buffer (column a.lengths.now a.places.now z.accepted.buffers a.body.now a.first) a.i) (length_of (column a.lengths.now a.places.now z.accepted.buffers a.body.now a.first) (suc a.i)) a.s a.n) (sym c.width_at-w.ensures) f.1) }

pub returns : goal.returns
returns c =
    let a = c.args in
    let k = c.requires.by_index.0 in
    let z = c.requires.by_index.1 in
    let q = list_kinds a.formats.now a.schema.now a.lengths.now a.places.now a.body.now a.first k a.target z.accepted a.i z.is_node c.requires.i_value in
    record { by_index_2 = (λ buffers c2 count. by_kinds a.formats.now a.schema.now a.lengths.now a.places.now buffers a.body.now a.plan.now a.first count a.target a.i a.s a.n a.parts.now a.write a.room.now c2 (q.0 ∙ ap list_node (sym c.width_at-w.ensures)) (q.1 ∙ ap list_node (sym c.width_at-w2.ensures)) (c.walk_list.ensures.any_tree (tree_of a.formats.now a.schema.now a.first count) (tree_of a.formats.now a.schema.now a.target count) (ok (valid_of (column a.lengths.now a.places.now buffers a.body.now a.first) a.i)) c2)); by_index_3 = λ buffers count y. settled_by a.formats.now a.schema.now a.lengths.now a.places.now buffers a.body.now a.plan.now a.first count a.target a.i a.s a.n a.ranges.now (q.0 ∙ ap list_node (sym c.width_at-w.ensures)) (c.walk_list.ensures.ranges_value (tree_of a.formats.now a.schema.now a.first count) (tree_of a.formats.now a.schema.now a.target count) y) }
