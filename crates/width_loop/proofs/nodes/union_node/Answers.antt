-- `width_loop::nodes::union_node` meets its contract. Assumes nothing.
use mathlib.Core.Path.{refl, sym, ap, ◌∙◌}
use mathlib.Core.Bool.{true, false}
use native.Mathlib.Omega.{arith}
use lib.Dec.{eqb}
use Rattle.columnar.specs.Array.{ok}
use Rattle.schema.specs.Tree.{ids_of}
use Rattle.array_data.specs.Tables.{valid_of}
use Rattle.array_data.specs.NodeKinds.{sparse_node, dense_node}
use Rattle.array_data.specs.Typed.{node_of, kind_in}
use Rattle.array_data.specs.entries.Entries.{column}
use Rattle.array_data.specs.type_tree.Lent.{tree_of}
use Rattle.array_data.proofs.type_tree.Shaped.{at_union}
use Rattle.width_loop.proofs.Rules.{sparse_here, dense_here}
use Rattle.width_loop.proofs.Here.{few, rule_as, fields_below, by_kinds, settled_by}
use Rattle.array_data.proofs.Names.{ids_or, union_kind}
use Rattle.width_loop.proofs.nodes.union_node.Goals as goal

pub below_of-m-requires : goal.below_of-m-requires
below_of-m-requires c =
    let a = c.args in
    let k = a.count in
    let y = c.requires.by_index.0 in
    let z = c.requires.by_index.1 in
    (omega arith, omega (arith, few a.formats.now a.schema.now a.lengths.now a.places.now a.body.now a.first k y z.accepted, z.is_node))

pub code_of-requires : goal.code_of-requires
code_of-requires c =
    let a = c.args in
    let k = a.count in
    let y = c.requires.by_index.0 in
    let z = c.requires.by_index.1 in
    (omega arith, omega (arith, few a.formats.now a.schema.now a.lengths.now a.places.now a.body.now a.first k y z.accepted, z.is_node))

pub walk_sparse-requires : goal.walk_sparse-requires
walk_sparse-requires c =
    let a = c.args in
    let k = a.count in
    let y = c.requires.by_index.0 in
    let z = c.requires.by_index.1 in
    let e = (at_union a.formats.now a.schema.now a.first a.i c.requires.i_value ∙ ap (λ b. union_kind b (ids_or (ids_of a.formats.now a.schema.now a.first a.i))) (ap (λ c2. eqb c2 21) (sym c.code_of.ensures) ∙ sym c.is_sparse.ensures ∙ c.if-is_sparse.true)) in
    let f = sparse_here (column a.lengths.now a.places.now z.accepted.buffers a.body.now a.first) a.i a.s a.n z.above z.below (ids_or (ids_of a.formats.now a.schema.now a.first a.i)) (node_of (tree_of a.formats.now a.schema.now a.first a.count) a.i (ids_or (ids_of a.formats.now a.schema.now a.first a.i))) (rule_as a.formats.now a.schema.now a.lengths.now a.places.now a.body.now a.first k y z.accepted a.i z.is_node (sparse_node (ids_or (ids_of a.formats.now a.schema.now a.first a.i))) e) in
    let b = fields_below a.formats.now a.schema.now a.lengths.now a.places.now a.body.now a.first k y z.accepted a.i z.is_node true (ids_or (ids_of a.formats.now a.schema.now a.first a.i)) e in
    record { count_bound = (few a.formats.now a.schema.now a.lengths.now a.places.now a.body.now a.first k y z.accepted, z.is_node, f.0, f.1); by_index = λ j q. b.1 j (omega (arith, q, b.0, c.below_of-m.ensures.value)) }

pub returns-then-is_sparse : goal.returns-then-is_sparse
returns-then-is_sparse c =
    let a = c.args in
    let k = a.count in
    let y = c.requires.by_index.0 in
    let z = c.requires.by_index.1 in
    let e = (at_union a.formats.now a.schema.now a.first a.i c.requires.i_value ∙ ap (λ b. union_kind b (ids_or (ids_of a.formats.now a.schema.now a.first a.i))) (ap (λ c2. eqb c2 21) (sym c.code_of.ensures) ∙ sym c.is_sparse.ensures ∙ c.if-is_sparse.true)) in
    let b = fields_below a.formats.now a.schema.now a.lengths.now a.places.now a.body.now a.first k y z.accepted a.i z.is_node true (ids_or (ids_of a.formats.now a.schema.now a.first a.i)) e in
    record { by_index_2 = (λ buffers c2 target. by_kinds a.formats.now a.schema.now a.lengths.now a.places.now buffers a.body.now a.plan.now a.first a.count target a.i a.s a.n a.parts.now a.write a.room.now c2 e refl (c.walk_sparse.ensures.any_union (tree_of a.formats.now a.schema.now a.first a.count) (tree_of a.formats.now a.schema.now target a.count) (kind_in (tree_of a.formats.now a.schema.now target a.count) a.i) (ids_or (ids_of a.formats.now a.schema.now a.first a.i)) (ok (valid_of (column a.lengths.now a.places.now buffers a.body.now a.first) a.i)) c2)); by_index_3 = λ buffers target. settled_by a.formats.now a.schema.now a.lengths.now a.places.now buffers a.body.now a.plan.now a.first a.count target a.i a.s a.n a.ranges.now e (c.walk_sparse.ensures.settles_fields a.formats.now buffers (ids_or (ids_of a.formats.now a.schema.now a.first a.i)) (tree_of a.formats.now a.schema.now target a.count) (sym b.0 ∙ sym c.below_of-m.ensures.value)) }

pub walk_dense-requires : goal.walk_dense-requires
walk_dense-requires c =
    let a = c.args in
    let k = a.count in
    let y = c.requires.by_index.0 in
    let z = c.requires.by_index.1 in
    let e = (at_union a.formats.now a.schema.now a.first a.i c.requires.i_value ∙ ap (λ b. union_kind b (ids_or (ids_of a.formats.now a.schema.now a.first a.i))) (ap (λ c2. eqb c2 21) (sym c.code_of.ensures) ∙ sym c.is_sparse.ensures ∙ c.if-is_sparse.false)) in
    let f = dense_here (column a.lengths.now a.places.now z.accepted.buffers a.body.now a.first) a.i a.s a.n z.above z.below (ids_or (ids_of a.formats.now a.schema.now a.first a.i)) (node_of (tree_of a.formats.now a.schema.now a.first a.count) a.i (ids_or (ids_of a.formats.now a.schema.now a.first a.i))) (rule_as a.formats.now a.schema.now a.lengths.now a.places.now a.body.now a.first k y z.accepted a.i z.is_node (dense_node (ids_or (ids_of a.formats.now a.schema.now a.first a.i))) e) in
    let b = fields_below a.formats.now a.schema.now a.lengths.now a.places.now a.body.now a.first k y z.accepted a.i z.is_node false (ids_or (ids_of a.formats.now a.schema.now a.first a.i)) e in
    record { fact = (few a.formats.now a.schema.now a.lengths.now a.places.now a.body.now a.first k y z.accepted, z.is_node, f.0, f.1, f.2, f.3); by_index = λ j q. b.1 j (omega (arith, q, b.0, c.below_of-m.ensures.value)) }

pub returns : goal.returns
returns c =
    let a = c.args in
    let k = a.count in
    let y = c.requires.by_index.0 in
    let z = c.requires.by_index.1 in
    let e = (at_union a.formats.now a.schema.now a.first a.i c.requires.i_value ∙ ap (λ b. union_kind b (ids_or (ids_of a.formats.now a.schema.now a.first a.i))) (ap (λ c2. eqb c2 21) (sym c.code_of.ensures) ∙ sym c.is_sparse.ensures ∙ c.if-is_sparse.false)) in
    let b = fields_below a.formats.now a.schema.now a.lengths.now a.places.now a.body.now a.first k y z.accepted a.i z.is_node false (ids_or (ids_of a.formats.now a.schema.now a.first a.i)) e in
    record { by_index_2 = (λ buffers c2 target. by_kinds a.formats.now a.schema.now a.lengths.now a.places.now buffers a.body.now a.plan.now a.first a.count target a.i a.s a.n a.parts.now a.write a.room.now c2 e refl (c.walk_dense.ensures.any_union (tree_of a.formats.now a.schema.now a.first a.count) (tree_of a.formats.now a.schema.now target a.count) (kind_in (tree_of a.formats.now a.schema.now target a.count) a.i) (ids_or (ids_of a.formats.now a.schema.now a.first a.i)) (ok (valid_of (column a.lengths.now a.places.now buffers a.body.now a.first) a.i)) c2)); by_index_3 = λ buffers target. settled_by a.formats.now a.schema.now a.lengths.now a.places.now buffers a.body.now a.plan.now a.first a.count target a.i a.s a.n a.ranges.now e (c.walk_dense.ensures.settles_fields a.formats.now buffers (ids_or (ids_of a.formats.now a.schema.now a.first a.i)) (tree_of a.formats.now a.schema.now target a.count) (sym b.0 ∙ sym c.below_of-m.ensures.value)) }
