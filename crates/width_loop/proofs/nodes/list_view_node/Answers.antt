-- `width_loop::nodes::list_view_node` meets its contract. Assumes nothing.
use mathlib.Core.Path.{◌≡◌, sym, ap, subst, ◌∙◌}
use Prim.Native.Nat.{ℕ, suc, ◌+◌, ◌*◌, ◌<◌, ◌≤◌}
use native.Mathlib.Omega.{arith}
use Rattle.columnar.specs.Types.{half}
use Rattle.columnar.specs.Array.{item, ok}
use Rattle.schema.specs.formats.Code.{width_of}
use Rattle.schema.specs.Tree.{code_of}
use Rattle.array_data.specs.Tables.{place, length_of, valid_of, first_buffer, second_buffer}
use Rattle.array_data.specs.NodeKinds.{list_view_node}
use Rattle.array_data.specs.entries.Entries.{column}
use Rattle.array_data.specs.type_tree.Lent.{tree_of}
use Rattle.leaf_walk.proofs.Widths.{list_width}
use Rattle.width_loop.proofs.Rules.{list_view_here}
use Rattle.width_loop.proofs.Here.{few, rule_as, list_view_kinds, list_view_below, by_kinds, settled_by}
use Rattle.width_loop.proofs.nodes.list_view_node.Goals as goal

pub width_at-w-requires : goal.width_at-w-requires
width_at-w-requires c =
    let a = c.args in
    let k = c.requires.by_index.0 in
    let z = c.requires.by_index.1 in
    omega (arith, few a.formats.now a.schema.now a.lengths.now a.places.now a.body.now a.first k a.target z.accepted, z.is_node)

pub width_at-w2-requires : goal.width_at-w2-requires
width_at-w2-requires c =
    let a = c.args in
    let k = c.requires.by_index.0 in
    let z = c.requires.by_index.1 in
    omega (arith, few a.formats.now a.schema.now a.lengths.now a.places.now a.body.now a.first k a.target z.accepted, z.is_node)

pub walk_list_view-requires : goal.walk_list_view-requires
walk_list_view-requires c =
    let a = c.args in
    let k = c.requires.by_index.0 in
    let z = c.requires.by_index.1 in
    let q = list_view_kinds a.formats.now a.schema.now a.lengths.now a.places.now a.body.now a.first k a.target z.accepted a.i z.is_node c.requires.i_value in
    let f = list_view_here (column a.lengths.now a.places.now z.accepted.buffers a.body.now a.first) a.i a.s a.n z.above z.below (width_of (code_of a.formats.now a.schema.now a.first a.i)) (rule_as a.formats.now a.schema.now a.lengths.now a.places.now a.body.now a.first k a.target z.accepted a.i z.is_node (list_view_node (width_of (code_of a.formats.now a.schema.now a.first a.i))) q.0) in
    record { fact = (omega (arith, few a.formats.now a.schema.now a.lengths.now a.places.now a.body.now a.first k a.target z.accepted, list_view_below a.formats.now a.schema.now a.lengths.now a.places.now a.body.now a.first k a.target z.accepted a.i z.is_node (width_of (code_of a.formats.now a.schema.now a.first a.i)) q.0), f.0, f.1, subst (λ y. (a.s + a.n) * y ≤ place (column a.lengths.now a.places.now z.accepted.buffers a.body.now a.first) a.i 4) (sym c.width_at-w.ensures) f.2, subst (λ y. (a.s + a.n) * y ≤ place (column a.lengths.now a.places.now z.accepted.buffers a.body.now a.first) a.i 6) (sym c.width_at-w.ensures) f.3); fact_2 = (subst (λ y. (j : ℕ) → j < a.n → item y (first_buffer (column a.lengths.now a.places.now z.accepted.buffers a.body.now a.first) a.i) (a.s + j) < half y) (sym c.width_at-w.ensures) f.4, subst (λ y. (j : ℕ) → j < a.n → item y (second_buffer (column a.lengths.now a.places.now z.accepted.buffers a.body.now a.first) a.i) (a.s + j) < half y) (sym c.width_at-w.ensures) f.5); fact_3 = (subst (λ y. (j : ℕ) → j < a.n → item y (first_buffer (column a.lengths.now a.places.now z.accepted.buffers a.body.now a.first) a.i) (a.s + j) ≤ length_of (column a.lengths.now a.places.now z.accepted.buffers a.body.now a.first) (suc a.i)) (sym c.width_at-w.ensures) f.6, subst (λ y. (j : ℕ) → j < a.n → item y (second_buffer (column a.lengths.now a.places.now z.accepted.buffers a.body.now a.first) a.i) (a.s + j) ≤ length_of (column a.lengths.now a.places.now z.accepted.buffers a.body.now a.first) (suc a.i)) (sym c.width_at-w.ensures) f.7); w_value = (subst (λ y. (y ≡ 4 → ⊥) → y ≡ 8) (sym c.width_at-w.ensures) (list_width (code_of a.formats.now a.schema.now a.first a.i) c.requires.i_value), subst (λ y. (y ≡ 4 → ⊥) → y ≡ 8) (sym c.width_at-w2.ensures) (list_width (code_of a.formats.now a.schema.now a.target a.i) q.2)) }

pub returns : goal.returns
returns c =
    let a = c.args in
    let k = c.requires.by_index.0 in
    let z = c.requires.by_index.1 in
    let q = list_view_kinds a.formats.now a.schema.now a.lengths.now a.places.now a.body.now a.first k a.target z.accepted a.i z.is_node c.requires.i_value in
    record { by_index_2 = (λ buffers c2 count. by_kinds a.formats.now a.schema.now a.lengths.now a.places.now buffers a.body.now a.plan.now a.first count a.target a.i a.s a.n a.parts.now a.write a.room.now c2 (q.0 ∙ ap list_view_node (sym c.width_at-w.ensures)) (q.1 ∙ ap list_view_node (sym c.width_at-w2.ensures)) (c.walk_list_view.ensures.any_tree (tree_of a.formats.now a.schema.now a.first count) (tree_of a.formats.now a.schema.now a.target count) (ok (valid_of (column a.lengths.now a.places.now buffers a.body.now a.first) a.i)) c2)); by_index_3 = λ buffers count y. settled_by a.formats.now a.schema.now a.lengths.now a.places.now buffers a.body.now a.plan.now a.first count a.target a.i a.s a.n a.ranges.now (q.0 ∙ ap list_view_node (sym c.width_at-w.ensures)) (c.walk_list_view.ensures.ranges_value (tree_of a.formats.now a.schema.now a.first count) (tree_of a.formats.now a.schema.now a.target count) y) }
