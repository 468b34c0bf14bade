-- `width_loop::nodes::run_node` meets its contract. Assumes nothing.
use mathlib.Core.Path.{sym, ap, subst, ◌∙◌}
use mathlib.Core.List.{[]}
use Prim.Native.Nat.{suc}
use native.Mathlib.Numerals.{add-one}
use native.Mathlib.Omega.{arith}
use Rattle.columnar.specs.Array.{ok}
use Rattle.schema.specs.formats.Code.{width_of}
use Rattle.schema.specs.Tree.{code_of}
use Rattle.array_data.specs.Tables.{valid_of}
use Rattle.array_data.specs.NodeKinds.{fixed_node, run_end_node}
use Rattle.array_data.specs.entries.Entries.{column}
use Rattle.array_data.specs.type_tree.Lent.{tree_of}
use Rattle.width_loop.proofs.Rules.{fixed_inside, run_here}
use Rattle.width_loop.proofs.Here.{few, rule_as, sum_here, run_kinds, run_below, by_kinds, settled_by}
use Rattle.columnar.specs.Formed.{RunWidth}
use Rattle.source_rules.proofs.Node.{not_two_four}
use Rattle.width_loop.specs.Steps.{RunsHere}
use Rattle.width_loop.proofs.nodes.run_node.Goals as goal

pub overflow_add-i : goal.overflow_add-i
overflow_add-i c =
    let a = c.args in
    let k = c.requires.by_index.0 in
    let z = c.requires.by_index.1 in
    omega (arith, few a.formats.now a.schema.now a.lengths.now a.places.now a.body.now a.first k a.target z.accepted, z.is_node)

pub width_at-w-requires : goal.width_at-w-requires
width_at-w-requires c =
    let a = c.args in
    let k = c.requires.by_index.0 in
    let z = c.requires.by_index.1 in
    omega (arith, few a.formats.now a.schema.now a.lengths.now a.places.now a.body.now a.first k a.target z.accepted, z.is_node)

pub overflow_add-i-2 : goal.overflow_add-i-2
overflow_add-i-2 c =
    let a = c.args in
    let k = c.requires.by_index.0 in
    let z = c.requires.by_index.1 in
    omega (arith, few a.formats.now a.schema.now a.lengths.now a.places.now a.body.now a.first k a.target z.accepted, z.is_node)

pub width_at-w2-requires : goal.width_at-w2-requires
width_at-w2-requires c =
    let a = c.args in
    let k = c.requires.by_index.0 in
    let z = c.requires.by_index.1 in
    omega (arith, few a.formats.now a.schema.now a.lengths.now a.places.now a.body.now a.first k a.target z.accepted, z.is_node)

pub walk_runs-requires : goal.walk_runs-requires
walk_runs-requires c =
    let a = c.args in
    let k = c.requires.by_index.0 in
    let z = c.requires.by_index.1 in
    let q = run_kinds a.formats.now a.schema.now a.lengths.now a.places.now a.body.now a.first k a.target z.accepted a.i z.is_node c.requires.i_value in
    let r = run_below a.formats.now a.schema.now a.lengths.now a.places.now a.body.now a.first k a.target z.accepted a.i z.is_node (width_of (code_of a.formats.now a.schema.now a.first (suc a.i))) q.0 in
    let i = fixed_inside (column a.lengths.now a.places.now z.accepted.buffers a.body.now a.first) (suc a.i) r.2.0 (rule_as a.formats.now a.schema.now a.lengths.now a.places.now a.body.now a.first k a.target z.accepted (suc a.i) r.0 (fixed_node r.2.0) r.2.1) in
    let f = (run_here (column a.lengths.now a.places.now z.accepted.buffers a.body.now a.first) a.i a.s a.n z.above z.below (width_of (code_of a.formats.now a.schema.now a.first (suc a.i))) (rule_as a.formats.now a.schema.now a.lengths.now a.places.now a.body.now a.first k a.target z.accepted a.i z.is_node (run_end_node (width_of (code_of a.formats.now a.schema.now a.first (suc a.i)))) q.0) i).0 in
    let g : RunsHere (column a.lengths.now a.places.now [] a.body.now a.first) a.i (width_of (code_of a.formats.now a.schema.now a.first (suc a.i))) a.s a.n = record { inside = f.inside; hold = f.hold; rises = f.rises; covers = f.covers } in
    record { i_bound = (omega (arith, few a.formats.now a.schema.now a.lengths.now a.places.now a.body.now a.first k a.target z.accepted, r.1), omega (arith, sum_here a.formats.now a.schema.now a.lengths.now a.places.now a.body.now a.first k a.target z.accepted a.i z.is_node, z.below), sum_here a.formats.now a.schema.now a.lengths.now a.places.now a.body.now a.first k a.target z.accepted (suc a.i) r.0); w_value = (not_two_four (subst RunWidth (sym (c.width_at-w.ensures ∙ ap (λ j. width_of (code_of a.formats.now a.schema.now a.first j)) (add-one a.i))) q.2), not_two_four (subst RunWidth (sym (c.width_at-w2.ensures ∙ ap (λ j. width_of (code_of a.formats.now a.schema.now a.target j)) (add-one a.i))) q.3)); runs_here = subst (λ y. RunsHere (column a.lengths.now a.places.now [] a.body.now a.first) a.i y a.s a.n) (sym (c.width_at-w.ensures ∙ ap (λ j. width_of (code_of a.formats.now a.schema.now a.first j)) (add-one a.i))) g }

pub returns : goal.returns
returns c =
    let a = c.args in
    let k = c.requires.by_index.0 in
    let z = c.requires.by_index.1 in
    let q = run_kinds a.formats.now a.schema.now a.lengths.now a.places.now a.body.now a.first k a.target z.accepted a.i z.is_node c.requires.i_value in
    record { by_index_2 = (λ buffers count. by_kinds a.formats.now a.schema.now a.lengths.now a.places.now buffers a.body.now a.plan.now a.first count a.target a.i a.s a.n a.parts.now a.write a.room.now a.counters.now (q.0 ∙ ap run_end_node (sym (c.width_at-w.ensures ∙ ap (λ j. width_of (code_of a.formats.now a.schema.now a.first j)) (add-one a.i)))) (q.1 ∙ ap run_end_node (sym (c.width_at-w2.ensures ∙ ap (λ j. width_of (code_of a.formats.now a.schema.now a.target j)) (add-one a.i)))) (c.walk_runs.ensures.any_tree (tree_of a.formats.now a.schema.now a.first count) (tree_of a.formats.now a.schema.now a.target count) (ok (valid_of (column a.lengths.now a.places.now buffers a.body.now a.first) a.i)))); by_index_3 = λ buffers count y. settled_by a.formats.now a.schema.now a.lengths.now a.places.now buffers a.body.now a.plan.now a.first count a.target a.i a.s a.n a.ranges.now (q.0 ∙ ap run_end_node (sym (c.width_at-w.ensures ∙ ap (λ j. width_of (code_of a.formats.now a.schema.now a.first j)) (add-one a.i)))) (c.walk_runs.ensures.ranges_value (tree_of a.formats.now a.schema.now a.first count) (tree_of a.formats.now a.schema.now a.target count) y) }
