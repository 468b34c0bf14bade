-- `width_loop::ranges::settle_fields` meets its contract. Assumes nothing.
use mathlib.Core.Path.{◌≡◌, refl, subst}
use mathlib.Core.Bool.{cond}
use native.Mathlib.Omega.{arith}
use Rattle.array_data.specs.Tables.{length_of}
use Rattle.array_data.specs.entries.Entries.{column}
use Rattle.array_data.specs.type_tree.Lent.{tree_of}
use Rattle.source_rules.proofs.Fields.{child_first, child_next, child_below}
use Rattle.width_walks.specs.Nodes.{child_ranges}
use Rattle.width_loop.proofs.Settled.{fields_more}
use Rattle.width_loop.proofs.ranges.settle_fields.Goals as goal

pub loop-j-init : goal.loop-j-init
loop-j-init c =
    let a = c.args in
    (omega arith, child_first a.schema.now a.first a.count a.i, λ formats places buffers body plan t. refl)

pub set_child-requires : goal.set_child-requires
set_child-requires c =
    let a = c.args in
    let l = c.loop-j in
    omega (arith, l.invariant.1, c.requires.by_index l._j (omega arith))

pub loop-j-preserved : goal.loop-j-preserved
loop-j-preserved c =
    let a = c.args in
    let l = c.loop-j in (
      child_below a.schema.now a.first a.count a.i l.node _ l.invariant.0 c.end_of-node.ensures,
      child_next a.schema.now a.first a.count a.i l._j l.node _ l.invariant.1 c.end_of-node.ensures,
      λ formats places buffers body plan t. fields_more formats a.schema.now a.first a.count t (column a.lengths.now places buffers body a.first) plan (λ k. cond a.whole 0 a.s) (λ k. cond a.whole (length_of (column a.lengths.now places buffers body a.first) k) a.n) a.i l._j l.node a.ranges.now l.ranges _ l.invariant.1 (l.invariant.2 formats places buffers body plan t) (c.set_child.ensures places buffers body),
    )

pub returns : goal.returns
returns c =
    let a = c.args in
    let l = c.loop-j in
    let e : l._j ≡ a.m = omega arith in
    λ formats places buffers body plan t. subst (λ z. l.ranges ≡ child_ranges (tree_of formats a.schema.now a.first a.count) t (column a.lengths.now places buffers body a.first) plan (λ k. cond a.whole 0 a.s) (λ k. cond a.whole (length_of (column a.lengths.now places buffers body a.first) k) a.n) a.i z a.ranges.now) e (l.invariant.2 formats places buffers body plan t)
