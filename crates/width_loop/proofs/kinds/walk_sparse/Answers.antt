-- `width_loop::kinds::walk_sparse` meets its contract. Assumes nothing.
use mathlib.Core.List.{[]}
use mathlib.Core.Path.{◌∙◌, ap, sym}
use native.Mathlib.Omega.{arith}
use Rattle.array_data.specs.entries.Entries.{column}
use Rattle.array_data.specs.type_tree.Lent.{tree_of}
use Rattle.width_walks.specs.Nodes.{child_ranges}
use Rattle.width_loop.proofs.Own.{sparse_as}
use Rattle.width_loop.proofs.kinds.walk_sparse.Goals as goal

pub put_slots-requires : goal.put_slots-requires
put_slots-requires c = (omega arith, omega arith, omega (arith, c.place_at-at.ensures))

pub settle_fields-requires : goal.settle_fields-requires
settle_fields-requires c = let p = c.requires in record { count_bound = (p.count_bound.0, p.count_bound.1); by_index = p.by_index }

pub returns : goal.returns
returns c =
    let a = c.args in
    let p = c.requires in
    record { any_union = (λ t t2 k2 ids okay d. sparse_as a.plan.now a.parts.now a.write a.room.now (column [] a.places.now [] a.body.now a.first) a.i a.s a.n d t t2 okay k2 ids p.count_bound.2 p.count_bound.3 c.place_at-at.ensures c.put_slots.ensures); settles_fields = λ formats buffers ids t2 z. c.settle_fields.ensures formats a.places.now buffers a.body.now a.plan.now t2 ∙ ap (λ y. child_ranges (tree_of formats a.schema.now a.first a.count) t2 (column a.lengths.now a.places.now buffers a.body.now a.first) a.plan.now (λ k. a.s) (λ k. a.n) a.i y a.ranges.now) (sym z) }
