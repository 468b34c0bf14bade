-- `width_loop::walk_node` meets its contract. Assumes nothing.
use mathlib.Core.Path.{refl, ap}
use Prim.Native.Nat.{◌+◌}
use native.Mathlib.Omega.{arith}
use Rattle.array_data.specs.Tables.{offset_of, length_of, valid_of}
use Rattle.array_data.specs.entries.Entries.{column}
use Rattle.array_data.specs.type_tree.Lent.{tree_of}
use Rattle.width_walks.specs.Nodes.{from_in, many_in}
use Rattle.width_loop.proofs.Rules.{mask_less}
use Rattle.width_loop.proofs.Here.{few, sum_here, bits_here}
use Rattle.width_loop.proofs.Turns.{ends_settle, turn_ends, turn_own, settle_own}
use Rattle.width_loop.proofs.walk_node.Goals as goal

pub is_ends_at-requires : goal.is_ends_at-requires
is_ends_at-requires c =
    let a = c.args in
    (omega (arith, few a.formats.now a.schema.now a.lengths.now a.places.now a.body.now a.first a.count a.target c.requires.accepted.0, c.requires.accepted.1), omega arith)

pub returns-then-is_ends_at : goal.returns-then-is_ends_at
returns-then-is_ends_at c =
    let a = c.args in
    record { by_index = (λ buffers. turn_ends a.formats.now a.schema.now a.lengths.now a.places.now buffers a.body.now a.plan.now a.first a.count a.target a.i a.ranges.now a.parts.now a.write a.room.now a.counters.now c.is_ends_at.ensures c.if-is_ends_at.true); by_index_2 = λ buffers q. ends_settle a.formats.now a.schema.now a.lengths.now a.places.now a.body.now a.first a.count a.target c.requires.accepted.0 a.i c.requires.accepted.1 (tree_of a.formats.now a.schema.now a.target a.count) (column a.lengths.now a.places.now buffers a.body.now a.first) a.plan.now a.ranges.now c.is_ends_at.ensures c.if-is_ends_at.true }

pub offset_at-requires : goal.offset_at-requires
offset_at-requires c =
    let a = c.args in
    omega (arith, few a.formats.now a.schema.now a.lengths.now a.places.now a.body.now a.first a.count a.target c.requires.accepted.0, c.requires.accepted.1)

pub overflow_mul-s : goal.overflow_mul-s
overflow_mul-s c =
    let a = c.args in
    omega (arith, few a.formats.now a.schema.now a.lengths.now a.places.now a.body.now a.first a.count a.target c.requires.accepted.0, c.requires.accepted.1)

pub offset_bounds-ranges-i : goal.offset_bounds-ranges-i
offset_bounds-ranges-i c =
    let a = c.args in
    omega (arith, few a.formats.now a.schema.now a.lengths.now a.places.now a.body.now a.first a.count a.target c.requires.accepted.0, c.requires.accepted.1)

pub bounds-ranges-i : goal.bounds-ranges-i
bounds-ranges-i c =
    let a = c.args in
    omega (arith, few a.formats.now a.schema.now a.lengths.now a.places.now a.body.now a.first a.count a.target c.requires.accepted.0, c.requires.accepted.1)

pub overflow_add-s : goal.overflow_add-s
overflow_add-s c =
    let a = c.args in
    omega (arith, c.offset_at.ensures, c.requires.i_in_bounds, sum_here a.formats.now a.schema.now a.lengths.now a.places.now a.body.now a.first a.count a.target c.requires.accepted.0 a.i c.requires.accepted.1)

pub overflow_mul-n : goal.overflow_mul-n
overflow_mul-n c =
    let a = c.args in
    omega (arith, few a.formats.now a.schema.now a.lengths.now a.places.now a.body.now a.first a.count a.target c.requires.accepted.0, c.requires.accepted.1)

pub overflow_add-n : goal.overflow_add-n
overflow_add-n c =
    let a = c.args in
    omega (arith, few a.formats.now a.schema.now a.lengths.now a.places.now a.body.now a.first a.count a.target c.requires.accepted.0, c.requires.accepted.1)

pub offset_bounds-ranges-i-2 : goal.offset_bounds-ranges-i-2
offset_bounds-ranges-i-2 c =
    let a = c.args in
    omega (arith, few a.formats.now a.schema.now a.lengths.now a.places.now a.body.now a.first a.count a.target c.requires.accepted.0, c.requires.accepted.1)

pub bounds-ranges-i-2 : goal.bounds-ranges-i-2
bounds-ranges-i-2 c =
    let a = c.args in
    omega (arith, few a.formats.now a.schema.now a.lengths.now a.places.now a.body.now a.first a.count a.target c.requires.accepted.0, c.requires.accepted.1)

pub put_bits-requires : goal.put_bits-requires
put_bits-requires c =
    let a = c.args in
    let b = bits_here a.formats.now a.schema.now a.lengths.now a.places.now a.body.now a.first a.count a.target c.requires.accepted.0 a.i c.requires.accepted.1 in
    let e = ap (λ z. z + from_in a.ranges.now a.i + many_in a.ranges.now a.i) c.offset_at.ensures in
    record { i_bound = (omega (arith, few a.formats.now a.schema.now a.lengths.now a.places.now a.body.now a.first a.count a.target c.requires.accepted.0, c.requires.accepted.1), omega (arith, e, c.requires.i_in_bounds, sum_here a.formats.now a.schema.now a.lengths.now a.places.now a.body.now a.first a.count a.target c.requires.accepted.0 a.i c.requires.accepted.1)); i_value = (b.there, mask_less (valid_of (column a.lengths.now a.places.now c.requires.accepted.0.buffers a.body.now a.first) a.i) (offset_of (column a.lengths.now a.places.now c.requires.accepted.0.buffers a.body.now a.first) a.i + length_of (column a.lengths.now a.places.now c.requires.accepted.0.buffers a.body.now a.first) a.i) _ (omega (arith, e, c.requires.i_in_bounds)) b.enough) }

pub add_rows-requires : goal.add_rows-requires
add_rows-requires c =
    let a = c.args in
    omega (arith, few a.formats.now a.schema.now a.lengths.now a.places.now a.body.now a.first a.count a.target c.requires.accepted.0, c.requires.accepted.1)

pub walk_data-requires : goal.walk_data-requires
walk_data-requires c =
    let a = c.args in
    let e = ap (λ z. z + from_in a.ranges.now a.i + many_in a.ranges.now a.i) c.offset_at.ensures in
    record { accepted = c.requires.accepted.0; is_node = c.requires.accepted.1; above = omega (arith, c.offset_at.ensures); below = omega (arith, e, c.requires.i_in_bounds) }

pub returns : goal.returns
returns c =
    let a = c.args in
    let e = ap (λ z. z + from_in a.ranges.now a.i) c.offset_at.ensures in
    record { by_index = (λ buffers. turn_own a.formats.now a.schema.now a.lengths.now a.places.now buffers a.body.now a.plan.now a.first a.count a.target a.i a.ranges.now a.parts.now a.write a.room.now a.counters.now c.is_ends_at.ensures c.if-is_ends_at.false e refl (c.put_bits.ensures a.counters.now) c.add_rows.ensures (c.walk_data.ensures.by_index buffers)); by_index_2 = λ buffers q. settle_own a.formats.now a.schema.now a.lengths.now a.places.now buffers a.body.now a.plan.now a.first a.count a.target a.i a.ranges.now e refl (c.walk_data.ensures.by_index_2 buffers q) }
