-- The examples of specs/Example, computed. Assumes nothing.
use mathlib.Core.Path.{◌≡◌, refl}
use mathlib.Core.Bool.{true}
use Rattle.number.specs.Number.{number, encode, splice}
use Rattle.bits.specs.Bits.{digits, bits, value, pack, packed, zeros, pad, bits_at, put_bits}
use Rattle.utils.specs.Pieces.{pieces}
use Rattle.walk.specs.State.{grown, slot_of, rows_in}
use Rattle.walk.specs.Log.{in_room, enter, apply, fail, done, wrote, need, found, next, each}
use Rattle.walk.specs.Leaves.{copy_bits, copy_mask, copy_numbers, put_string, copy_string}
use Rattle.walk.specs.Copy.{child_with, dense_to, dense_row, copy_dense, list_view_row, copy_list_view, copy_data, copy_slots, copy_node, copy_walk}
use Rattle.plan.specs.parts.Parts.{copied, has_part, validity_parts, buffer_parts}
use Rattle.batch.specs.Stretch.{sum_of, never_falls, stretch}
use Rattle.batch.specs.Batch.{steady, batch_leaf, batch_list_view, batch_data, batch_slots, batch_node, batch_below, batch_walk_of}
use Rattle.utils.specs.Offsets.{moved_offsets}
use Rattle.utils.specs.Extension.{extended}
use Rattle.batch.specs.Dense.{batch_fields, batch_dense}
use Rattle.batch.specs.Rise.{rise_from, parts_rise}
use Rattle.batch.specs.Example.{by_rows, by_stretches, union, union_by_rows, union_by_stretches, nested_by_rows, nested_by_stretches}

pub example : by_stretches ≡ by_rows
unfolding number encode splice digits bits value pack packed zeros pad bits_at put_bits pieces grown slot_of rows_in in_room enter apply fail done wrote need found next each copy_bits copy_mask copy_numbers list_view_row copy_list_view copy_data copy_slots copy_node copy_walk sum_of never_falls stretch steady batch_leaf batch_list_view batch_data batch_slots batch_node batch_below batch_walk_of copied
example = refl

pub accepted : by_stretches.0 ≡ 0
unfolding number encode splice digits bits value pack packed zeros pad bits_at put_bits pieces grown slot_of rows_in in_room enter apply fail done wrote need found next each copy_bits copy_mask copy_numbers list_view_row copy_list_view copy_data copy_slots copy_node copy_walk sum_of never_falls stretch steady batch_leaf batch_list_view batch_data batch_slots batch_node batch_below batch_walk_of copied
accepted = refl

pub union_example : union_by_stretches ≡ union_by_rows
unfolding number encode splice digits bits value pack packed zeros pad bits_at put_bits pieces grown slot_of rows_in in_room enter apply fail done wrote need found next each copy_bits copy_mask copy_numbers list_view_row copy_list_view copy_data copy_slots copy_node copy_walk sum_of never_falls stretch steady batch_leaf batch_list_view batch_data batch_slots batch_node batch_below batch_walk_of copied copy_string put_string extended moved_offsets dense_to dense_row copy_dense child_with batch_fields batch_dense rise_from has_part validity_parts buffer_parts
union_example = refl

pub union_accepted : union_by_stretches.0 ≡ 0
unfolding number encode splice digits bits value pack packed zeros pad bits_at put_bits pieces grown slot_of rows_in in_room enter apply fail done wrote need found next each copy_bits copy_mask copy_numbers list_view_row copy_list_view copy_data copy_slots copy_node copy_walk sum_of never_falls stretch steady batch_leaf batch_list_view batch_data batch_slots batch_node batch_below batch_walk_of copied copy_string put_string extended moved_offsets dense_to dense_row copy_dense child_with batch_fields batch_dense rise_from has_part validity_parts buffer_parts
union_accepted = refl

-- its parts rise
pub union_rises : parts_rise union.plan union.parts ≡ true
unfolding number encode splice digits bits value pack packed zeros pad bits_at put_bits pieces grown slot_of rows_in in_room enter apply fail done wrote need found next each copy_bits copy_mask copy_numbers list_view_row copy_list_view copy_data copy_slots copy_node copy_walk sum_of never_falls stretch steady batch_leaf batch_list_view batch_data batch_slots batch_node batch_below batch_walk_of copied copy_string put_string extended moved_offsets dense_to dense_row copy_dense child_with batch_fields batch_dense rise_from has_part validity_parts buffer_parts
union_rises = refl

pub nested_example : nested_by_stretches ≡ nested_by_rows
unfolding number encode splice digits bits value pack packed zeros pad bits_at put_bits pieces grown slot_of rows_in in_room enter apply fail done wrote need found next each copy_bits copy_mask copy_numbers list_view_row copy_list_view copy_data copy_slots copy_node copy_walk sum_of never_falls stretch steady batch_leaf batch_list_view batch_data batch_slots batch_node batch_below batch_walk_of copied
nested_example = refl

pub nested_accepted : nested_by_stretches.0 ≡ 0
unfolding number encode splice digits bits value pack packed zeros pad bits_at put_bits pieces grown slot_of rows_in in_room enter apply fail done wrote need found next each copy_bits copy_mask copy_numbers list_view_row copy_list_view copy_data copy_slots copy_node copy_walk sum_of never_falls stretch steady batch_leaf batch_list_view batch_data batch_slots batch_node batch_below batch_walk_of copied
nested_accepted = refl
