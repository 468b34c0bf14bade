-- The examples are what is meant. Assumes nothing.
use mathlib.Core.Path.{◌≡◌, refl}
use Rattle.number.specs.Number.{number, encode}
use Rattle.utils.specs.Offsets.{first_above}
use Rattle.utils.specs.Extension.{extended, over_at}
use Rattle.run_ends.specs.Lookup as lookup
use Rattle.walk.specs.State.{grown, slot_of, rows_in}
use Rattle.walk.specs.Log.{fail, done, wrote, need, found, next, each}
use Rattle.walk.specs.Leaves.{copy_mask, null_mask, count_nulls, copy_numbers, null_numbers, put_string, copy_string}
use Rattle.walk.specs.Copy.{child_with, is_width, list_view_row, copy_list_view, put_stretch, copy_list, copy_sparse, dense_to, dense_row, copy_dense, copy_runs, copy_data, copy_slots, copy_node, copy_walk, each_field}
use Rattle.walk.specs.Nulls.{nullable_child, null_dense, add_run, grow_run, null_runs, null_data, null_node, null_walk}
use Rattle.plan.specs.parts.Parts.{copied, validity_parts, buffer_parts, has_part, part_holds, parts_hold, part_within, parts_within}
use Rattle.refinement.specs.orders.Sound.{nested_in, ends_sound, kind_sound, node_sound, plan_sound, walkable}
use Rattle.refinement.specs.orders.Measure.{measured, copy_measure, null_measure}
use Rattle.explain.specs.stops.Why.{unless, past, first_of}
use Rattle.explain.specs.stops.Copy.{why_list_row, why_list_view, why_list, why_string, why_fields, why_sparse, why_dense_to, why_dense_at, why_dense_row, why_dense, why_runs, why_data, why_slots, why_node, why_copy}
use Rattle.explain.specs.stops.Nulls.{why_null_home, why_null_dense, why_null_end, why_null_runs, why_null_data, why_null_node, why_nulls}
use Rattle.explain.specs.stops.Parts.{why_part, why_parts_from}
use Rattle.explain.specs.stops.Order.{why_settled, why_copy_order, why_null_order, why_listed_from, why_trip}
use Rattle.explain.specs.stops.Examples.{computed, meant, fifth}
use Rattle.walk.proofs.Names.{copy_fields}

pub examples : computed ≡ meant
unfolding number encode extended over_at first_above grown slot_of rows_in fail done wrote need found next each copy_mask null_mask count_nulls copy_numbers null_numbers put_string copy_string child_with is_width list_view_row copy_list_view put_stretch copy_list each_field copy_sparse dense_to dense_row copy_dense copy_runs copy_data copy_slots copy_node copy_walk nullable_child null_dense add_run grow_run null_runs null_data null_node null_walk copied validity_parts buffer_parts has_part part_holds parts_hold part_within parts_within nested_in ends_sound kind_sound node_sound plan_sound walkable measured copy_measure null_measure unless past first_of why_list_row why_list_view why_list why_string why_fields why_sparse why_dense_to why_dense_at why_dense_row why_dense why_runs why_data why_slots why_node why_copy why_null_home why_null_dense why_null_end why_null_runs why_null_data why_null_node why_nulls why_part why_parts_from why_settled why_copy_order why_null_order why_listed_from why_trip lookup.quarter lookup.tally
examples = refl

-- the fifth of six orders
pub fifth_place : fifth.place ≡ 4
unfolding number encode extended over_at first_above grown slot_of rows_in fail done wrote need found next each copy_mask null_mask count_nulls copy_numbers null_numbers put_string copy_string child_with is_width list_view_row copy_list_view put_stretch copy_list each_field copy_sparse dense_to dense_row copy_dense copy_runs copy_data copy_slots copy_node copy_walk nullable_child null_dense add_run grow_run null_runs null_data null_node null_walk copied validity_parts buffer_parts has_part part_holds parts_hold part_within parts_within nested_in ends_sound kind_sound node_sound plan_sound walkable measured copy_measure null_measure unless past first_of why_list_row why_list_view why_list why_string why_fields why_sparse why_dense_to why_dense_at why_dense_row why_dense why_runs why_data why_slots why_node why_copy why_null_home why_null_dense why_null_end why_null_runs why_null_data why_null_node why_nulls why_part why_parts_from why_settled why_copy_order why_null_order why_listed_from why_trip lookup.quarter lookup.tally
fifth_place = refl
