-- The runs fit where no ground of the room stands, and what they fill is the encoded column. Assumes nothing.
use mathlib.Core.Path.{◌≡◌, refl, sym, subst, ◌∙◌}
use mathlib.Core.Bool.{Bool, true, false}
use mathlib.Core.List.{List}
use Prim.Native.Nat.{ℕ, suc, ◌+◌, ◌*◌, ◌^◌, ◌≤◌, ◌<◌}
use native.Mathlib.Omega.{arith}
use lib.ListN.{length, get_or}
use Rattle.columnar.specs.Types.{fixed, t_plain, t_run_end}
use Rattle.schema.specs.formats.Code.{width_of}
use Rattle.array_data.specs.Tables.{Tables}
use Rattle.array_data.specs.lent_tables.Lent.{tables}
use Rattle.array_data.specs.type_tree.Lent.{type_of}
use Rattle.source_rules.specs.kinds.Rows.{tables_of}
use Rattle.columns.specs.Grounds.{small_body, column_ground}
use Rattle.anew.specs.Anew.{room_ground}
use Rattle.anew.proofs.Comes.{new_keeps}
use Rattle.coding.proofs.run_walks.Plans.{RunsPlan, runs_plan, runs_ends}
use Rattle.coding.specs.Counted.{all_counts}
use Rattle.coding.specs.Encode.{from_column, number, end_width, encode_own, encode_keeps, encode_plan, last_of, RoomFor}
use Rattle.coding.proofs.Accepted.{due_type}
use Rattle.coding.proofs.Encoded.{due}
use Rattle.coding.proofs.Room.{room_free, ends_fixed, numbers_fit, bits_fit}

module _ (formats schema lengths places buffers body : List ℕ) (first n target start end : ℕ) (low : first < 2 ^ 32) (small : (j : ℕ) → get_or body j 0 < 256)
    (g : column_ground formats schema (tables_of lengths places buffers body) first n ≡ 0) (o : encode_own formats schema (tables_of lengths places buffers body) first n target start end ≡ 0) where
  abbrev x : Tables
  x = tables_of lengths places buffers body

  abbrev y : Tables
  y = tables lengths places body

  abbrev keeps : ℕ → Bool
  keeps = encode_keeps formats schema x first n target start end

  abbrev made : List ℕ
  made = encode_plan formats schema x first n target start end

  pub type_is_lem : type_of formats schema target 3 ≡ t_run_end (end_width formats schema first target) (t_plain (fixed (number formats schema first target)))
  type_is_lem = due_type formats schema first target (due formats schema lengths places buffers body first n target start end low small g o)

  pub planned_runs : RunsPlan made (keeps 2)
  planned_runs =
      let d = due formats schema lengths places buffers body first n target start end low small g o in
      runs_plan formats schema target keeps d.of_type d.low (end_width formats schema first target) (number formats schema first target) type_is_lem (new_keeps y first from_column 0 refl) (new_keeps y first from_column 1 refl)

  pub no_ends_lem : (i : ℕ) → suc i < 3 → Rattle.walk.specs.State.code_of made i ≡ 23 → keeps (suc i) ≡ false
  no_ends_lem =
      let d = due formats schema lengths places buffers body first n target start end low small g o in
      runs_ends formats schema target keeps d.of_type d.low (end_width formats schema first target) (number formats schema first target) type_is_lem (new_keeps y first from_column 1 refl)

  -- THE RUNS FIT
  pub room_for : (parts room : List ℕ) (plan counters m : ℕ) (keep : Bool) → keep ≡ keeps 2 → small_body room ≡ true
      → room_ground made (all_counts m (length (last_of formats schema y first start end keep))) parts plan counters (length room) ≡ 0
      → RoomFor formats schema y first start end target made parts keep (length room)
  room_for parts room plan counters m keep exact s h =
      let d = due formats schema lengths places buffers body first n target start end low small g o in
      let runs = length (last_of formats schema y first start end keep) in
      let c = all_counts m runs in
      let f = room_free made c parts plan counters (length room) h in
      let p = planned_runs in
      let f1 = ends_fixed formats schema target 3 keeps d.of_type d.low no_ends_lem (end_width formats schema first target) (t_plain (fixed (number formats schema first target))) type_is_lem in
      let e1 = numbers_fit formats schema target 3 keeps d.of_type d.low no_ends_lem c parts room s f.placed f.holds 1 (omega arith) f1 p.ends_part in
      let e2 = numbers_fit formats schema target 3 keeps d.of_type d.low no_ends_lem c parts room s f.placed f.holds 2 (omega arith) d.values.is_fixed_lem p.values_part in
      record {
        of_ends = e1;
        of_values = subst (λ z. Rattle.walk.specs.Log.start_of made parts 2 1 + runs * width_of z ≤ length room) d.same_code e2;
        of_bits = λ q. bits_fit formats schema target 3 keeps d.of_type d.low no_ends_lem c parts room s f.placed f.holds 2 (p.bits_there (sym exact ∙ q));
      }
