-- WIDENING AND THEN NARROWING BACK on lent memory, the widened column and its view buffers laid in one body (W13). Assumes nothing.
use mathlib.Core.Path.{◌≡◌, sym, ap, subst, ◌∙◌}
use mathlib.Core.Bool.{true}
use mathlib.Core.List.{List}
use Prim.Native.Nat.{ℕ, ◌≤◌}
use native.Mathlib.Omega.{arith}
use lib.ListN.{length}
use Rattle.columnar.specs.Types.{Ty}
use Rattle.columnar.specs.Formed.{Formed}
use Rattle.columnar.specs.Reading.{Column, read_all}
use Rattle.array_data.specs.Tables.{Tables}
use Rattle.array_data.specs.Typed.{tables_from, column_of}
use Rattle.array_data.specs.type_tree.Lent.{tree_of, type_of}
use Rattle.array_data.proofs.type_tree.Lent.{formed}
use Rattle.refinement.specs.log_in_room.Room.{AllBelow}
use Rattle.refinement.specs.opening.Open.{Opening}
use Rattle.refinement.specs.finishing.Shows.{finished_tables, Bodied}
use Rattle.columns.specs.Grounds.{ceiling, small_body, column_ground}
use Rattle.anew.specs.widths.Widths.{Widths}
use Rattle.anew.specs.widths.Converted.{column_as}
use Rattle.anew.specs.widths.Fitting.{AllFit, numbers}
use Rattle.anew.specs.widths.Back.{Widening, KeysFit}
use Rattle.anew.specs.widths.Back as way
use Rattle.anew.proofs.widths.Widen.{node_fits_lem, widen}
use Rattle.anew.proofs.widths.Narrow.{node_back, narrow}
use Rattle.anew.specs.Anew.{room_ground}
use Rattle.anew.proofs.Result.{lent_for}
use Rattle.width_walks.specs.target_rules.Target.{is_target}
use Rattle.width_walks.proofs.target_rules.Turned.{turned}
use Rattle.width_walks.specs.Call.{target_ground, planned, walked, convert}
use Rattle.width_walks.proofs.Lent.{typed_here, low_here, source_here}
use Rattle.width_walks.proofs.Answer.{widths, shows}
use Rattle.width_walks.proofs.Call.{room_last, convert_reads}
use Rattle.widths.proofs.Numbers.{same_numbers}
use Rattle.widths.proofs.Again.{lent_again}

-- 14 or 13 of the parts that are lent for a conversion: 0 where there is room enough
abbrev pub room_for : (formats schema : List ℕ) (x : Tables) (first n target : ℕ) (parts plan counters room : List ℕ) → ℕ
room_for formats schema x first n target parts plan counters room =
    room_ground (planned formats schema x first n target n) (walked formats schema x first n target n).counters parts (length plan) (length counters) (length room)

-- the column of n nodes from node `first` on, which is accepted, and a target
module _ (formats schema : List ℕ) (x : Tables) (first n target : ℕ) (parts : List ℕ) (ok : column_ground formats schema x first n ≡ 0) (h : is_target formats schema first n target n ≡ true) (bytes : AllBelow 256 x.body) where
  abbrev from : Ty
  from = type_of formats schema first n

  abbrev to : Ty
  to = type_of formats schema target n

  abbrev here : Column from
  here = column_of (tree_of formats schema first n) (tables_from x first) from 0

  abbrev pub differs : Widths from to
  differs = widths formats schema x first n target parts ok h bytes

  admitted : Formed from
  admitted = formed formats schema first n (typed_here formats schema x first n ok) (low_here formats schema x first n ok)

  -- the plan of the result
  abbrev made : List ℕ
  made = planned formats schema x first n target n

  module _ (wider : Widening differs) (keys : KeysFit from here.body) (plan counters room : List ℕ) where
    abbrev answer : Opening
    answer = convert formats schema x first n target n parts plan counters room

    -- WIDENING IS ACCEPTED WITH ROOM ENOUGH
    pub widened : small_body room ≡ true → answer.refusal ≡ room_for formats schema x first n target parts plan counters room
    widened small =
        room_last formats schema x first n target parts plan counters room ok h bytes small (node_fits_lem from to differs (widen from to differs wider admitted) here (source_here formats schema x first n ok) keys 0 here.len (omega arith))

    -- .. and finished in a body that holds the column's body, which names its view buffers, and the room
    module _ (taken : answer.refusal ≡ 0) (room_bytes : AllBelow 256 room) (base : ℕ) (body : List ℕ) (bodied : Bodied body (lent_for x made parts first n) answer.room base) (short : length body ≤ ceiling)
        (body_bytes : AllBelow 256 body) where
      abbrev pub wide : Tables
      wide = finished_tables (lent_for x made parts first n) x.buffers answer.counters answer.room base body

      -- THE ROWS READ THE SAME
      pub wide_rows : read_all to (column_of (tree_of formats schema target n) wide to 0) ≡ read_all from here
      wide_rows = (convert_reads formats schema x first n target parts plan counters room ok h bytes taken room_bytes base body bodied).0

      -- LENT AGAIN with the same schema, in tables that hold the finished ones at the target's nodes: none of 9, 10 and 12 stands (`lent_again`), and
      module _ (z : Tables) (again : tables_from z target ≡ wide) where
        lent_good : column_ground formats schema z target n ≡ 0
        lent_good = lent_again formats schema x first n target parts ok h bytes plan counters room taken room_bytes base body bodied short z again

        pub lent_target : is_target formats schema target n first n ≡ true
        lent_target = turned formats schema first n target n (typed_here formats schema x first n ok) (low_here formats schema x first n ok) h

        lent_bytes : AllBelow 256 z.body
        lent_bytes = subst (λ y. AllBelow 256 y.body) (sym again) body_bytes

        module _ (parts2 plan2 counts2 room2 : List ℕ) where
          abbrev narrow_widths : Widths to from
          narrow_widths = widths formats schema z target n first parts2 lent_good lent_target lent_bytes

          fits : AllFit (numbers to from narrow_widths (column_of (tree_of formats schema target n) (tables_from z target) to 0))
          fits =
              let shown = shows formats schema x first n target parts ok h bytes (target_ground formats schema x first n target n) plan counters room room_bytes taken base body bodied in
              let same = same_numbers (tree_of formats schema target n) wide to from narrow_widths (way.turned differs) (column_as from to differs here 0 here.len) shown in
              subst (λ y. AllFit (numbers to from narrow_widths (column_of (tree_of formats schema target n) y to 0))) (sym again)
              (subst AllFit (sym same) (node_back from to differs (narrow from to differs wider admitted) here (source_here formats schema x first n ok) keys 0 here.len (omega arith)))

          abbrev second : Opening
          second = convert formats schema z target n first n parts2 plan2 counts2 room2

          -- NARROWING BACK IS ACCEPTED WITH ROOM ENOUGH
          pub narrowed : small_body room2 ≡ true → second.refusal ≡ room_for formats schema z target n first parts2 plan2 counts2 room2
          narrowed small = room_last formats schema z target n first parts2 plan2 counts2 room2 lent_good lent_target lent_bytes small fits

          -- AND THE ROWS READ THE SAME
          pub back_rows : (taken2 : second.refusal ≡ 0) → AllBelow 256 room2 → (base2 : ℕ) (body2 : List ℕ) → Bodied body2 (lent_for z (planned formats schema z target n first n) parts2 target n) second.room base2
              → read_all from (column_of (tree_of formats schema first n) (finished_tables (lent_for z (planned formats schema z target n first n) parts2 target n) z.buffers second.counters second.room base2 body2) from 0) ≡ read_all from here
          back_rows taken2 b base2 body2 bodied2 =
              (convert_reads formats schema z target n first parts2 plan2 counts2 room2 lent_good lent_target lent_bytes taken2 b base2 body2 bodied2).0
              ∙ ap (λ y. read_all to (column_of (tree_of formats schema target n) y to 0)) again ∙ wide_rows
