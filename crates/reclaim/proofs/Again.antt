-- RECLAIMED, FINISHED AND LENT AGAIN (02, W9): none of 9, 10 and 12 stands, and doing it twice gives what once gives. Assumes nothing.
use mathlib.Core.Path.{◌≡◌, sym, ap, subst, ◌∙◌}
use mathlib.Core.Bool.{true}
use mathlib.Core.List.{List}
use Prim.Native.Nat.{ℕ, ◌≤◌, ◌<◌, ◌^◌}
use lib.ListN.{length}
use Rattle.columnar.specs.Types.{Number, Plain, t_dictionary}
use Rattle.columnar.specs.Reading.{Column}
use Rattle.array_data.specs.Tables.{Tables, length_of}
use Rattle.array_data.specs.Typed.{column_of, tables_from}
use Rattle.array_data.specs.type_tree.Lent.{tree_of, type_of}
use Rattle.columns.specs.Grounds.{ceiling, small_body, column_ground}
use Rattle.refinement.specs.log_in_room.Room.{AllBelow}
use Rattle.refinement.specs.finishing.Finish.{null_table}
use Rattle.refinement.specs.finishing.Shows.{Shows, Counts, finished_tables, Bodied}
use Rattle.anew.specs.entries.Used.{kept}
use Rattle.anew.specs.entries.Reclaimed.{reclaimed}
use Rattle.anew.specs.Anew.{room_ground}
use Rattle.anew.proofs.Result.{lent_for, Filled, anew_again}
use Rattle.reclaim.specs.Reclaim.{reclaim_own, reclaim_plan, reclaim_out, reclaiming}
use Rattle.reclaim.proofs.Plans.{typed_is, low_is, no_ends_lem}
use Rattle.reclaim.proofs.Theorems.{reclaim_fills, only_room, reclaim_result}
use Rattle.reclaim.proofs.Exact.{entries_in_use, reclaim_twice}

module _ (formats schema : List ℕ) (x : Tables) (first n : ℕ) (low : first < 2 ^ 32) (good : column_ground formats schema x first n ≡ 0) (k : Number) (p : Plain)
    (e : type_of formats schema first n ≡ t_dictionary k p) (bytes : AllBelow 256 x.body) (parts plan counters room : List ℕ) (room_bytes : AllBelow 256 room)
    (ok : (reclaiming formats schema x first n parts plan counters room).refusal ≡ 0) (base : ℕ) (body : List ℕ)
    (bodied : Bodied body (lent_for x (reclaim_plan formats schema x first n) parts first n) (reclaiming formats schema x first n parts plan counters room).room base) where
  abbrev old : Column (t_dictionary k p)
  old = column_of (tree_of formats schema first n) (tables_from x first) (t_dictionary k p) 0

  abbrev pub once : Tables
  once =
      finished_tables (lent_for x (reclaim_plan formats schema x first n) parts first n) x.buffers (reclaiming formats schema x first n parts plan counters room).counters
      (reclaiming formats schema x first n parts plan counters room).room base body

  -- "THE NUMBER OF ENTRIES IS THE NUMBER OF DISTINCT KEYS IN USE": the finished tables have as many as `entries-in-use` counts
  pub entries_finished : length_of once 1 ≡ length (kept k old)
  entries_finished =
      (reclaim_result formats schema x first n low good k p e bytes parts plan counters room room_bytes ok base body bodied).0.body_is.1.len_is ∙ (entries_in_use formats schema x first n low good k p e bytes).count

  module _ (short : length body ≤ ceiling) (z : Tables) (same : tables_from z first ≡ once) where
    -- LENT AGAIN with the same schema, in tables that hold the finished ones from the column's node on, IT IS ACCEPTED: none of 9, 10 and 12 stands
    pub lent_again : column_ground formats schema z first n ≡ 0
    unfolding reclaim_plan
    lent_again =
        subst (λ u. (c : Column u) → Filled (lent_for x (reclaim_plan formats schema x first n) parts first n) x.buffers u (reclaim_out formats schema x first n) c → column_ground formats schema z first n ≡ 0) e
        (λ c f. anew_again formats schema x first n (reclaim_own schema first) first n _ true 0 (reclaim_out formats schema x first n) parts plan counters room (typed_is formats schema x first n low good k p e) (low_is formats schema x first n low good k p e)
        (no_ends_lem formats schema x first n low good k p e) c f room_bytes ok base body bodied short z same)
        (reclaimed k p old) (reclaim_fills formats schema x first n low good k p e bytes parts)

    module _ (body_bytes : AllBelow 256 body) (parts' plan' counters' room' : List ℕ) where
      z_bytes : AllBelow 256 z.body
      z_bytes = subst (AllBelow 256) (sym (ap (λ y. y.body) same)) body_bytes

      -- A SECOND TIME it is refused with 14 and 13 of the room alone
      pub again_ground : small_body room' ≡ true
          → (reclaiming formats schema z first n parts' plan' counters' room').refusal
          ≡ room_ground (reclaim_plan formats schema z first n) (reclaim_out formats schema z first n).counters parts' (length plan') (length counters') (length room')
      again_ground = only_room formats schema z first n low lent_again k p e z_bytes parts' plan' counters' room'

      module _ (room-bytes' : AllBelow 256 room') (ok' : (reclaiming formats schema z first n parts' plan' counters' room').refusal ≡ 0) (base' : ℕ) (body' : List ℕ)
          (bodied' : Bodied body' (lent_for z (reclaim_plan formats schema z first n) parts' first n) (reclaiming formats schema z first n parts' plan' counters' room').room base') where
        same_column : reclaimed k p (column_of (tree_of formats schema first n) (tables_from z first) (t_dictionary k p) 0) ≡ reclaimed k p old
        same_column =
            ap (λ y. reclaimed k p (column_of (tree_of formats schema first n) y (t_dictionary k p) 0)) same
            ∙ reclaim_twice formats schema x first n low good k p e bytes parts plan counters room room_bytes ok base body bodied

        -- "DOING IT TWICE GIVES WHAT ONCE GIVES": finished, the second result is the first byte for byte, null counts included
        pub twice_as_once :
            Shows (tree_of formats schema first n)
            (finished_tables (lent_for z (reclaim_plan formats schema z first n) parts' first n) z.buffers (reclaiming formats schema z first n parts' plan' counters' room').counters
            (reclaiming formats schema z first n parts' plan' counters' room').room base' body')
            (t_dictionary k p) 0 (reclaimed k p old)
            × Counts (tree_of formats schema first n)
            (null_table (lent_for z (reclaim_plan formats schema z first n) parts' first n) z.buffers (reclaiming formats schema z first n parts' plan' counters' room').counters
            (reclaiming formats schema z first n parts' plan' counters' room').room base')
            (t_dictionary k p) 0 (reclaimed k p old)
        twice_as_once =
            let r = reclaim_result formats schema z first n low lent_again k p e z_bytes parts' plan' counters' room' room-bytes' ok' base' body' bodied' in (
              subst
                  (Shows (tree_of formats schema first n)
                  (finished_tables (lent_for z (reclaim_plan formats schema z first n) parts' first n) z.buffers (reclaiming formats schema z first n parts' plan' counters' room').counters
                  (reclaiming formats schema z first n parts' plan' counters' room').room base' body')
                  (t_dictionary k p) 0)
                  same_column r.0,
              subst
                  (Counts (tree_of formats schema first n)
                  (null_table (lent_for z (reclaim_plan formats schema z first n) parts' first n) z.buffers (reclaiming formats schema z first n parts' plan' counters' room').counters
                  (reclaiming formats schema z first n parts' plan' counters' room').room base')
                  (t_dictionary k p) 0)
                  same_column r.1,
            )
