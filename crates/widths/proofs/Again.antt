-- What an accepted call leaves, finished, is accepted where it is lent again: none of the grounds 9, 10 and 12 stands. Assumes nothing.
use mathlib.Core.Path.{◌≡◌}
use mathlib.Core.Bool.{true}
use mathlib.Core.List.{List}
use Prim.Native.Nat.{ℕ, ◌≤◌}
use lib.ListN.{length}
use Rattle.array_data.specs.Tables.{Tables}
use Rattle.array_data.specs.Typed.{tables_from}
use Rattle.refinement.specs.log_in_room.Room.{AllBelow}
use Rattle.refinement.specs.finishing.Shows.{finished_tables, Bodied}
use Rattle.columns.specs.Grounds.{ceiling, column_ground}
use Rattle.anew.proofs.Result.{lent_for, anew_again}
use Rattle.width_walks.specs.target_rules.Target.{is_target}
use Rattle.width_walks.specs.Call.{target_ground, planned, walked, convert}
use Rattle.width_walks.proofs.Answer.{filled}
use Rattle.widths.proofs.Theorems.{turned, keep, differs, ends, walk_done}

module _ (formats schema : List ℕ) (x : Tables) (first n target : ℕ) (parts : List ℕ) (ok : column_ground formats schema x first n ≡ 0) (h : is_target formats schema first n target n ≡ true) (bytes : AllBelow 256 x.body)
    (plan counters room : List ℕ) (taken : (convert formats schema x first n target n parts plan counters room).refusal ≡ 0) (room_bytes : AllBelow 256 room) (base : ℕ) (body : List ℕ)
    (bodied : Bodied body (lent_for x (planned formats schema x first n target n) parts first n) (convert formats schema x first n target n parts plan counters room).room base) (short : length body ≤ ceiling) where
  -- LENT AGAIN with the same schema, in tables that hold the finished ones at the target's nodes, IT IS ACCEPTED: none of 9, 10 and 12 stands
  pub lent_again : (z : Tables)
      → tables_from z target
      ≡ finished_tables (lent_for x (planned formats schema x first n target n) parts first n) x.buffers (convert formats schema x first n target n parts plan counters room).counters
      (convert formats schema x first n target n parts plan counters room).room base body
      → column_ground formats schema z target n ≡ 0
  lent_again z again =
      let wholly = differs formats schema x first n target parts plan counters room ok h bytes in
      anew_again formats schema x first n (target_ground formats schema x first n target n) target n (keep formats schema x first n target parts plan counters room ok h bytes) true 0 (walked formats schema x first n target n) parts plan counters room
      wholly.of_type wholly.low (ends formats schema x first n target parts plan counters room ok h bytes room_bytes taken) (turned formats schema x first n target parts plan counters room ok h bytes)
      (filled formats schema x first n target parts ok h bytes (walk_done formats schema x first n target parts plan counters room ok h bytes room_bytes taken)) room_bytes taken base body bodied short z again
