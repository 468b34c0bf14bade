-- THE THEOREMS OF W9 over the entry points: what an accepted reclaiming leaves, finished, is the reclaimed column. Assumes nothing.
use mathlib.Core.Path.{◌≡◌, refl, sym, ap, subst, ◌∙◌}
use mathlib.Core.Bool.{true, cond}
use mathlib.Core.List.{List, []}
use Prim.Native.Nat.{ℕ, ◌<◌, ◌^◌}
use lib.ListN.{length, replicate}
use lib.Dec.{T}
use borrow.Author.Tests.{ne_eqb}
use Rattle.columnar.specs.Types.{Number, Plain, Ty, t_dictionary}
use Rattle.columnar.specs.Reading.{Column, read_all}
use Rattle.schema.specs.Tree.{dictionary}
use Rattle.array_data.specs.Tables.{Tables}
use Rattle.array_data.specs.Typed.{column_of, tables_from, source_rule}
use Rattle.array_data.specs.type_tree.Lent.{tree_of, type_of}
use Rattle.columns.specs.Grounds.{small_body, column_ground}
use Rattle.walk.specs.Log.{Out}
use Rattle.refinement.specs.log_in_room.Room.{AllBelow}
use Rattle.refinement.specs.orders.Order.{join_of}
use Rattle.refinement.specs.orders.Written.{OnlyUsed}
use Rattle.refinement.specs.opening.Open.{Opening}
use Rattle.refinement.specs.finishing.Finish.{null_table}
use Rattle.refinement.specs.finishing.Shows.{Shows, Counts, finished_tables, Bodied}
use Rattle.anew.specs.entries.Reclaimed.{reclaimed}
use Rattle.anew.proofs.entries.Reclaim.{same_rows, reclaimed_source}
use Rattle.anew.specs.Anew.{or_else, room_ground}
use Rattle.anew.proofs.Laws.{anew_keeps, anew_ground}
use Rattle.anew.proofs.Result.{lent_for, Filled, filled_by, anew_writes, anew_result}
use Rattle.reclaim.specs.reclaim_walk.Walk.{reclaim_walk_of}
use Rattle.reclaim.specs.Reclaim.{reclaim_own, reclaim_plan, reclaim_out, reclaiming}
use Rattle.reclaim.proofs.Answered.{out_is}
use Rattle.reclaim.proofs.Fills.{reclaim_leaves}
use Rattle.reclaim.proofs.Uses.{reclaim_uses}
use Rattle.reclaim.proofs.Plans.{typed_is, low_is, column, no_ends_lem, given, in_parts, has_dictionary, ahead_none}

module _ (formats schema : List ℕ) (x : Tables) (first n : ℕ) (low : first < 2 ^ 32) (good : column_ground formats schema x first n ≡ 0) (k : Number) (p : Plain)
    (e : type_of formats schema first n ≡ t_dictionary k p) (body_bytes : AllBelow 256 x.body) where
  -- the column that the tables hold
  abbrev pub old : Column (t_dictionary k p)
  old = column_of (tree_of formats schema first n) (tables_from x first) (t_dictionary k p) 0

  abbrev walk : Out
  walk = reclaim_out formats schema x first n

  abbrev made : List ℕ
  made = reclaim_plan formats schema x first n

  -- THE WALK FILLS THE RECLAIMED COLUMN
  pub reclaim_fills : (parts : List ℕ) → Filled (lent_for x made parts first n) x.buffers (t_dictionary k p) walk (reclaimed k p old)
  unfolding reclaim_plan
  reclaim_fills parts =
      let lent = lent_for x made parts first n in
      let g = given formats schema x first n low good k p e parts in
      let q = reclaim_leaves lent k p old g x.buffers in
      subst (λ o. Filled lent x.buffers (t_dictionary k p) o (reclaimed k p old)) (out_is formats schema x first n made parts refl)
      (filled_by lent x.buffers (t_dictionary k p) (reclaim_walk_of (join_of lent 0) (replicate 96 0)) (reclaimed k p old) q
      (reclaim_uses (join_of lent 0) (in_parts formats schema x first n low good k p e) body_bytes (replicate 96 0)).log_used (reclaimed_source k p old g.formed g.source))

  -- "never 6": THE WALK IS NEVER REFUSED
  pub never_refused : walk.ans ≡ 0
  unfolding reclaim_plan
  never_refused =
      sym (ap (λ o. o.ans) (out_is formats schema x first n made [] refl))
      ∙ (reclaim_leaves (lent_for x made [] first n) k p old (given formats schema x first n low good k p e []) x.buffers).is_done

  -- a dictionary is not refused with 10
  pub own_none : reclaim_own schema first ≡ 0
  unfolding reclaim_own
  own_none = ap (λ b. cond b 10 0) (ne_eqb (dictionary schema first 0) 0 not_none)
    where
      not_none : dictionary schema first 0 ≡ 0 → ⊥
      not_none = has_dictionary formats schema x first n low good k p e

  module _ (parts plan counters room : List ℕ) where
    abbrev answer : Opening
    answer = reclaiming formats schema x first n parts plan counters room

    -- ITS ONLY GROUNDS ARE 14 AND 13 of the room
    pub only_room : small_body room ≡ true → answer.refusal ≡ room_ground made walk.counters parts (length plan) (length counters) (length room)
    only_room s =
        anew_ground formats schema x first n (reclaim_own schema first) made walk parts plan counters room s
        ∙ ap (λ z. or_else z (room_ground made walk.counters parts (length plan) (length counters) (length room))) (ahead_none formats schema x first n made walk good own_none never_refused)

    -- A REFUSED CALL CHANGES NOTHING
    pub refused_keeps : (answer.refusal ≡ 0 → ⊥) → (answer.plan ≡ plan) × (answer.counters ≡ counters) × (answer.room ≡ room)
    refused_keeps = anew_keeps formats schema x first n (reclaim_own schema first) made walk parts plan counters room

    module _ (room_bytes : AllBelow 256 room) (ok : answer.refusal ≡ 0) where
      -- AN ACCEPTED CALL CHANGES ONLY BYTES OF THE PARTS, up to what each needs
      pub only_parts : OnlyUsed made parts room answer.counters answer.room
      unfolding reclaim_plan
      only_parts =
          subst (λ u. (c : Column u) → Filled (lent_for x made parts first n) x.buffers u walk c → OnlyUsed made parts room answer.counters answer.room) e
          (λ c f. anew_writes formats schema x first n (reclaim_own schema first) first n _ true 0 walk parts plan counters room (typed_is formats schema x first n low good k p e) (low_is formats schema x first n low good k p e) (no_ends_lem formats schema x first n low good k p e) c f room_bytes ok)
          (reclaimed k p old) (reclaim_fills parts)

      module _ (base : ℕ) (body : List ℕ) (bodied : Bodied body (lent_for x made parts first n) answer.room base) where
        abbrev finished : Tables
        finished = finished_tables (lent_for x made parts first n) x.buffers answer.counters answer.room base body

        abbrev Result : (u : Ty) → Column u → Type 0
        Result u c =
            Shows (tree_of formats schema first n) finished u 0 c
            × Counts (tree_of formats schema first n) (null_table (lent_for x made parts first n) x.buffers answer.counters answer.room base) u 0 c
            × (read_all u (column_of (tree_of formats schema first n) finished u 0) ≡ read_all u c)
            × T (source_rule (tree_of formats schema first n) finished)

        -- THE RESULT, finished: the tables describe the reclaimed column byte for byte, with its null counts, and can be lent again
        pub reclaim_result : Result (t_dictionary k p) (reclaimed k p old)
        unfolding reclaim_plan
        reclaim_result =
            subst (λ u. (c : Column u) → Filled (lent_for x made parts first n) x.buffers u walk c → Result u c) e
            (λ c f. anew_result formats schema x first n (reclaim_own schema first) first n _ true 0 walk parts plan counters room (typed_is formats schema x first n low good k p e) (low_is formats schema x first n low good k p e) (no_ends_lem formats schema x first n low good k p e) c f room_bytes ok base body bodied)
            (reclaimed k p old) (reclaim_fills parts)

        -- "EVERY ROW READS AS BEFORE"
        pub rows_read : read_all (t_dictionary k p) (column_of (tree_of formats schema first n) finished (t_dictionary k p) 0) ≡ read_all (t_dictionary k p) old
        rows_read =
            let g = given formats schema x first n low good k p e [] in
            reclaim_result.2 ∙ same_rows k p old g.formed g.source
