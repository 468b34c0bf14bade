-- THE THEOREMS OF W13 over the call: which ground it answers and when, and what an accepted call leaves. Assumes nothing.
use mathlib.Core.Path.{◌≡◌, refl, sym, ap, ◌∙◌}
use mathlib.Core.Logic.{◌⊎◌, inl, inr}
use mathlib.Core.Bool.{Bool, true, false, cond, ◌&&◌}
use mathlib.Core.List.{List}
use Prim.Native.Nat.{ℕ, zero, suc, ◌≤◌, ◌<◌}
use native.Mathlib.Omega.{arith}
use lib.ListN.{length}
use lib.Dec.{T, ltb}
use Rattle.columnar.specs.Types.{Ty}
use Rattle.columnar.specs.Reading.{Column, read_all}
use Rattle.array_data.specs.Tables.{Tables}
use Rattle.array_data.specs.Typed.{tables_from, column_of, source_rule}
use Rattle.array_data.specs.type_tree.Lent.{tree_of, type_of}
use Rattle.model.specs.Try.{Try, done, stop}
use Rattle.walk.specs.State.{code_of}
use Rattle.plan.specs.parts.Parts.{part_total, parts_placed, parts_hold, copied, has_part}
use Rattle.refinement.specs.log_in_room.Room.{AllBelow}
use Rattle.refinement.specs.orders.Written.{OnlyUsed}
use Rattle.refinement.specs.opening.Open.{Opening}
use Rattle.refinement.specs.finishing.Finish.{null_table}
use Rattle.refinement.specs.finishing.Shows.{Shows, Counts, finished_tables, Bodied}
use Rattle.columns.specs.Grounds.{small_body, column_ground}
use Rattle.anew.specs.widths.Converted.{column_as}
use Rattle.anew.specs.widths.Fitting.{converted}
use Rattle.anew.proofs.widths.Convert.{accepted_fits}
use Rattle.anew.proofs.widths.Grounds.{Ground, refused_with}
use Rattle.anew.specs.Anew.{join_lengths, room_ground}
use Rattle.anew.proofs.Laws.{anew_keeps, anew_accepted}
use Rattle.anew.proofs.Parts.{anew_parts, copied_is, root_copied}
use Rattle.anew.proofs.Planted.{few}
use Rattle.anew.proofs.Result.{lent_for, anew_writes, anew_result}
use Rattle.width_walks.specs.target_rules.Target.{is_target, Target}
use Rattle.width_walks.proofs.target_rules.Rules.{target_is}
use Rattle.width_walks.specs.Call.{target_ground, keeping, planned, walked, convert}
use Rattle.width_walks.proofs.Target.{no_ends_lem}
use Rattle.width_walks.proofs.Lent.{typed_here, low_here}
use Rattle.width_walks.proofs.Answer.{widths, filled}
use Rattle.width_walks.proofs.Call.{number_next, room_last}

-- the room's ground is none of the converter's own
room_other : (made tally parts : List ℕ) (plan counters room g : ℕ) → Ground g ⊎ (g ≡ 10) → room_ground made tally parts plan counters room ≡ g → ⊥
unfolding room_ground
room_other made tally parts plan counters room g k e = go (join_lengths plan counters && parts_placed parts (part_total made) room) (parts_hold made tally parts) k e
  where
    go : (a b : Bool) → Ground g ⊎ (g ≡ 10) → ◌≡◌ {A = ℕ} (cond a (cond b 0 13) 14) g → ⊥
    go true true (inl (inl p)) q = omega arith
    go true true (inl (inr (inl p))) q = omega arith
    go true true (inl (inr (inr p))) q = omega arith
    go true true (inr p) q = omega arith
    go true false (inl (inl p)) q = omega arith
    go true false (inl (inr (inl p))) q = omega arith
    go true false (inl (inr (inr p))) q = omega arith
    go true false (inr p) q = omega arith
    go false b (inl (inl p)) q = omega arith
    go false b (inl (inr (inl p))) q = omega arith
    go false b (inl (inr (inr p))) q = omega arith
    go false b (inr p) q = omega arith

-- A REFUSED CALL CHANGES NOTHING
pub refused_keeps : (formats schema : List ℕ) (x : Tables) (first n target tn : ℕ) (parts plan counters room : List ℕ) → ((convert formats schema x first n target tn parts plan counters room).refusal ≡ 0 → ⊥)
    → ((convert formats schema x first n target tn parts plan counters room).plan ≡ plan) × ((convert formats schema x first n target tn parts plan counters room).counters ≡ counters) × ((convert formats schema x first n target tn parts plan counters room).room ≡ room)
refused_keeps formats schema x first n target tn parts plan counters room =
    anew_keeps formats schema x first n (target_ground formats schema x first n target tn) (planned formats schema x first n target tn) (walked formats schema x first n target tn) parts plan counters room

-- a column that is accepted, and a target that passes
module _ (formats schema : List ℕ) (x : Tables) (first n target : ℕ) (parts plan counters room : List ℕ) (ok : column_ground formats schema x first n ≡ 0) (h : is_target formats schema first n target n ≡ true)
    (bytes : AllBelow 256 x.body) where
  abbrev from : Ty
  from = type_of formats schema first n

  abbrev to : Ty
  to = type_of formats schema target n

  abbrev here : Column from
  here = column_of (tree_of formats schema first n) (tables_from x first) from 0

  abbrev pub turned : Column to
  turned = column_as from to (widths formats schema x first n target parts ok h bytes) here 0 here.len

  abbrev answer : Opening
  answer = convert formats schema x first n target n parts plan counters room

  abbrev made : List ℕ
  made = planned formats schema x first n target n

  abbrev pub keep : ℕ → Bool
  keep = keeping formats schema x first n target n

  pub differs : Target formats schema first n target n
  differs = target_is formats schema first n target n h

  small_plan : n ≤ 32
  small_plan = few formats schema target n keep true 0 differs.of_type differs.low

  -- 6, 7 OR 8 IS ANSWERED ONLY WHERE THE CONVERTER STOPS WITH IT
  pub number_only : small_body room ≡ true → (g : ℕ) → Ground g ⊎ (g ≡ 10) → answer.refusal ≡ g → converted from to (widths formats schema x first n target parts ok h bytes) here ≡ stop g
  number_only small g k e = go (converted from to (widths formats schema x first n target parts ok h bytes) here) refl
    where
      go : (c : Try (Column to)) → converted from to (widths formats schema x first n target parts ok h bytes) here ≡ c → converted from to (widths formats schema x first n target parts ok h bytes) here ≡ stop g
      go (done y) q =
          let r = room_last formats schema x first n target parts plan counters room ok h bytes small (accepted_fits from to (widths formats schema x first n target parts ok h bytes) here y q) in
          absurd (room_other made (walked formats schema x first n target n).counters parts (length plan) (length counters) (length room) g k (sym r ∙ e))
      go (stop j) q = q ∙ ap stop (sym (number_next formats schema x first n target parts plan counters room ok h bytes small j q) ∙ e)

  -- ALL NODES ARE IN PARTS, dictionary values among them
  pub in_parts : (i : ℕ) → i < n → copied made i ≡ true
  in_parts zero l = root_copied formats schema target n keep true 0 small_plan
  in_parts (suc i) l = copied_is formats schema target n keep true 0 small_plan i l

  -- A NODE HAS A PART FOR VALIDITY exactly where it keeps nulls and is no union and no run-end node
  pub validity_part : (i : ℕ) → i < n → has_part made i 0 ≡ (keep i && ltb (code_of made i) 21)
  validity_part i l = anew_parts formats schema target n keep true 0 small_plan i l ∙ ap (λ b. b && keep i && ltb (code_of made i) 21) (in_parts i l)

  module _ (room_bytes : AllBelow 256 room) (accepted : answer.refusal ≡ 0) where
    pub ends : (i : ℕ) → suc i < n → code_of made i ≡ 23 → keep (suc i) ≡ false
    ends = no_ends_lem formats schema x first n target parts (typed_here formats schema x first n ok) (low_here formats schema x first n ok) h

    pub walk_done : (walked formats schema x first n target n).ans ≡ 0
    walk_done = (anew_accepted formats schema x first n (target_ground formats schema x first n target n) made (walked formats schema x first n target n) parts plan counters room accepted).walk_done

    -- AN ACCEPTED CALL CHANGES ONLY BYTES OF THE PARTS, up to what each needs
    pub only_parts : OnlyUsed made parts room answer.counters answer.room
    only_parts =
        anew_writes formats schema x first n (target_ground formats schema x first n target n) target n keep true 0 (walked formats schema x first n target n) parts plan counters room differs.of_type differs.low ends turned
        (filled formats schema x first n target parts ok h bytes walk_done) room_bytes accepted

    module _ (base : ℕ) (body : List ℕ) (bodied : Bodied body (lent_for x made parts first n) answer.room base) where
      abbrev finished : Tables
      finished = finished_tables (lent_for x made parts first n) x.buffers answer.counters answer.room base body

      -- THE RESULT, finished: the tables describe the converted column byte for byte, null counts from its bits; it reads as that column, and can be lent again
      pub convert_result :
          Shows (tree_of formats schema target n) finished to 0 turned
          × Counts (tree_of formats schema target n) (null_table (lent_for x made parts first n) x.buffers answer.counters answer.room base) to 0 turned
          × (read_all to (column_of (tree_of formats schema target n) finished to 0) ≡ read_all to turned)
          × T (source_rule (tree_of formats schema target n) finished)
      convert_result =
          anew_result formats schema x first n (target_ground formats schema x first n target n) target n keep true 0 (walked formats schema x first n target n) parts plan counters room differs.of_type differs.low ends turned
          (filled formats schema x first n target parts ok h bytes walk_done) room_bytes accepted base body bodied

-- 10 OF THE TARGET IS ANSWERED ONLY WHERE IT DIFFERS IN MORE THAN WIDTHS
pub target_only : (formats schema : List ℕ) (x : Tables) (first n target : ℕ) (parts plan counters room : List ℕ) → column_ground formats schema x first n ≡ 0 → AllBelow 256 x.body → small_body room ≡ true
    → (convert formats schema x first n target n parts plan counters room).refusal ≡ 10 → is_target formats schema first n target n ≡ false
target_only formats schema x first n target parts plan counters room ok bytes small e = go (is_target formats schema first n target n) refl
  where
    never : Ground 10 → ⊥
    never (inl p) = omega arith
    never (inr (inl p)) = omega arith
    never (inr (inr p)) = omega arith

    go : (b : Bool) → is_target formats schema first n target n ≡ b → is_target formats schema first n target n ≡ false
    go false q = q
    go true q =
        let r = number_only formats schema x first n target parts plan counters room ok q bytes small 10 (inr refl) e in
        absurd (never (refused_with (type_of formats schema first n) (type_of formats schema target n) (widths formats schema x first n target parts ok q bytes) (column_of (tree_of formats schema first n) (tables_from x first) (type_of formats schema first n) 0) 10 r))
