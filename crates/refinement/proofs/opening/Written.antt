-- An accepted opening makes every write of its walk, and writes only used parts. Assumes nothing.
use mathlib.Core.Path.{◌≡◌, refl, sym, subst, ◌∙◌}
use mathlib.Core.Bool.{Bool, true, false, cond, ◌&&◌}
use mathlib.Core.List.{List}
use Prim.Native.Nat.{ℕ, zero, suc, ◌+◌, ◌*◌, ◌/◌, ◌≤◌, ◌<◌}
use native.Mathlib.Nat.{mul_comm, le-mul_of_pos_right}
use native.Mathlib.Omega.{arith}
use lib.ListN.{length, get_or, replicate, length-replicate}
use lib.Dec.{eqb}
use borrow.Author.Tests.{le-leb, eq-eqb, eqb-true, eqb-false}
use Rattle.array_data.proofs.lent_tables.Laws.{and_left, and_right}
use Rattle.number.specs.Number.{encode}
use Rattle.number.proofs.Laws.{length_encode}
use Rattle.array_data.specs.Tables.{Tables}
use Rattle.schema.specs.formats.Code.{is_run_end}
use Rattle.walk.specs.State.{word, code_of, dictionary_of, bytes_of, end_of, rows, bytes, length_of, top}
use Rattle.walk.specs.Log.{put, Out, apply}
use Rattle.refinement.specs.log_in_room.Room.{AllBelow, AllUsed}
use Rattle.columns.specs.Grounds.{ceiling, sources_ground}
use Rattle.plan.specs.parts.Parts.{nodes_of, copied, has_offsets, needed_by, part_total, parts_placed, parts_within, parts_hold, Used}
use Rattle.refinement.specs.orders.Sound.{plan_sound}
use Rattle.refinement.specs.orders.Order.{Lent, join_of, source_count}
use Rattle.refinement.specs.orders.Written.{OnlyUsed, AllMade}
use Rattle.refinement.proofs.orders.Sound.{closed_nodes, ends_fixed, node_stands}
use Rattle.refinement.proofs.log_in_room.Found.{between_both}
use Rattle.refinement.proofs.orders.Grows.{Fine, Behind, Added, Adds, due, adds_done, adds_gap, adds_fail, adds_wrote, adds_cond, adds_need, adds_next, adds_each, adds_whole}
use Rattle.refinement.proofs.orders.GrowsCopies.{adds_copies}
use Rattle.refinement.proofs.orders.Written.{all_made, only_used}
use Rattle.refinement.specs.opening.Open.{Opening, chosen, begin_gaps, first_offset, join_source, join_entries, open_dictionary, open_walk_of, opened, refused, settled, room_placed, opening}
use Rattle.refinement.proofs.opening.Laid.{Stood, stood}
use Rattle.refinement.proofs.opening.Walk.{opens_used}
use Rattle.refinement.proofs.opening.Opened.{given, tests}

-- ---- the walk only adds

module _ (x : Lent) (sound : plan_sound x.plan ≡ true) (values : (i : ℕ) → i < nodes_of x.plan → (dictionary_of x.plan i ≡ 0 → ⊥) → suc i < nodes_of x.plan) where
  abbrev P : List ℕ
  P = x.plan

  offset_behind : (i : ℕ) (c : List ℕ) → has_offsets (code_of P i) ≡ true → Behind P false 0 0 c c (put i 1 0 (encode (bytes_of P i) 0))
  offset_behind i c h =
      let l = length_encode (bytes_of P i) 0 in
      let n : needed_by (code_of P i) (rows c i + due 0 0 i) (bytes c i) 1 ≡ (rows c i + due 0 0 i + 1) * bytes_of P i = rw h in
      let p : 0 < rows c i + due 0 0 i + 1 = omega arith in
      let g = le-mul_of_pos_right (bytes_of P i) p in
      let f = mul_comm (bytes_of P i) (rows c i + due 0 0 i + 1) in
      (λ y. absurd (let z : ◌≡◌ {A = ℕ} 0 1 = cc y in omega arith), λ v. omega arith)

  adds_offset : (i : ℕ) (c : List ℕ) → Adds P false 0 0 c (first_offset x i c)
  unfolding first_offset
  adds_offset i c =
      adds_cond P false 0 0 c (has_offsets (code_of P i) && copied P i) _ _
      (λ e. adds_wrote P false 0 0 _ c (offset_behind i c (and_left (has_offsets (code_of P i)) (copied P i) e)))
      (λ e. adds_done P false 0 0 c)

  adds_source : (i s : ℕ) (c : List ℕ) → i < nodes_of P → Adds P false 0 0 c (join_source x i s c)
  unfolding join_source
  adds_source i s c l = adds_whole P false 0 0 i c _ (adds_copies (join_of x s) _ _ (closed_nodes P sound) (ends_fixed P sound) false 8 i 0 (length_of (join_of x s) i) c l)

  adds_entries : (i : ℕ) (c : List ℕ) → i < nodes_of P → Adds P false 0 0 c (join_entries x i c)
  unfolding join_entries
  adds_entries i c l = adds_each P false 0 0 (join_source x i) (source_count P) (λ s c2 h. adds_source i s c2 l) (source_count P) 0 c (omega arith)

  adds_dictionary : (i : ℕ) (c : List ℕ) → i < nodes_of P → Adds P false 0 0 c (open_dictionary x i c)
  unfolding open_dictionary
  adds_dictionary i c l =
      adds_cond P false 0 0 c (eqb (dictionary_of P i) 0) _ _ (λ e. adds_done P false 0 0 c)
      (λ e. adds_need P false 0 0 _ 6 c _ (omega arith)
      (λ g. adds_next P false 0 0 c _ _
      (adds_cond P false 0 0 c (eqb (word P i 7) 0) _ _ (λ f. adds_done P false 0 0 c) (λ f. adds_entries (suc i) c (values i l (eqb-false _ _ e))))
      (λ c2. adds_need P false 0 0 _ 8 c2 _ (omega arith) (λ f. adds_done P false 0 0 c2))))

  adds_gaps : (i : ℕ) (c : List ℕ) → i < nodes_of P → Adds P false 0 0 c (begin_gaps x i c)
  unfolding begin_gaps
  adds_gaps i c l =
      adds_cond P false 0 0 c (is_run_end (code_of P i) && chosen P) _ _
      (λ e. let b = between_both 23 23 (code_of P i) (and_left (is_run_end (code_of P i)) (chosen P) e) in
      adds_gap P false 0 0 i 1 c (omega arith) (omega (arith, b.0, b.1)) (λ y z. absurd (let z : ◌≡◌ {A = ℕ} 0 1 = cc y in omega arith)))
      (λ e. adds_done P false 0 0 c)

  pub adds_opening : (c : List ℕ) → Adds P false 0 0 c (open_walk_of x c)
  unfolding open_walk_of
  adds_opening c =
      adds_next P false 0 0 c _ _ (adds_each P false 0 0 (begin_gaps x) (nodes_of P) (λ i c2 l. adds_gaps i c2 l) (nodes_of P) 0 c (omega arith))
      (λ c1. adds_next P false 0 0 c1 _ _ (adds_each P false 0 0 (first_offset x) (nodes_of P) (λ i c2 l. adds_offset i c2) (nodes_of P) 0 c1 (omega arith))
      (λ c2. adds_each P false 0 0 (open_dictionary x) (nodes_of P) adds_dictionary (nodes_of P) 0 c2 (omega arith)))

-- the counters before any row
pub fine_zeros : Fine (replicate {A = ℕ} 96 0)
fine_zeros = record { long = length-replicate {A = ℕ} 96 0; rows_top = λ i. no_rows 96 (3 * i) }
  where
    no_rows : (n k : ℕ) → get_or (replicate {A = ℕ} n 0) k 0 ≤ top
    no_rows zero k = omega arith
    no_rows (suc n) zero = omega arith
    no_rows (suc n) (suc k) = no_rows n k

-- ---- an accepted opening

module _ (formats schema sources : List ℕ) (x : Tables) (keep gaps : Bool) (parts plan counters room : List ℕ) where
  abbrev lent : Lent
  lent = opened formats schema sources x keep gaps parts

  abbrev answer : Opening
  answer = opening formats schema sources x keep gaps parts plan counters room

  abbrev walk : Out
  walk = open_walk_of lent (replicate 96 0)

  record Settled (a : Opening) : Type 0 where
    no_ground : walk.ans ≡ 0
    holds : parts_hold lent.plan walk.counters parts ≡ true
    counters_are : a.counters ≡ walk.counters
    room_is : a.room ≡ apply lent.plan parts walk.log room

  settled_is : (settled formats schema sources x keep gaps parts plan counters room walk).refusal ≡ 0 → Settled (settled formats schema sources x keep gaps parts plan counters room walk)
  unfolding settled
  settled_is = go (eqb walk.ans 0) refl (parts_hold lent.plan walk.counters parts) refl
    where
      go : (a : Bool) → eqb walk.ans 0 ≡ a → (b : Bool) → parts_hold lent.plan walk.counters parts ≡ b
          → (cond a (cond b (record { refusal = 0; plan = lent.plan; counters = walk.counters; room = apply lent.plan parts walk.log room }) (refused formats schema sources x keep gaps parts plan counters room 13))
          (refused formats schema sources x keep gaps parts plan counters room walk.ans)).refusal ≡ 0
          → Settled (cond a (cond b (record { refusal = 0; plan = lent.plan; counters = walk.counters; room = apply lent.plan parts walk.log room }) (refused formats schema sources x keep gaps parts plan counters room 13))
          (refused formats schema sources x keep gaps parts plan counters room walk.ans))
      go true e true f h = record { no_ground = eqb-true _ _ e; holds = f; counters_are = refl; room_is = refl }
      go true e false f h = absurd (omega arith)
      go false e b f h = absurd (eqb-false _ _ e h)

  module _ (accepted : answer.refusal ≡ 0) where
    passed : (length room ≤ ceiling) × (sources_ground formats schema x sources ≡ 0) × (room_placed formats schema sources x keep gaps parts plan counters room ≡ true)
    passed = tests formats schema sources x keep gaps parts plan counters room accepted

    made : Settled answer
    unfolding opening
    made = let p = passed in rw (le-leb _ _ p.0, eq-eqb _ _ p.1, p.2) (settled_is (rw (le-leb _ _ p.0, eq-eqb _ _ p.1, p.2) at accepted))

    stands : Stood lent.plan (length sources / 2) (get_or sources 1 0)
    stands = stood formats schema x sources passed.1 keep gaps

    values : (i : ℕ) → i < nodes_of lent.plan → (dictionary_of lent.plan i ≡ 0 → ⊥) → suc i < nodes_of lent.plan
    values i l d =
        let a = stands.all_nodes_lem in
        let e = stands.laid.tabled.keys_end i (omega arith) d in
        let s = (node_stands lent.plan stands.sound i l).inside in
        omega arith

    adds : Added lent.plan false 0 0 (replicate 96 0) walk.counters walk.log
    adds = (adds_opening lent stands.sound values (replicate 96 0)).added fine_zeros made.no_ground

    -- the counters that it leaves are counters
    pub opening_fine : Fine answer.counters
    opening_fine = subst Fine (sym made.counters_are) adds.fine

    pub opening_sound : plan_sound lent.plan ≡ true
    opening_sound = stands.sound

    within : parts_within lent.plan parts (length room) ≡ true
    unfolding room_placed
    within = stands.within parts (length room) (and_right (eqb (length plan) 872 && eqb (length counters) 96) (parts_placed parts (part_total lent.plan) (length room)) passed.2)

    module _ (body_bytes : AllBelow 256 x.body) where
      used : AllUsed (Used lent.plan) walk.log
      used = opens_used lent _ _ _ keep gaps (given formats schema sources x keep gaps parts body_bytes passed.1)

      -- EVERY WRITE IS MADE
      pub opening_made : AllMade lent.plan parts (length room) walk.log
      opening_made =
          let l = passed.0 in
          all_made lent.plan parts (replicate 96 0) walk.counters (length room) (omega arith) within made.holds false 0 walk.log used adds.behind

      -- ONLY USED PARTS ARE WRITTEN
      pub opening_writes : AllBelow 256 room → OnlyUsed lent.plan parts room answer.counters answer.room
      opening_writes bytes =
          let l = passed.0 in
          rw (made.counters_are, made.room_is)
          (only_used lent.plan parts (replicate 96 0) walk.counters (length room) (omega arith) within made.holds false 0 walk.log room refl bytes used adds.behind)
