-- THE ROOT OF A LIST COLUMN'S LIST-VIEW (02, W4), over lent memory: an accepted call's finished root has the offsets, sizes, bits and length of
-- `viewed`. Assumes nothing.
use mathlib.Core.Path.{◌≡◌, refl, sym, ap, subst, ◌∙◌}
use mathlib.Core.Bool.{Bool, true, false}
use mathlib.Core.Option.{some}
use mathlib.Core.List.{List, [], ◌∷◌}
use Prim.Native.Nat.{ℕ, suc, ◌+◌, ◌-◌, ◌*◌, ◌≤◌, ◌<◌}
use native.Mathlib.Omega.{arith}
use lib.ListN.{length, replicate}
use lib.Dec.{ltb, eqb}
use borrow.Author.Tests.{ltb-false, leb-true}
use Rattle.number.specs.Number.{encode}
use Rattle.bits.specs.Bits.{bits_at}
use Rattle.columnar.specs.Row.{seg}
use Rattle.columnar.specs.Types.{t_list}
use Rattle.columnar.specs.Array.{Array, ok, null_count_of}
use Rattle.columnar.specs.Entries.{encodes}
use Rattle.columnar.specs.Reading.{Column}
use Rattle.array_data.specs.Tables.{Tables, place, in_body, valid_in, first_buffer, second_buffer}
use Rattle.model.specs.Mutable.{validity}
use Rattle.model.proofs.Bits.{length_seg, zeros_seg}
use Rattle.walk.specs.State.{Join, code_of, bytes_of, add_rows, length_of, offset_of}
use Rattle.walk.specs.Log.{put, mask, amend, Log, Out, start_of, apply}
use Rattle.refinement.specs.walk_is_model.Memory.{Memory, noted, after, AllInPlace}
use Rattle.refinement.proofs.walk_is_model.Goes.{Quiet}
use Rattle.refinement.specs.log_in_room.Room.{AllBelow, HasBits, NoneOver, Placed, Lies, Outside, AllUsed}
use Rattle.refinement.proofs.log_in_room.Applied.{grows_at, room_lies, room_long, room_else}
use Rattle.refinement.proofs.log_in_room.Bytes.{bytes_encode}
use Rattle.refinement.proofs.log_in_room.Found.{between_both}
use Rattle.refinement.proofs.log_in_room.Uses.{Uses, uses_done, uses_wrote, uses_cond, uses_need, uses_next, uses_each}
use Rattle.columns.specs.Grounds.{ceiling, small_body, column_ground}
use Rattle.plan.specs.parts.Parts.{nodes_of, needed, parts_within, Used, Numbered}
use Rattle.plan.proofs.parts.Placed.{placed_within}
use Rattle.refinement.specs.orders.Order.{Lent}
use Rattle.refinement.specs.orders.Written.{OnlyUsed}
use Rattle.refinement.proofs.orders.Placed.{placed_by}
use Rattle.refinement.proofs.orders.Buffers.{copied_free, list_two, buffer_copied}
use Rattle.refinement.specs.opening.Open.{Opening}
use Rattle.refinement.proofs.opening.Zeros.{empty}
use Rattle.refinement.specs.plan_is_type.Planted.{join_of}
use Rattle.refinement.specs.finishing.Finish.{length_table, null_table, place_table, buffer_table, finishing}
use Rattle.refinement.specs.finishing.Shows.{ShowsNode, CountsNode, finished_tables, Bodied}
use Rattle.anew.specs.lists.Viewed.{offset_in, size_in}
use Rattle.anew.specs.ResultPlan.{keeps_from}
use Rattle.anew.specs.Anew.{written}
use Rattle.anew.proofs.Laws.{Accepted, anew_accepted}
use Rattle.anew.proofs.PlanWords.{nodes_are, numbered_is}
use Rattle.array_data.specs.lent_tables.Lent.{tables}
use Rattle.convert.specs.convert_lists.Turned.{all_nodes}
use Rattle.convert.specs.convert_lists.Viewing.{start_at, next_at, view_row, view_rows, view_walk}
use Rattle.convert.specs.convert_lists.ToList.{lent_with}
use Rattle.convert.specs.convert_lists.ToView.{view_own, view_plan, view_filled, make_view}
use Rattle.convert.proofs.convert_lists.Root.{quiet_map}
use Rattle.convert.proofs.convert_lists.RootUses.{mask_uses}
use Rattle.convert.proofs.convert_lists.Viewing.{Viewed, entries_long}
use Rattle.convert.proofs.convert_lists.ViewLent.{ViewDue, wide, item, column, column_good, root_lent, made_bytes, made_view, made_keeps, view_done}
use Rattle.convert.proofs.convert_lists.RootShown.{RootHeld, root_exact, root_fits, root_starts, root_sizes, root_shows, root_counters, root_inside, root_finishes}

no_bits : (start : ℕ) (room : List ℕ) → HasBits start [] room
unfolding bits_at
no_bits start room = record { run = refl; rest = λ p l q. absurd (omega arith) }

nothing_lies : (plan parts : List ℕ) (U : ℕ → ℕ → Type 0) (room : List ℕ) → AllBelow 256 room → Lies plan parts U room empty
nothing_lies plan parts U room h = record { are_bytes = h; bytes_lie = λ i b u l. refl; bits_lie = λ i u. no_bits _ room }

-- a byte in no buffer that there is at the end is none that is written over
none_over : (plan parts : List ℕ) (U : ℕ → ℕ → Type 0) (l : Log) (μ : Memory) (p : ℕ) → AllInPlace l μ → AllUsed U l
    → ((i b : ℕ) → U i b → 1 ≤ b → start_of plan parts i b ≤ p → p < start_of plan parts i b + length ((after l μ).at i b) → ⊥) → NoneOver plan parts l p
unfolding AllInPlace AllUsed NoneOver after
none_over plan parts U [] μ p q u h = tt
none_over plan parts U (put i b o bs ∷ l) μ p q u h = (tt, none_over plan parts U l (noted (put i b o bs) μ) p q.1 u.1 h)
none_over plan parts U (mask i o vs ∷ l) μ p q u h = (tt, none_over plan parts U l (noted (mask i o vs) μ) p q.1 u.1 h)
none_over plan parts U (amend i b o bs ∷ l) μ p q u h =
    let e : o + length bs ≡ length (μ.at i b) = q.0 in
    (λ x y. h i b u.0.0 u.0.1 (omega arith) (omega (arith, grows_at (amend i b o bs ∷ l) μ q i b)), none_over plan parts U l (noted (amend i b o bs) μ) p q.1 u.1 h)

-- ---- what is written

view_uses : (x : Join) (w : ℕ) (c : List ℕ) → 0 < nodes_of x.plan → code_of x.plan 0 < 21 → Used x.plan 0 1 → Used x.plan 0 2 → Uses (Used x.plan) (view_walk x w c)
unfolding view_walk view_rows view_row
view_uses x w c l code u1 u2 =
    let U = Used x.plan in
    uses_next U _ _ (mask_uses x l code (offset_of x 0) (length_of x 0) c)
    (λ c1. uses_next U _ _
    (uses_cond U (eqb (length_of x 0) 0) _ _ (λ e. uses_done U c1)
    (λ e. uses_need U _ 12 c1 _
    (λ f. uses_each U (view_row x w)
    (λ r c2. uses_next U _ _ (uses_wrote U (put 0 1 (r * w) (encode w (start_at x w r))) c2 (u1, omega arith, bytes_encode w _)) (λ c3. uses_wrote U (put 0 2 (r * w) (encode w (next_at x w r - start_at x w r))) c3 (u2, omega arith, bytes_encode w _))) (length_of x 0) 0 c1)))
    (λ c2. uses_done U (add_rows 0 (length_of x 0) c2)))

module _ (formats schema : List ℕ) (x : Tables) (first m target : ℕ) (ok-column : column_ground formats schema x first (suc m) ≡ 0) (due : ViewDue formats schema first (suc m) target (suc m)) where
  abbrev n : ℕ
  n = suc m

  abbrev made : List ℕ
  made = view_plan formats schema x first n target n

  abbrev v : Column (t_list (wide formats schema x first m target ok-column due) (item formats schema x first m target ok-column due))
  v = column formats schema x first m target ok-column due

  abbrev w : ℕ
  w = wide formats schema x first m target ok-column due

  nodes_one : nodes_of made ≡ 1
  nodes_one = omega (arith, nodes_are formats schema target 1 (keeps_from (tables x.lengths x.places x.body) first all_nodes) false 0 (omega arith))

  root_part : (k : ℕ) → k < 2 → Used made 0 (suc k)
  root_part k l = record { node = omega (arith, nodes_one); part = buffer_copied made 0 k (copied_free made 0 tt) (omega (arith, l, list_two (code_of made 0) (made_view formats schema x first m target ok-column due))) }

  abbrev keep : Bool
  keep = ltb 0 (null_count_of v)

  abbrev bits : List Bool
  bits = seg (ok v.valid) v.off v.len

  abbrev pub starts : List ℕ
  starts = encodes w (seg (offset_in w v.body) v.off v.len)

  abbrev pub sizes : List ℕ
  sizes = encodes w (seg (size_in w v.body) v.off v.len)

  abbrev walk : Out
  walk = view_filled formats schema x first n target n

  module _ (parts plan counters room : List ℕ) (room_bytes : AllBelow 256 room) (passed : (make_view formats schema x first n target n parts plan counters room).refusal ≡ 0) where
    abbrev answer : Opening
    answer = make_view formats schema x first n target n parts plan counters room

    abbrev lent : Lent
    lent = lent_with x made parts first n

    through : Accepted formats schema x first n (view_own formats schema x first n target n) made walk parts plan counters room
    through = anew_accepted formats schema x first n (view_own formats schema x first n target n) made walk parts plan counters room passed

    abbrev Left : List ℕ → Memory → Type 0
    Left = Viewed (join_of x made [] first 0) w (item formats schema x first m target ok-column due) v (root_lent formats schema x first m target ok-column due []) (column_good formats schema x first m target ok-column due) keep (made_keeps formats schema x first m target ok-column due)

    left : Quiet empty Left walk
    left = subst (λ b. Quiet empty Left (view_walk (join_of x made [] first 0) b (replicate 96 0))) (sym (made_bytes formats schema x first m target ok-column due)) (view_done formats schema x first m target ok-column due [])

    long_counters : length walk.counters ≡ 96
    long_counters = left.leaves.long

    walked : Quiet empty (λ c μ. RootHeld lent c μ v.len w keep bits starts sizes) walk
    walked =
        quiet_map {Q = Left} (λ c μ h.
        record {
          one_node = nodes_one;
          of_view = made_view formats schema x first m target ok-column due;
          width_is = made_bytes formats schema x first m target ok-column due;
          keeps_are = made_keeps formats schema x first m target ok-column due;
          rows_are = h.rows_are;
          bits_are = h.bits_are;
          bits_long = length_seg (ok v.valid) v.off v.len;
          no_zeros = λ k. zeros_seg (ok v.valid) v.off v.len ∙ (let z = ltb-false 0 (null_count_of v) k in omega (arith, z));
          starts_are = h.starts_are;
          starts_long = entries_long w (offset_in w v.body) v.off v.len;
          sizes_are = h.sizes_are;
          sizes_long = entries_long w (size_in w v.body) v.off v.len;
        })
        left

    abbrev memory : Memory
    memory = after walk.log empty

    numbered : Numbered made
    numbered = numbered_is formats schema target 1 (keeps_from (tables x.lengths x.places x.body) first all_nodes) false 0 (omega arith)

    well : Placed made parts (Used made) (length room)
    unfolding small_body
    well = placed_by made parts (length room) numbered through.placed (let z = leb-true (length room) ceiling through.small in omega (arith, z))

    used : AllUsed (Used made) walk.log
    used =
        let b = between_both 17 18 (code_of made 0) (made_view formats schema x first m target ok-column due) in
        (view_uses (join_of x made [] first 0) (bytes_of made 0) (replicate 96 0) (omega (arith, nodes_one)) (omega (arith, b.1)) (root_part 0 (omega arith)) (root_part 1 (omega arith))).log_used

    abbrev after_room : List ℕ
    after_room = apply made parts walk.log room

    long_room : length after_room ≡ length room
    long_room = room_long made parts (Used made) walk.log room empty well (nothing_lies made parts (Used made) room room_bytes) walked.in_place used (root_fits lent walk.counters memory v.len w keep bits starts sizes walked.leaves through.holds)

    lying : Lies made parts (Used made) after_room memory
    lying = room_lies made parts (Used made) walk.log room empty well (nothing_lies made parts (Used made) room room_bytes) walked.in_place used (root_fits lent walk.counters memory v.len w keep bits starts sizes walked.leaves through.holds)

    after_placed : Placed made parts (Used made) (length after_room)
    after_placed = subst (Placed made parts (Used made)) (sym long_room) well

    held : RootHeld lent walk.counters memory v.len w keep bits starts sizes
    held = walked.leaves

    -- ---- what is written

    outside : (p : ℕ) → ((i b : ℕ) → Used made i b → start_of made parts i b ≤ p → p < start_of made parts i b + needed made walk.counters i b → ⊥) → Outside made parts (Used made) walk.log empty memory p
    outside p h =
        let e = root_exact lent walk.counters memory v.len w keep bits starts sizes held through.holds x.buffers in
        let f : (i b : ℕ) → Used made i b → 1 ≤ b → start_of made parts i b ≤ p → p < start_of made parts i b + length (memory.at i b) → ⊥ =
        λ i b u l y z. h i b u y (omega (arith, (e i b u).bytes_are l)) in
        record {
          no_bytes = λ i b u l y z. f i b u l (omega arith) z;
          no_bits = λ i u s y z. h i 0 u (omega arith) (omega (arith, (e i 0 u).bits_are refl));
          not_over = none_over made parts (Used made) walk.log empty p walked.in_place used f;
        }

    only_made : OnlyUsed made parts room walk.counters after_room
    only_made =
        record {
          same_length = long_room;
          other_bytes = λ p h. room_else made parts (Used made) walk.log room empty well (nothing_lies made parts (Used made) room room_bytes) walked.in_place used (root_fits lent walk.counters memory v.len w keep bits starts sizes held through.holds) p (outside p h);
        }

    -- AN ACCEPTED CALL CHANGES ONLY BYTES OF THE ROOT'S PARTS, up to what each needs
    pub to_view_writes : OnlyUsed made parts room answer.counters answer.room
    to_view_writes = subst (λ o. OnlyUsed made parts room o.counters o.room) (sym through.answer_is) only_made

    -- the plan that it leaves is that of the root
    pub to_view_plan : answer.plan ≡ made
    to_view_plan = ap (λ o. o.plan) through.answer_is

    -- ---- the finished root

    -- its row count, bits and validity, whatever stands below
    abbrev pub root_array : Array (Unit {0})
    root_array = record { len = v.len; off = 0; valid = validity true (some bits); body = tt }

    -- THE FINISHED ROOT: each row's offset and size, null rows included, offset 0, validity and null count by its bits, and where it lies
    pub record RootDone (y : Tables) (nulls : List ℕ) : Type 0 where
      pub shown : ShowsNode y 0 (λ (b : Unit {0}). (first_buffer y 0 ≡ starts) × (second_buffer y 0 ≡ sizes)) root_array
      pub counted : CountsNode nulls 0 (λ (b : Unit {0}). Unit {0}) root_array
      pub inside : (valid_in y 0 ≡ true) × (in_body y (place y 0 3) (place y 0 4) ≡ true) × (in_body y (place y 0 5) (place y 0 6) ≡ true)

    abbrev Done : Opening → ℕ → List ℕ → Type 0
    Done o base body = Bodied body lent o.room base → RootDone (finished_tables lent x.buffers o.counters o.room base body) (null_table lent x.buffers o.counters o.room base)

    made_root : (base : ℕ) (body : List ℕ) → Done (written formats schema x first n (view_own formats schema x first n target n) made walk parts plan counters room) base body
    made_root base body bodied =
        record {
          shown = root_shows lent walk.counters memory v.len w keep bits starts sizes held through.holds x.buffers after_room lying after_placed base body bodied _ tt
              (root_starts lent walk.counters memory v.len w keep bits starts sizes held through.holds x.buffers after_room lying after_placed base body bodied, root_sizes lent walk.counters memory v.len w keep bits starts sizes held through.holds x.buffers after_room lying after_placed base body bodied);
          counted = root_counters lent walk.counters memory v.len w keep bits starts sizes held through.holds x.buffers after_room lying after_placed base body bodied _ tt tt;
          inside = root_inside lent walk.counters memory v.len w keep bits starts sizes held through.holds x.buffers after_room lying after_placed base body bodied;
        }

    pub to_view_root : (base : ℕ) (body : List ℕ) → Done answer base body
    to_view_root base body = subst (λ o. Done o base body) (sym through.answer_is) (made_root base body)

    -- ---- finishing

    abbrev Finishes : Opening → ℕ → Type 0
    Finishes o base =
        (lengths nulls places names : List ℕ) → length lengths ≡ 2 → length nulls ≡ 1 → length places ≡ 9 → length names ≡ 0
        → finishing lent x.buffers o.counters o.room base lengths nulls places names
        ≡ record {
          refusal = 0;
          lengths = length_table lent x.buffers o.counters o.room base;
          nulls = null_table lent x.buffers o.counters o.room base;
          places = place_table lent x.buffers o.counters o.room base;
          buffers = buffer_table lent x.buffers o.counters o.room base;
        }

    made_finishes : (base : ℕ) → base ≤ ceiling → Finishes (written formats schema x first n (view_own formats schema x first n target n) made walk parts plan counters room) base
    unfolding small_body
    made_finishes base low =
        let small : length after_room ≤ ceiling = let z = leb-true (length room) ceiling through.small in omega (arith, z, long_room) in
        let within : parts_within made parts (length after_room) ≡ true = subst (λ r. parts_within made parts r ≡ true) (sym long_room) (placed_within made parts (length room) numbered through.placed) in
        root_finishes lent walk.counters memory v.len w keep bits starts sizes held through.holds long_counters x.buffers after_room within small base low

    -- FINISHING IS ACCEPTED, where its tables have the lengths of one node and the room begins within a body's ceiling
    pub to_view_finishes : (base : ℕ) → base ≤ ceiling → Finishes answer base
    to_view_finishes base low = subst (λ o. Finishes o base) (sym through.answer_is) (made_finishes base low)
