-- The log of a walk that only adds: where the parts lie in the room and hold what is needed after it, every write is made, and only what the
-- parts gain is written. Assumes nothing.
use mathlib.Core.Path.{◌≡◌, refl, sym, subst, ◌∙◌}
use mathlib.Core.Bool.{Bool, true, false}
use mathlib.Core.List.{List, [], ◌∷◌}
use Prim.Native.Nat.{ℕ, zero, suc, ◌+◌, ◌-◌, ◌*◌, ◌/◌, ◌≤◌, ◌<◌, ◌^◌}
use native.Mathlib.Nat.{add-zero}
use native.Mathlib.Decide.{dec_lt}
use native.Mathlib.Omega.{arith}
use lib.ListN.{length, get_or}
use lib.Dec.{eqb}
use borrow.Author.Tests.{le-leb, eqb-true, eqb-false}
use Rattle.bits.specs.Bits.{bits, put_bits}
use Rattle.bits.proofs.Laws.{below_of_lem}
use Rattle.bits.proofs.Puts.{put_nil, put_below}
use Rattle.number.specs.Number.{splice}
use Rattle.walk.specs.State.{code_of, bytes_of, rows, bytes, gap}
use Rattle.walk.specs.Log.{Entry, put, mask, amend, Log, start_of, in_room, enter, apply}
use Rattle.refinement.specs.log_in_room.Room.{AllBelow, Apart, UsedEntry, AllUsed}
use Rattle.refinement.proofs.log_in_room.Writes.{apart_never, Wrote, put_wrote, mask_wrote, bit_same}
use Rattle.plan.specs.parts.Parts.{needed, needed_by, size_of, parts_within, parts_hold, Used}
use Rattle.plan.proofs.parts.Placed.{within_used, used_holds, bits_held}
use Rattle.refinement.specs.orders.Written.{Gained, LastEnd, OnlyAdds, OnlyUsed, Made, AllMade, Ends}
use Rattle.refinement.proofs.orders.Buffers.{bits_known, buffer_copied, some_buffer, row_bytes}
use Rattle.refinement.proofs.orders.Grows.{due, due_none, Over, Behind, AllBehind}

in_room_lem : (start o n m : ℕ) → start + o + n ≤ m → in_room start o n m ≡ true
unfolding in_room
in_room_lem start o n m r = le-leb (start + o + n) m r

module _ (plan parts c d : List ℕ) (m : ℕ) (small : m < 2 ^ 63) (within : parts_within plan parts m ≡ true) (holds : parts_hold plan d parts ≡ true) (late : Bool) (e : ℕ) where
  abbrev U : Entry → Type 0
  U = UsedEntry (Used plan)

  abbrev B : Entry → Type 0
  B = Behind plan late e 0 c d

  -- a write ends where the used part after it ends, or before
  put_ends : (i b o : ℕ) (bs : List ℕ) → Used plan i b → Ends (o + length bs) (needed_by (code_of plan i) (rows d i + due e 0 i) (bytes d i) b) → (o + length bs ≤ needed plan d i b) × (start_of plan parts i b + needed plan d i b ≤ m)
  put_ends i b o bs u h =
      let z = due_none e i in
      let w = (within_used plan parts m within i b u).1 in
      let k = used_holds plan d parts holds i b u in
      let r : rows d i + due e 0 i ≡ rows d i = omega arith in
      let n : needed_by (code_of plan i) (rows d i + due e 0 i) (bytes d i) b ≡ needed plan d i b = rw r in
      let l = h (omega arith) in
      (omega arith, omega arith)

  -- a node with a part for its validity has one with a byte a row
  few_rows : (i : ℕ) → Used plan i 0 → (code_of plan i ≡ 0 → ⊥) → rows d i < 2 ^ 63
  few_rows i u q =
      let b = bits_known plan i u.part in
      let v : Used plan i 1 = record { node = u.node; part = buffer_copied plan i 0 b.0 (some_buffer (code_of plan i) q b.1) } in
      let k = used_holds plan d parts holds i 1 v in
      let w = (within_used plan parts m within i 1 v).1 in
      let r = row_bytes (code_of plan i) (rows d i) (bytes d i) q b.1 in
      omega (arith, k, w, r, small)

  mask_ends : (i p : ℕ) (vs : List ℕ) → Used plan i 0 → B (mask i p vs) → (p + length vs ≤ rows d i) × (8 * start_of plan parts i 0 + rows d i ≤ 8 * m)
  mask_ends i p vs u h =
      let z = due_none e i in
      let w = (within_used plan parts m within i 0 u).1 in
      let k = bits_held plan d parts holds i u in
      let s = few_rows i u h.2 in
      let l = h.1 (omega arith) in
      (omega arith, omega arith)

  made : (x : Entry) → U x → B x → Made plan parts m x
  made (put i b o bs) u h = let z = put_ends i b o bs u.0 (h.1 u.1) in in_room_lem (start_of plan parts i b) o (length bs) m (omega (arith, z.0, z.1))
  made (amend i b o bs) u h = let z = put_ends i b o bs u.0 h.2 in in_room_lem (start_of plan parts i b) o (length bs) m (omega (arith, z.0, z.1))
  made (mask i p vs) u h = let z = mask_ends i p vs u.0 h in in_room_lem (8 * start_of plan parts i 0) p (length vs) (8 * m) (omega (arith, z.0, z.1))

  -- EVERY WRITE IS MADE
  pub all_made : (l : Log) → AllUsed (Used plan) l → AllBehind plan late e 0 c d l → AllMade plan parts m l
  unfolding AllUsed AllBehind AllMade
  all_made [] u h = tt
  all_made (x ∷ l) u h = (made x u.0 h.0, all_made l u.1 h.1)

  -- ---- one write

  step_put : (i b o : ℕ) (bs room : List ℕ) → length room ≡ m → AllBelow 256 room → U (put i b o bs) → B (put i b o bs)
      → Wrote (start_of plan parts i b + o) (start_of plan parts i b + o + length bs) room (enter plan parts (put i b o bs) room)
  unfolding enter
  step_put i b o bs room n r u h =
      let z = put_ends i b o bs u.0 (h.1 u.1) in
      let t : in_room (start_of plan parts i b) o (length bs) (length room) ≡ true = subst (λ v. in_room (start_of plan parts i b) o (length bs) v ≡ true) (sym n) (made (put i b o bs) u h) in
      rw t (put_wrote (start_of plan parts i b + o) bs room (omega (arith, z.0, z.1)) u.2 r)

  step_amend : (i b o : ℕ) (bs room : List ℕ) → length room ≡ m → AllBelow 256 room → U (amend i b o bs) → B (amend i b o bs)
      → Wrote (start_of plan parts i b + o) (start_of plan parts i b + o + length bs) room (enter plan parts (amend i b o bs) room)
  unfolding enter
  step_amend i b o bs room n r u h =
      let z = put_ends i b o bs u.0 h.2 in
      let t : in_room (start_of plan parts i b) o (length bs) (length room) ≡ true = subst (λ v. in_room (start_of plan parts i b) o (length bs) v ≡ true) (sym n) (made (amend i b o bs) u h) in
      rw t (put_wrote (start_of plan parts i b + o) bs room (omega (arith, z.0, z.1)) u.2 r)

  step_mask : (i p v : ℕ) (vs room : List ℕ) → length room ≡ m → AllBelow 256 room → U (mask i p (v ∷ vs)) → B (mask i p (v ∷ vs))
      → (enter plan parts (mask i p (v ∷ vs)) room ≡ put_bits (8 * start_of plan parts i 0 + p) (v ∷ vs) room)
      × Wrote ((8 * start_of plan parts i 0 + p) / 8) ((8 * start_of plan parts i 0 + p + length (v ∷ vs) + 7) / 8) room (put_bits (8 * start_of plan parts i 0 + p) (v ∷ vs) room)
  unfolding enter
  step_mask i p v vs room n r u h =
      let z = mask_ends i p (v ∷ vs) u.0 h in
      let t : in_room (8 * start_of plan parts i 0) p (length (v ∷ vs)) (8 * length room) ≡ true = subst (λ k. in_room (8 * start_of plan parts i 0) p (length (v ∷ vs)) (8 * k) ≡ true) (sym n) (made (mask i p (v ∷ vs)) u h) in
      (rw t refl, mask_wrote (8 * start_of plan parts i 0 + p) (v ∷ vs) room (omega (arith, z.0, z.1)) u.1 r)

  step_none : (i p : ℕ) (room : List ℕ) → length room ≡ m → AllBelow 256 room → U (mask i p []) → B (mask i p []) → enter plan parts (mask i p []) room ≡ room
  unfolding enter
  step_none i p room n r u h =
      let t : in_room (8 * start_of plan parts i 0) p (length {A = ℕ} []) (8 * length room) ≡ true = subst (λ k. in_room (8 * start_of plan parts i 0) p (length {A = ℕ} []) (8 * k) ≡ true) (sym n) (made (mask i p []) u h) in
      rw t (put_nil (8 * start_of plan parts i 0 + p) room (below_of_lem 256 room r))

  -- byte p is in no used part, or not in what it gains, nor in its last run end
  record Spared (p : ℕ) : Type 0 where
    not_gained : (i b : ℕ) → Used plan i b → (late ≡ true → Gained plan parts c d p i b) → start_of plan parts i b ≤ p → p < start_of plan parts i b + needed plan d i b → ⊥
    not_ended : (h : ℕ) → Used plan (suc h) 1 → (late ≡ true → LastEnd plan parts c p h) → start_of plan parts (suc h) 1 ≤ p → p < start_of plan parts (suc h) 1 + needed plan d (suc h) 1 → ⊥

  record After (room after : List ℕ) : Type 0 where
    long : length after ≡ m
    still_bytes : AllBelow 256 after
    spared : (p : ℕ) → Spared p → get_or after p 0 ≡ get_or room p 0

  gained : (i b o p : ℕ) (bs : List ℕ) → 1 ≤ b → U (put i b o bs) → B (put i b o bs) → start_of plan parts i b + o ≤ p → p < start_of plan parts i b + o + length bs → late ≡ true → Gained plan parts c d p i b
  gained i zero o p bs q u h x y t = absurd (omega arith)
  gained i (suc b) o p bs q u h x y t = let z = put_ends i (suc b) o bs u.0 (h.1 u.1) in let g = h.0 t in (omega arith, omega (arith, z.0))

  -- a byte that is written over is of the last run end, or gained
  abbrev OverAt : ℕ → ℕ → ℕ → ℕ → ℕ → Type 0
  OverAt o h p i b =
      Used plan i b
      → code_of plan h ≡ 23
      → (late ≡ true → gap c h ≡ 0 → ⊥)
      → (rows c i - 1) * bytes_of plan i ≤ o
      → start_of plan parts i b + o ≤ p
      → p < start_of plan parts i b + needed plan d i b
      → Spared p
      → ⊥

  over_here : (o h p : ℕ) → OverAt o h p (suc h) 1
  over_here o h p u q on l x y s = go (dec_lt p (start_of plan parts (suc h) 1 + needed plan c (suc h) 1))
    where
      go : Dec (p < start_of plan parts (suc h) 1 + needed plan c (suc h) 1) → ⊥
      go (yes z) = s.not_ended h u (λ t. record { runs = q; chosen = on t; from = omega arith; to = z }) (omega arith) y
      go (no z) = s.not_gained (suc h) 1 u (λ t. (omega arith, y)) (omega arith) y

  over_at_lem : (i b o h p : ℕ) → i ≡ suc h → b ≡ 1 → OverAt o h p i b
  over_at_lem i b o h p f g = subst (λ j. OverAt o h p j b) (sym f) (subst (OverAt o h p (suc h)) (sym g) (over_here o h p))

  step_after : (x : Entry) (room : List ℕ) → length room ≡ m → AllBelow 256 room → U x → B x → After room (enter plan parts x room)
  step_after (put i b o bs) room n r u h =
      let w = step_put i b o bs room n r u h in
      let z = put_ends i b o bs u.0 (h.1 u.1) in
      record {
        long = w.long ∙ n;
        still_bytes = w.still_bytes;
        spared = λ p s. w.byte_same p (λ x y. s.not_gained i b u.0 (gained i b o p bs u.1 u h x y) (omega arith) (omega (arith, z.0)));
      }
  step_after (amend i b o bs) room n r u h =
      let w = step_amend i b o bs room n r u h in
      let z = put_ends i b o bs u.0 h.2 in
      record { long = w.long ∙ n; still_bytes = w.still_bytes; spared = λ p s. w.byte_same p (λ x y. over_at_lem i b o h.0.node p h.0.ends h.1 u.0 h.0.runs h.0.chosen h.0.last x (omega (arith, z.0)) s) }
  step_after (mask i p []) room n r u h = rw (step_none i p room n r u h) (record { long = n; still_bytes = r; spared = λ q s. refl })
  step_after (mask i p (v ∷ vs)) room n r u h =
      let w = step_mask i p v vs room n r u h in
      let z = mask_ends i p (v ∷ vs) u.0 h in
      let a = h.0 in
      rw w.0
      (record {
        long = w.1.long ∙ n;
        still_bytes = w.1.still_bytes;
        spared = λ q s. w.1.byte_same q (λ x y. s.not_gained i 0 u.0 (λ t. (omega (arith, z.0), omega arith, omega (arith, z.0))) (omega arith) (omega (arith, z.0)));
      })

  -- ---- a log

  log_after : (l : Log) (room : List ℕ) → length room ≡ m → AllBelow 256 room → AllUsed (Used plan) l → AllBehind plan late e 0 c d l → After room (apply plan parts l room)
  unfolding apply AllUsed AllBehind
  log_after [] room n r u h = record { long = n; still_bytes = r; spared = λ p s. refl }
  log_after (x ∷ l) room n r u h =
      let a = step_after x room n r u.0 h.0 in
      let b = log_after l (enter plan parts x room) a.long a.still_bytes u.1 h.1 in
      record { long = b.long; still_bytes = b.still_bytes; spared = λ p s. b.spared p s ∙ a.spared p s }

  -- ONLY USED PARTS ARE WRITTEN
  pub only_used : (l : Log) (room : List ℕ) → length room ≡ m → AllBelow 256 room → AllUsed (Used plan) l → AllBehind plan late e 0 c d l → OnlyUsed plan parts room d (apply plan parts l room)
  only_used l room n r u h =
      let a = log_after l room n r u h in
      record { same_length = a.long ∙ sym n; other_bytes = λ p f. a.spared p (record { not_gained = λ i b v g x y. f i b v x y; not_ended = λ h v g x y. f (suc h) 1 v x y }) }

  -- ---- the bits that were there, where the parts are apart

  module _ (apart : (i b j k : ℕ) → Used plan i b → Used plan j k → (i ≡ j → b ≡ k → ⊥) → Apart (start_of plan parts i b) (size_of plan parts i b) (start_of plan parts j k) (size_of plan parts j k))
      (rows_grow : (i : ℕ) → rows c i ≤ rows d i) where
    module _ (j q : ℕ) (used : Used plan j 0) (early : q < rows c j) where
      abbrev at : ℕ
      at = 8 * start_of plan parts j 0 + q

      in_part : at / 8 < start_of plan parts j 0 + size_of plan parts j 0
      in_part = let k = bits_held plan d parts holds j used in let g = rows_grow j in omega arith

      bit_step : (x : Entry) (room : List ℕ) → length room ≡ m → AllBelow 256 room → U x → B x → get_or (bits (enter plan parts x room)) at 0 ≡ get_or (bits room) at 0
      bit_step (put i b o bs) room n r u h =
          let w = step_put i b o bs room n r u h in
          let z = put_ends i b o bs u.0 (h.1 u.1) in
          let k = used_holds plan d parts holds i b u.0 in
          let one = u.1 in
          bit_same w at (λ x y. apart_never (apart j 0 i b used u.0 (λ f g. omega arith)) (at / 8) (omega arith) in_part (omega arith) (omega (arith, z.0)))
      bit_step (amend i b o bs) room n r u h =
          let w = step_amend i b o bs room n r u h in
          let z = put_ends i b o bs u.0 h.2 in
          let k = used_holds plan d parts holds i b u.0 in
          let one = u.1 in
          bit_same w at (λ x y. apart_never (apart j 0 i b used u.0 (λ f g. omega arith)) (at / 8) (omega arith) in_part (omega arith) (omega (arith, z.0)))
      bit_step (mask i p []) room n r u h = rw (step_none i p room n r u h)
      bit_step (mask i p (v ∷ vs)) room n r u h = go (eqb j i) refl
        where
          go : (s : Bool) → eqb j i ≡ s → get_or (bits (enter plan parts (mask i p (v ∷ vs)) room)) at 0 ≡ get_or (bits room) at 0
          go true f =
              let w = step_mask i p v vs room n r u h in
              let z = mask_ends i p (v ∷ vs) u.0 h in
              let a = h.0 in
              let g : i ≡ j = sym (eqb-true j i f) in
              let s : start_of plan parts i 0 ≡ start_of plan parts j 0 = rw g in
              let t : rows c i ≡ rows c j = rw g in
              rw w.0 (put_below (8 * start_of plan parts i 0 + p) (v ∷ vs) room (below_of_lem 2 (v ∷ vs) u.1) (omega (arith, z.0, z.1)) at (omega arith))
          go false f =
              let w = step_mask i p v vs room n r u h in
              let z = mask_ends i p (v ∷ vs) u.0 h in
              let k = bits_held plan d parts holds i u.0 in
              rw w.0 (bit_same w.1 at (λ x y. apart_never (apart j 0 i 0 used u.0 (λ g y. eqb-false j i f g)) (at / 8) (omega arith) in_part (omega arith) (omega (arith, z.0))))

      bit_log : (l : Log) (room : List ℕ) → length room ≡ m → AllBelow 256 room → AllUsed (Used plan) l → AllBehind plan late e 0 c d l → get_or (bits (apply plan parts l room)) at 0 ≡ get_or (bits room) at 0
      unfolding apply AllUsed AllBehind
      bit_log [] room n r u h = refl
      bit_log (x ∷ l) room n r u h =
          let a = step_after x room n r u.0 h.0 in
          bit_log l (enter plan parts x room) a.long a.still_bytes u.1 h.1 ∙ bit_step x room n r u.0 h.0

    -- ONLY WHAT THE PARTS GAIN IS WRITTEN
    pub only_adds : late ≡ true → (l : Log) (room : List ℕ) → length room ≡ m → AllBelow 256 room → AllUsed (Used plan) l → AllBehind plan late e 0 c d l
        → OnlyAdds plan parts c room d (apply plan parts l room)
    only_adds t l room n r u h =
        let a = log_after l room n r u h in
        record {
          same_length = a.long ∙ sym n;
          other_bytes = λ p f k. a.spared p (record { not_gained = λ i b v g x y. f i b v (g t); not_ended = λ h v g x y. k h v (g t) });
          earlier_bits = λ i q v k. bit_log i q v k l room n r u h;
        }
