-- WHICH RUN ENDS AN ORDER WRITES OVER, where one run for a gap is chosen. Assumes nothing.
use mathlib.Core.Path.{◌≡◌, refl, sym, ap, ap₂, subst, ◌∙◌}
use mathlib.Core.Bool.{Bool, true, false, not, cond, ◌&&◌, false≢true}
use mathlib.Core.List.{List, [], ◌∷◌}
use Prim.Native.Nat.{ℕ, zero, suc, ◌+◌, ◌*◌, ◌-◌, ◌/◌, ◌≤◌, ◌<◌, ◌^◌, min}
use native.Mathlib.Decide.{dec_lt}
use native.Mathlib.Omega.{arith}
use lib.ListN.{length, get_or}
use lib.Dec.{eqb}
use borrow.Author.Tests.{eqb-true, eqb-false, eq-eqb}
use Rattle.walk.specs.State.{code_of, bytes_of, end_of, far, rows, bytes, gap, set_bytes}
use Rattle.walk.specs.Log.{Entry, put, mask, amend, Log, start_of, apply}
use Rattle.refinement.specs.log_in_room.Room.{AllBelow, Apart, AllUsed}
use Rattle.plan.specs.parts.Parts.{needed, needed_by, size_of, parts_within, parts_hold, Used}
use Rattle.refinement.proofs.walk_is_model.Counters.{bytes_set, bytes_other, rows_of_bytes, long_bytes}
use Rattle.model.specs.Book.{Call, copy, nulls}
use Rattle.refinement.specs.orders.Order.{Lent, join_of, ordered}
use Rattle.refinement.specs.orders.Written.{walk_of, Counters, Gained, LastEnd}
use Rattle.refinement.proofs.orders.Sound.{root_reached}
use Rattle.refinement.proofs.orders.Accepted.{accepted, walked, walk_adds, walk_used}
use Rattle.refinement.proofs.orders.Step.{Running}
use Rattle.refinement.proofs.opening.Opened.{Opened, orders_after}
use Rattle.refinement.proofs.orders.Grows.{Behind, AllBehind}
use Rattle.refinement.proofs.orders.Written.{only_adds}
use Rattle.join.specs.Join.{Lending, Bytes, sources_in, type_in, columns_in, keeps_in, opening_of, lent_of, after_calls, next_call, reached_by}
use Rattle.join.specs.Written.{OnlyGains, OnlyAmends}
use Rattle.join.proofs.Opens.{runs}
use Rattle.join.proofs.Written.{fine}
use Rattle.join.proofs.Amends.{Amended, AllAmended, amended_wide, Nowhere, plain_copy}
use Rattle.join.proofs.AmendsNulls.{At, tight_walk}

beyond_all : (l : List ℕ) (k : ℕ) → length l ≤ k → get_or l k 0 ≡ 0
beyond_all [] k h = refl
beyond_all (x ∷ l) zero h = absurd (omega arith)
beyond_all (x ∷ l) (suc k) h = beyond_all l k (omega arith)

-- ---- the same counters, the gaps of other nodes than those of K being 0

module _ (plan : List ℕ) (K : ℕ → Bool) where
  zeroed : ℕ → List ℕ → List ℕ
  zeroed zero c = c
  zeroed (suc n) c = cond (eqb (code_of plan n) 23 && not (K n)) (set_bytes n 0 (zeroed n c)) (zeroed n c)

  record Like (c : List ℕ) (n : ℕ) (d : List ℕ) : Type 0 where
    long : length d ≡ 96
    rows_are : (j : ℕ) → rows d j ≡ rows c j
    bytes_are : (j : ℕ) → (code_of plan j ≡ 23 → ⊥) → bytes d j ≡ bytes c j
    kept_are : (j : ℕ) → K j ≡ true → bytes d j ≡ bytes c j
    gone : (j : ℕ) → j < n → code_of plan j ≡ 23 → K j ≡ false → bytes d j ≡ 0

  both_true : (a b : Bool) → a && not b ≡ true → (a ≡ true) × (b ≡ false)
  both_true true false e = (refl, refl)
  both_true true true e = absurd (let z : ◌≡◌ {A = ℕ} 0 1 = cc e in omega arith)
  both_true false b e = absurd (let z : ◌≡◌ {A = ℕ} 0 1 = cc e in omega arith)

  never : {A : Type 0} {b : Bool} → b ≡ true → b ≡ false → A
  never e f = absurd (let z : ◌≡◌ {A = ℕ} 0 1 = cc in omega arith)

  like_set : (c d : List ℕ) (n : ℕ) → n < 32 → code_of plan n ≡ 23 → K n ≡ false → Like c n d → Like c (suc n) (set_bytes n 0 d)
  like_set c d n small q f l =
      record {
        long = long_bytes n 0 d ∙ l.long;
        rows_are = λ j. rows_of_bytes d n 0 j ∙ l.rows_are j;
        bytes_are = λ j h. bytes_other d n 0 j (λ e. h (ap (code_of plan) e ∙ q)) ∙ l.bytes_are j h;
        kept_are = λ j h. bytes_other d n 0 j (λ e. never (sym (ap K e) ∙ h) f) ∙ l.kept_are j h;
        gone = λ j s h g. go j s h g (eqb j n) refl;
      }
    where
      go : (j : ℕ) → j < suc n → code_of plan j ≡ 23 → K j ≡ false → (b : Bool) → eqb j n ≡ b → bytes (set_bytes n 0 d) j ≡ 0
      go j s h g true e = let z = eqb-true j n e in rw z (bytes_set d l.long n small 0)
      go j s h g false e = let z = eqb-false j n e in bytes_other d n 0 j z ∙ l.gone j (omega (arith, z)) h g

  like_same : (c d : List ℕ) (n : ℕ) → eqb (code_of plan n) 23 && not (K n) ≡ false → Like c n d → Like c (suc n) d
  like_same c d n e l =
      record { long = l.long; rows_are = l.rows_are; bytes_are = l.bytes_are; kept_are = l.kept_are; gone = λ j s h g. go j s h g (eqb j n) refl }
    where
      go : (j : ℕ) → j < suc n → code_of plan j ≡ 23 → K j ≡ false → (b : Bool) → eqb j n ≡ b → bytes d j ≡ 0
      go j s h g true f = let z = eqb-true j n f in never (ap₂ (λ a b. a && not b) (ap (λ v. eqb v 23) (ap (code_of plan) (sym z) ∙ h)) (ap K (sym z) ∙ g)) e
      go j s h g false f = let z = eqb-false j n f in l.gone j (omega (arith, z)) h g

  like : (c : List ℕ) → length c ≡ 96 → (n : ℕ) → n ≤ 32 → Like c n (zeroed n c)
  unfolding zeroed
  like c l zero s = record { long = l; rows_are = λ j. refl; bytes_are = λ j h. refl; kept_are = λ j h. refl; gone = λ j h q g. absurd (omega arith) }
  like c l (suc n) s = go (eqb (code_of plan n) 23 && not (K n)) refl (like c l n (omega arith))
    where
      go : (b : Bool) → eqb (code_of plan n) 23 && not (K n) ≡ b → Like c n (zeroed n c) → Like c (suc n) (cond b (set_bytes n 0 (zeroed n c)) (zeroed n c))
      go true e k = let z = both_true (eqb (code_of plan n) 23) (K n) e in like_set c (zeroed n c) n (omega arith) (eqb-true _ _ z.0) z.1 k
      go false e k = like_same c (zeroed n c) n e k

-- ---- a log that writes over run ends of nodes in K alone

needed_runs : (r m k b : ℕ) → needed_by 23 r m b ≡ needed_by 23 r k b
needed_runs r m k zero = refl
needed_runs r m k (suc zero) = refl
needed_runs r m k (suc (suc b)) = refl

module _ (plan parts c d : List ℕ) (m : ℕ) (small : m < 2 ^ 63) (within : parts_within plan parts m ≡ true) (holds : parts_hold plan d parts ≡ true) (long : length c ≡ 96) (K : ℕ → Bool)
    (some : (h : ℕ) → K h ≡ true → gap c h ≡ 0 → ⊥) where
  abbrev c' : List ℕ
  c' = zeroed plan K 32 c

  as_c : Like plan K c 32 c'
  as_c = like plan K c long 32 (omega arith)

  needed_same : (j b : ℕ) → needed plan c' j b ≡ needed plan c j b
  needed_same j b = ap (λ r. needed_by (code_of plan j) r (bytes c' j) b) (as_c.rows_are j) ∙ go (eqb (code_of plan j) 23) refl
    where
      go : (t : Bool) → eqb (code_of plan j) 23 ≡ t → needed_by (code_of plan j) (rows c j) (bytes c' j) b ≡ needed_by (code_of plan j) (rows c j) (bytes c j) b
      go true e = let z = eqb-true (code_of plan j) 23 e in rw z (needed_runs (rows c j) (bytes c' j) (bytes c j) b)
      go false e = ap (λ v. needed_by (code_of plan j) (rows c j) v b) (as_c.bytes_are j (eqb-false (code_of plan j) 23 e))

  moved_entry : (e : Entry) → Amended (λ h. K h ≡ true) e → Behind plan true 0 0 c d e → Behind plan true 0 0 c' d e
  moved_entry (put j b o bs) a h = (λ y. subst (λ v. v ≤ o) (sym (needed_same j b)) (h.0 y), h.1)
  moved_entry (mask j p vs) a h = (subst (λ v. v ≤ p) (sym (as_c.rows_are j)) h.0, h.1, h.2)
  moved_entry (amend j b o bs) a h = (
    record {
      node = h.0.node;
      ends = h.0.ends;
      runs = h.0.runs;
      chosen = λ y z. some h.0.node (a h.0.node h.0.ends) (sym (as_c.kept_are h.0.node (a h.0.node h.0.ends)) ∙ z);
      last = subst (λ v. (v - 1) * bytes_of plan j ≤ o) (sym (as_c.rows_are j)) h.0.last;
    },
    h.1,
    h.2,
  )

  moved_log : (l : Log) → AllAmended (λ h. K h ≡ true) l → AllBehind plan true 0 0 c d l → AllBehind plan true 0 0 c' d l
  unfolding AllBehind
  moved_log [] a h = tt
  moved_log (e ∷ l) a h = (moved_entry e a.0 h.0, moved_log l a.1 h.1)

  gained_back : (p i b : ℕ) → Gained plan parts c' d p i b → Gained plan parts c d p i b
  gained_back p i zero g =
      let e = as_c.rows_are i in
      (subst (λ v. v < rows d i) e g.0, subst (λ v. start_of plan parts i 0 + v / 8 ≤ p) e g.1, g.2)
  gained_back p i (suc b) g = (subst (λ v. start_of plan parts i (suc b) + v ≤ p) (needed_same i (suc b)) g.0, g.1)

  of_K : (p h : ℕ) → LastEnd plan parts c' p h → K h ≡ true
  of_K p h e = go (K h) refl
    where
      no_gap : K h ≡ false → Dec (h < 32) → gap c' h ≡ 0
      no_gap f (yes s) = as_c.gone h s e.runs f
      no_gap f (no s) = beyond_all c' (3 * h + 2) (omega (arith, as_c.long, s))

      go : (b : Bool) → K h ≡ b → K h ≡ true
      go true f = f
      go false f = absurd (e.chosen (no_gap f (dec_lt h 32)))

  last_back : (p h : ℕ) → LastEnd plan parts c' p h → LastEnd plan parts c p h
  last_back p h e =
      record {
        runs = e.runs;
        chosen = some h (of_K p h e);
        from = subst (λ v. start_of plan parts (suc h) 1 + (v - 1) * bytes_of plan (suc h) ≤ p) (as_c.rows_are (suc h)) e.from;
        to = subst (λ v. p < start_of plan parts (suc h) 1 + v) (needed_same (suc h) 1) e.to;
      }

  pub only_amends : ((i b j k : ℕ) → Used plan i b → Used plan j k → (i ≡ j → b ≡ k → ⊥) → Apart (start_of plan parts i b) (size_of plan parts i b) (start_of plan parts j k) (size_of plan parts j k))
      → ((i : ℕ) → rows c i ≤ rows d i) → (l : Log) (room : List ℕ) → length room ≡ m → AllBelow 256 room → AllUsed (Used plan) l → AllBehind plan true 0 0 c d l
      → AllAmended (λ h. K h ≡ true) l → OnlyAmends (λ h. K h ≡ true) plan parts c room d (apply plan parts l room)
  only_amends apart grow l room n r u h a =
      let g : (i : ℕ) → rows c' i ≤ rows d i = λ i. subst (λ v. v ≤ rows d i) (sym (as_c.rows_are i)) (grow i) in
      let o = only_adds plan parts c' d m small within holds true 0 apart g refl l room n r u (moved_log l a h) in
      record {
        same_length = o.same_length;
        other_bytes = λ p f k. o.other_bytes p (λ i b v q. f i b v (gained_back p i b q)) (λ i v q. k i (of_K p i q) v (last_back p i q));
        earlier_bits = λ i q v k. o.earlier_bits i q v (subst (λ z. q < z) (sym (as_c.rows_are i)) k);
      }

-- ---- an accepted order, over any plan, parts, sources, counters and room whatsoever that are apart

module _ (x : Lent) (body : AllBelow 256 x.body) (counters room : List ℕ) (top : Counters counters) (bytes-room : AllBelow 256 room)
    (apart : (i b j k : ℕ) → Used x.plan i b → Used x.plan j k → (i ≡ j → b ≡ k → ⊥) → Apart (start_of x.plan x.parts i b) (size_of x.plan x.parts i b) (start_of x.plan x.parts j k) (size_of x.plan x.parts j k)) where
  by_walk : (o : Call) → (ordered x counters room o).refusal ≡ 0 → (K : ℕ → Bool) → ((h : ℕ) → K h ≡ true → gap counters h ≡ 0 → ⊥) → AllAmended (λ h. K h ≡ true) (walk_of x counters o).log
      → OnlyAmends (λ h. K h ≡ true) x.plan x.parts counters room (ordered x counters room o).counters (ordered x counters room o).room
  by_walk o answer K some a =
      let lent = walked x counters room o answer in
      let made = accepted x counters room o answer in
      let adds = (walk_adds x lent.sound counters o).added (record { long = lent.long; rows_top = top.rows_top }) made.no_ground in
      rw (made.counters_are, made.room_is)
      (only_amends x.plan x.parts counters (walk_of x counters o).counters (length room) lent.small made.within made.holds lent.long K some apart adds.longer.rows_grow (walk_of x counters o).log room refl bytes-room
      (walk_used x lent.sound body counters o) adds.behind a)

  copy_only : (s a e : ℕ) → (ordered x counters room (copy s a e)).refusal ≡ 0
      → OnlyGains x.plan x.parts counters room (ordered x counters room (copy s a e)).counters (ordered x counters room (copy s a e)).room
  copy_only s a e answer =
      let w =
      by_walk (copy s a e) answer (λ h. false) (λ h k. absurd (false≢true k))
      (amended_wide Nowhere (λ h. false ≡ true) (λ h k. absurd k) (walk_of x counters (copy s a e)).log (plain_copy (join_of x s) 8 0 a (e - a) counters).none_over) in
      record { same_length = w.same_length; other_bytes = λ p f. w.other_bytes p f (λ h k. absurd (false≢true k)); earlier_bits = w.earlier_bits }

  nulls_only : (n : ℕ) → (ordered x counters room (nulls n)).refusal ≡ 0
      → OnlyAmends (λ h. gap counters h ≡ 2) x.plan x.parts counters room (ordered x counters room (nulls n)).counters (ordered x counters room (nulls n)).room
  nulls_only n answer =
      let sound = (walked x counters room (nulls n) answer).sound in
      let t = tight_walk (join_of x 0) sound 8 0 (min n far) counters (root_reached x.plan sound).0 in
      let w =
      by_walk (nulls n) answer (λ h. eqb (gap counters h) 2) (λ h k z. let y = eqb-true (gap counters h) 2 k in omega arith)
      (amended_wide (At 0 (end_of x.plan 0) counters) (λ h. eqb (gap counters h) 2 ≡ true) (λ h k. eq-eqb (gap counters h) 2 k.nulls_last) (walk_of x counters (nulls n)).log t.over) in
      record {
        same_length = w.same_length;
        other_bytes = λ p f k. w.other_bytes p f (λ h q. k h (eqb-true (gap counters h) 2 q));
        earlier_bits = w.earlier_bits;
      }

-- ---- a whole join: after an accepted opening and any list of calls, refused ones included

module _ (l : Lending) (b : Bytes l) (accepted-l : (opening_of l).refusal ≡ 0) (os : List Call) where
  abbrev opens : Opened l.formats l.schema l.sources l.tables l.keep l.gaps l.parts (opening_of l)
  opens = runs l b accepted-l

  abbrev held : Running (lent_of l) (type_in l) (sources_in l) (columns_in l) opens.join (keeps_in l) (opening_of l).counters opens.memory (reached_by l os) (after_calls l os).counters (after_calls l os).room
  held = (orders_after l.formats l.schema l.sources l.tables l.keep l.gaps l.parts (opening_of l) opens os).running

  -- A COPY MORE, accepted, writes over no run end
  pub copy_gains : (j a e : ℕ) → (next_call l os (copy j a e)).refusal ≡ 0
      → OnlyGains (lent_of l).plan l.parts (after_calls l os).counters (after_calls l os).room (next_call l os (copy j a e)).counters (next_call l os (copy j a e)).room
  copy_gains j a e h =
      copy_only (lent_of l) b.body_bytes (after_calls l os).counters (after_calls l os).room (record { rows_top = (fine l b accepted-l os).rows_top }) held.lies.are_bytes held.placed.apart j a e h

  -- A NULL ORDER MORE, accepted, writes over the last run end of run-end nodes whose gap is 2, and over nothing else
  pub nulls_amend : (n : ℕ) → (next_call l os (nulls n)).refusal ≡ 0
      → OnlyAmends (λ i. gap (after_calls l os).counters i ≡ 2) (lent_of l).plan l.parts (after_calls l os).counters (after_calls l os).room (next_call l os (nulls n)).counters (next_call l os (nulls n)).room
  nulls_amend n h =
      nulls_only (lent_of l) b.body_bytes (after_calls l os).counters (after_calls l os).room (record { rows_top = (fine l b accepted-l os).rows_top }) held.lies.are_bytes held.placed.apart n h
