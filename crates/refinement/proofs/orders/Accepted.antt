-- AN ACCEPTED ORDER: its walk found no ground, its parts lie in the room and hold what is needed, and the room is that after its log. Assumes nothing.
use mathlib.Core.Path.{◌≡◌, refl, sym, subst, ◌∙◌}
use mathlib.Core.Bool.{Bool, true, false, cond, ◌&&◌}
use mathlib.Core.List.{List, [], ◌∷◌}
use Prim.Native.Nat.{ℕ, ◌-◌, ◌<◌, ◌^◌, min}
use native.Mathlib.Omega.{arith}
use lib.ListN.{length}
use lib.Dec.{leb, ltb, eqb}
use borrow.Author.Tests.{leb-true, eqb-true, eqb-false}
use Rattle.array_data.proofs.lent_tables.Laws.{and_left, and_right}
use Rattle.model.specs.Book.{Call, copy, nulls}
use Rattle.walk.specs.State.{keeps_of, far}
use Rattle.walk.specs.Log.{Out, start_of, apply}
use Rattle.walk.specs.Copy.{copy_walk}
use Rattle.walk.specs.Nulls.{null_walk}
use Rattle.refinement.specs.log_in_room.Room.{AllBelow, Apart, AllUsed}
use Rattle.refinement.proofs.log_in_room.Uses.{used_wide}
use Rattle.refinement.proofs.log_in_room.Copies.{used_copies}
use Rattle.refinement.proofs.log_in_room.Fills.{used_nulls}
use Rattle.plan.specs.parts.Parts.{size_of, parts_within, parts_hold, Used}
use Rattle.refinement.specs.orders.Sound.{plan_sound, walkable}
use Rattle.columns.specs.Grounds.{ceiling}
use Rattle.refinement.specs.orders.Order.{After, Lent, join_of, source_count, source_length, refused, settled, copy_order, null_order, ordered, ordered_all}
use Rattle.refinement.specs.orders.Written.{walk_of, Counters, OnlyAdds, OnlyUsed, AllMade}
use Rattle.refinement.proofs.orders.Sound.{root_reached, closed_sound, run_ends_fixed, reached_used}
use Rattle.refinement.proofs.orders.Grows.{Fine, Added, Adds}
use Rattle.refinement.proofs.orders.GrowsCopies.{adds_copies}
use Rattle.refinement.proofs.orders.GrowsNulls.{adds_fills}
use Rattle.refinement.proofs.orders.Written.{all_made, only_used, only_adds}

module _ (x : Lent) (counters room : List ℕ) where
  -- what an accepted order passed and did
  pub record Settled (w : Out) (a : After) : Type 0 where
    pub no_ground : w.ans ≡ 0
    pub within : parts_within x.plan x.parts (length room) ≡ true
    pub holds : parts_hold x.plan w.counters x.parts ≡ true
    pub counters_are : a.counters ≡ w.counters
    pub room_is : a.room ≡ apply x.plan x.parts w.log room

  settled_is : (w : Out) → (settled x counters room w).refusal ≡ 0 → Settled w (settled x counters room w)
  unfolding settled
  settled_is w = go (eqb w.ans 0) refl (parts_within x.plan x.parts (length room)) refl (parts_hold x.plan w.counters x.parts) refl
    where
      go : (a : Bool) → eqb w.ans 0 ≡ a → (b : Bool) → parts_within x.plan x.parts (length room) ≡ b → (c : Bool) → parts_hold x.plan w.counters x.parts ≡ c
          → (cond a (cond b (cond c (record { refusal = 0; counters = w.counters; room = apply x.plan x.parts w.log room }) (refused x counters room 13)) (refused x counters room 14)) (refused x counters room w.ans)).refusal ≡ 0
          → Settled w (cond a (cond b (cond c (record { refusal = 0; counters = w.counters; room = apply x.plan x.parts w.log room }) (refused x counters room 13)) (refused x counters room 14)) (refused x counters room w.ans))
      go true e true f true g h = record { no_ground = eqb-true _ _ e; within = f; holds = g; counters_are = refl; room_is = refl }
      go true e true f false g h = absurd (omega arith)
      go true e false f c g h = absurd (omega arith)
      go false e b f c g h = absurd (eqb-false _ _ e h)

  -- the tests before it
  past : (b : Bool) (w : Out) (a : After) (g : ℕ) → 0 < g → (a.refusal ≡ 0 → Settled w a) → (cond b a (refused x counters room g)).refusal ≡ 0 → Settled w (cond b a (refused x counters room g))
  past true w a g p f h = f h
  past false w a g p f h = absurd (omega arith)

  pub accepted : (o : Call) → (ordered x counters room o).refusal ≡ 0 → Settled (walk_of x counters o) (ordered x counters room o)
  unfolding copy_order null_order
  accepted (copy s a e) =
      past (eqb (length counters) 96) _ _ 14 (omega arith)
      (past (walkable x.plan (length room)) _ _ 14 (omega arith)
      (past (ltb s (source_count x.plan)) _ _ 1 (omega arith) (past (leb a e && leb e (source_length x s)) _ _ 2 (omega arith) (settled_is _))))
  accepted (nulls n) = past (eqb (length counters) 96) _ _ 14 (omega arith) (past (walkable x.plan (length room)) _ _ 14 (omega arith) (kept (eqb (keeps_of x.plan 0) 0) _ _ (settled_is _)))
    where
      kept : (b : Bool) (w : Out) (a : After) → (a.refusal ≡ 0 → Settled w a) → (cond b (refused x counters room 3) a).refusal ≡ 0 → Settled w (cond b (refused x counters room 3) a)
      kept true w a f h = absurd (omega arith)
      kept false w a f h = f h

  -- an accepted order was lent counters, a room and a plan that it can be walked in
  pub record Walked : Type 0 where
    pub long : length counters ≡ 96
    pub small : length room < 2 ^ 63
    pub sound : plan_sound x.plan ≡ true

  walked_by : (b d : Bool) (a : After) → eqb (length counters) 96 ≡ b → walkable x.plan (length room) ≡ d
      → (cond b (cond d a (refused x counters room 14)) (refused x counters room 14)).refusal ≡ 0 → Walked
  unfolding walkable
  walked_by true true a e f h =
      let l = leb-true (length room) ceiling (and_left (leb (length room) ceiling) (plan_sound x.plan) f) in
      record { long = eqb-true _ _ e; small = omega arith; sound = and_right (leb (length room) ceiling) (plan_sound x.plan) f }
  walked_by true false a e f h = absurd (omega arith)
  walked_by false d a e f h = absurd (omega arith)

  pub walked : (o : Call) → (ordered x counters room o).refusal ≡ 0 → Walked
  unfolding copy_order null_order
  walked (copy s a e) h = walked_by (eqb (length counters) 96) (walkable x.plan (length room)) _ refl refl h
  walked (nulls n) h = walked_by (eqb (length counters) 96) (walkable x.plan (length room)) _ refl refl h

-- ---- refused

module _ (x : Lent) (counters room : List ℕ) where
  abbrev Kept : After → Type 0
  Kept a = (a.refusal ≡ 0 → ⊥) → (a.counters ≡ counters) × (a.room ≡ room)

  kept_refused : (g : ℕ) → Kept (refused x counters room g)
  kept_refused g h = (refl, refl)

  kept_if : (b : Bool) (a c : After) → Kept a → Kept c → Kept (cond b a c)
  kept_if true a c h k = h
  kept_if false a c h k = k

  kept_settled : (o : Out) → Kept (settled x counters room o)
  unfolding settled
  kept_settled o =
      kept_if (eqb o.ans 0) _ _
      (kept_if (parts_within x.plan x.parts (length room)) _ _ (kept_if (parts_hold x.plan o.counters x.parts) _ _ (λ h. absurd (h refl)) (kept_refused 13)) (kept_refused 14))
      (kept_refused o.ans)

  -- REFUSED, AN ORDER CHANGES NOTHING
  pub order_keeps : (o : Call) → ((ordered x counters room o).refusal ≡ 0 → ⊥) → ((ordered x counters room o).counters ≡ counters) × ((ordered x counters room o).room ≡ room)
  unfolding copy_order null_order
  order_keeps (copy s a e) =
      kept_if (eqb (length counters) 96) _ _
      (kept_if (walkable x.plan (length room)) _ _
      (kept_if (ltb s (source_count x.plan)) _ _ (kept_if (leb a e && leb e (source_length x s)) _ _ (kept_settled _) (kept_refused 2)) (kept_refused 1))
      (kept_refused 14))
      (kept_refused 14)
  order_keeps (nulls n) =
      kept_if (eqb (length counters) 96) _ _
      (kept_if (walkable x.plan (length room)) _ _ (kept_if (eqb (keeps_of x.plan 0) 0) _ _ (kept_refused 3) (kept_settled _)) (kept_refused 14))
      (kept_refused 14)

-- ---- over a sound plan

module _ (x : Lent) (sound : plan_sound x.plan ≡ true) where
  -- an order's walk only adds ..
  pub walk_adds : (counters : List ℕ) (o : Call) → Adds x.plan true 0 0 counters (walk_of x counters o)
  walk_adds counters (copy s a e) = adds_copies (join_of x s) _ _ (closed_sound x.plan sound) (run_ends_fixed x.plan sound) true 8 0 a (e - a) counters (root_reached x.plan sound)
  walk_adds counters (nulls n) = adds_fills (join_of x 0) _ _ (closed_sound x.plan sound) (run_ends_fixed x.plan sound) true 8 0 (min n far) counters (root_reached x.plan sound)

  -- .. at buffers that have parts
  pub walk_used : AllBelow 256 x.body → (counters : List ℕ) (o : Call) → AllUsed (Used x.plan) (walk_of x counters o).log
  walk_used body counters (copy s a e) =
      used_wide (reached_used x.plan sound) _ (used_copies (join_of x s) _ _ (closed_sound x.plan sound) body 8 0 a (e - a) counters (root_reached x.plan sound))
  walk_used body counters (nulls n) =
      used_wide (reached_used x.plan sound) _ (used_nulls (join_of x 0) _ _ (closed_sound x.plan sound) 8 0 (min n far) counters (root_reached x.plan sound))

  -- counters stay counters
  pub fine_order : (counters room : List ℕ) (o : Call) → Fine counters → Fine (ordered x counters room o).counters
  fine_order counters room o f = go (eqb (ordered x counters room o).refusal 0) refl
    where
      go : (b : Bool) → eqb (ordered x counters room o).refusal 0 ≡ b → Fine (ordered x counters room o).counters
      go true e =
          let s = accepted x counters room o (eqb-true _ _ e) in
          subst Fine (sym s.counters_are) ((walk_adds counters o).added f s.no_ground).fine
      go false e = subst Fine (sym (order_keeps x counters room o (eqb-false _ _ e)).0) f

  pub fine_orders : (os : List Call) (counters room : List ℕ) → Fine counters → Fine (ordered_all x counters room os).counters
  unfolding ordered_all
  fine_orders [] counters room f = f
  fine_orders (o ∷ os) counters room f = fine_orders os (ordered x counters room o).counters (ordered x counters room o).room (fine_order counters room o f)

-- ---- ANY PLAN, parts, sources, counters and room whatsoever, the answer being 0

module _ (x : Lent) (body : AllBelow 256 x.body) (counters room : List ℕ) (top : Counters counters) (o : Call) (answer : (ordered x counters room o).refusal ≡ 0) where
  abbrev walk : Out
  walk = walk_of x counters o

  lent : Walked x counters room
  lent = walked x counters room o answer

  made : Settled x counters room walk (ordered x counters room o)
  made = accepted x counters room o answer

  adds : Added x.plan true 0 0 counters walk.counters walk.log
  adds = (walk_adds x lent.sound counters o).added (record { long = lent.long; rows_top = top.rows_top }) made.no_ground

  used : AllUsed (Used x.plan) walk.log
  used = walk_used x lent.sound body counters o

  -- EVERY WRITE IS MADE
  pub order_made : AllMade x.plan x.parts (length room) walk.log
  order_made = all_made x.plan x.parts counters walk.counters (length room) lent.small made.within made.holds true 0 walk.log used adds.behind

  -- ONLY USED PARTS ARE WRITTEN
  pub order_writes : AllBelow 256 room → OnlyUsed x.plan x.parts room (ordered x counters room o).counters (ordered x counters room o).room
  order_writes bytes =
      rw (made.counters_are, made.room_is)
      (only_used x.plan x.parts counters walk.counters (length room) lent.small made.within made.holds true 0 walk.log room refl bytes used adds.behind)

  -- ONLY WHAT THE PARTS GAIN IS WRITTEN, where they are apart
  pub order_adds : AllBelow 256 room
      → ((i b j k : ℕ) → Used x.plan i b → Used x.plan j k → (i ≡ j → b ≡ k → ⊥) → Apart (start_of x.plan x.parts i b) (size_of x.plan x.parts i b) (start_of x.plan x.parts j k) (size_of x.plan x.parts j k))
      → OnlyAdds x.plan x.parts counters room (ordered x counters room o).counters (ordered x counters room o).room
  order_adds bytes apart =
      rw (made.counters_are, made.room_is)
      (only_adds x.plan x.parts counters walk.counters (length room) lent.small made.within made.holds true 0 apart adds.longer.rows_grow refl walk.log room refl bytes used adds.behind)
