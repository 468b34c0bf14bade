-- What the answers say of the orders: a question has the order's own ground, 13 and 14 apart, and where every part holds the bytes that are
-- answered for it, 13 does not stand. Assumes nothing.
use mathlib.Core.Path.{◌≡◌, refl, ap, fun_ext, ◌∙◌}
use mathlib.Core.Bool.{Bool, true, false, cond, ◌&&◌}
use mathlib.Core.List.{List, []}
use Prim.Native.Nat.{ℕ, zero, suc, ◌+◌, ◌*◌, ◌-◌, ◌≤◌, ◌<◌, min}
use native.Mathlib.Omega.{arith}
use lib.ListN.{length, get_or, replicate}
use lib.Dec.{leb, ltb, eqb}
use borrow.Author.Tests.{le-leb, eq-eqb}
use Rattle.columnar.specs.Test.{every, only_if}
use Rattle.array_data.specs.Tables.{Tables}
use Rattle.walk.specs.State.{keeps_of, far, top, word, dictionary_of}
use Rattle.walk.specs.Log.{Out, done, need, next, each}
use Rattle.walk.specs.Copy.{copy_walk}
use Rattle.walk.specs.Nulls.{null_walk}
use Rattle.plan.specs.parts.Parts.{nodes_of, has_part, part_total, number_of, part_at, needed, size_at, part_holds, parts_hold, parts_within, Used, Numbered}
use Rattle.plan.proofs.parts.Placed.{number_below, part_named}
use Rattle.columns.specs.Grounds.{ceiling, sources_ground}
use Rattle.refinement.specs.orders.Sound.{plan_sound, walkable}
use Rattle.refinement.specs.orders.Order.{Lent, join_of, source_count, source_length, settled, copy_order, null_order}
use Rattle.refinement.specs.orders.Measure.{Measured, measured, copy_measure, null_measure, needed_in, needed_bytes}
use Rattle.refinement.specs.opening.Open as start
use Rattle.refinement.specs.opening.Open.{begin_gaps, first_offset, join_source, join_entries, entries_hold, keys_hold, open_dictionary, open_walk_of, opened, room_placed, opening}
use Rattle.refinement.specs.opening.Ask.{open_measure}
use Rattle.refinement.proofs.opening.Laid.{stood}
use Rattle.transform.proofs.Laws.{null_plan}
use Rattle.measure.proofs.Placeless.{walk_same}

-- what is lent to a question: no part
abbrev pub unplaced : Lent → Lent
unplaced x = record { plan = x.plan; parts = []; sources = x.sources; lengths = x.lengths; places = x.places; body = x.body }

-- the ground of an order by the answer to its question: "13 last"
abbrev pub ground_by : Lent → Measured → ℕ
ground_by x m = cond (eqb m.refusal 0) (cond (parts_hold x.plan m.counters x.parts) 0 13) m.refusal

-- a walk, its parts asked or not
by_walk : (plan parts old : List ℕ) (o : Out) → cond (eqb o.ans 0) (cond (parts_hold plan o.counters parts) 0 13) o.ans
    ≡ cond (eqb (measured old o).refusal 0) (cond (parts_hold plan (measured old o).counters parts) 0 13) (measured old o).refusal
unfolding measured
by_walk plan parts old o = go (eqb o.ans 0) refl
  where
    go : (t : Bool) → eqb o.ans 0 ≡ t → cond (eqb o.ans 0) (cond (parts_hold plan o.counters parts) 0 13) o.ans
        ≡ cond (eqb (measured old o).refusal 0) (cond (parts_hold plan (measured old o).counters parts) 0 13) (measured old o).refusal
    go true e = rw e
    go false e = rw (e, e)

-- the parts lie in a room that is a body
module _ (x : Lent) (counters room : List ℕ) (within : parts_within x.plan x.parts (length room) ≡ true) (small : length room ≤ ceiling) where
  walks : walkable x.plan (length room) ≡ plan_sound x.plan
  unfolding walkable
  walks = rw (le-leb (length room) ceiling small)

  settled_ground : (o : Out) → (settled x counters room o).refusal ≡ ground_by x (measured counters o)
  unfolding settled
  settled_ground o = go (eqb o.ans 0) (parts_hold x.plan o.counters x.parts) refl refl ∙ by_walk x.plan x.parts counters o
    where
      go : (t b : Bool) → eqb o.ans 0 ≡ t → parts_hold x.plan o.counters x.parts ≡ b
          → (settled x counters room o).refusal ≡ cond (eqb o.ans 0) (cond (parts_hold x.plan o.counters x.parts) 0 13) o.ans
      go true true e f = rw (e, within, f)
      go true false e f = rw (e, within, f)
      go false b e f = rw e

  -- THE QUESTION OF A COPY HAS THE COPY'S GROUND, 13 apart
  pub copy_asked : (s a e : ℕ) → (copy_order x counters room s a e).refusal ≡ ground_by x (copy_measure counters (unplaced x) s a e)
  unfolding copy_order copy_measure
  copy_asked s a e = go (eqb (length counters) 96) (plan_sound x.plan) (ltb s (source_count x.plan)) (leb a e && leb e (source_length x s)) refl refl refl refl
    where
      walk : copy_walk (join_of x s) 8 0 a (e - a) counters ≡ copy_walk (join_of (unplaced x) s) 8 0 a (e - a) counters
      walk = walk_same x.plan x.parts [] x.lengths x.places x.body (get_or x.sources (2 * s) 0) s 8 0 a (e - a) counters

      go : (p o q r : Bool) → eqb (length counters) 96 ≡ p → plan_sound x.plan ≡ o → ltb s (source_count x.plan) ≡ q → (leb a e && leb e (source_length x s)) ≡ r
          → (copy_order x counters room s a e).refusal ≡ ground_by x (copy_measure counters (unplaced x) s a e)
      go true true true true f w g h = rw (f, walks, w, g, h) (settled_ground (copy_walk (join_of x s) 8 0 a (e - a) counters) ∙ ap (λ o. ground_by x (measured counters o)) walk)
      go true true true false f w g h = rw (f, walks, w, g, h)
      go true true false r f w g h = rw (f, walks, w, g)
      go true false q r f w g h = rw (f, walks, w)
      go false o q r f w g h = rw f

  -- THE QUESTION OF NULLS HAS THEIR GROUND
  pub nulls_asked : (n : ℕ) → (null_order x counters room n).refusal ≡ ground_by x (null_measure counters (unplaced x) n)
  unfolding null_order null_measure
  nulls_asked n = go (eqb (length counters) 96) (plan_sound x.plan) (eqb (keeps_of x.plan 0) 0) refl refl refl
    where
      walk : null_walk (join_of x 0) 8 0 (min n far) counters ≡ null_walk (join_of (unplaced x) 0) 8 0 (min n far) counters
      walk = null_plan x.plan x.parts [] x.lengths x.lengths x.places x.places x.body x.body (get_or x.sources 0 0) (get_or x.sources 0 0) 0 0 8 0 (min n far) counters

      go : (p o q : Bool) → eqb (length counters) 96 ≡ p → plan_sound x.plan ≡ o → eqb (keeps_of x.plan 0) 0 ≡ q
          → (null_order x counters room n).refusal ≡ ground_by x (null_measure counters (unplaced x) n)
      go true true true f w g = rw (f, walks, w, g)
      go true true false f w g = rw (f, walks, w, g) (settled_ground (null_walk (join_of x 0) 8 0 (min n far) counters) ∙ ap (λ o. ground_by x (measured counters o)) walk)
      go true false q f w g = rw (f, walks, w)
      go false o q f w g = rw f

-- ---- the opening

module _ (x : Lent) where
  source_same : (i s : ℕ) (c : List ℕ) → join_source x i s c ≡ join_source (unplaced x) i s c
  unfolding join_source
  source_same i s c =
      let first = get_or x.sources (2 * s) 0 in
      walk_same x.plan x.parts [] x.lengths x.places x.body first s 8 i 0 (get_or x.lengths (2 * (first + i)) 0) c

  dictionary_same : (i : ℕ) (c : List ℕ) → open_dictionary x i c ≡ open_dictionary (unplaced x) i c
  unfolding open_dictionary join_entries entries_hold keys_hold
  dictionary_same i c =
      ap (λ f. cond (eqb (dictionary_of x.plan i) 0) (done c) (need (entries_hold x i) 6 c (next (cond (eqb (word x.plan i 7) 0) (done c) (each f (source_count x.plan) 0 c)) (λ c2. need (keys_hold x i) 8 c2 (done c2)))))
      (fun_ext (λ s. fun_ext (λ c2. source_same (suc i) s c2)))

  pub open_same : (c : List ℕ) → open_walk_of x c ≡ open_walk_of (unplaced x) c
  unfolding open_walk_of begin_gaps first_offset
  open_same c =
      ap (λ f. next (each (begin_gaps x) (nodes_of x.plan) 0 c) (λ c1. next (each (first_offset x) (nodes_of x.plan) 0 c1) (λ c2. each f (nodes_of x.plan) 0 c2)))
      (fun_ext (λ i. fun_ext (λ c2. dictionary_same i c2)))

module _ (formats schema sources : List ℕ) (x : Tables) (keep gaps : Bool) (parts plan counters room : List ℕ) where
  abbrev lends : Lent
  lends = opened formats schema sources x keep gaps parts

  -- THE QUESTION OF AN OPENING HAS ITS GROUND, where 9 to 12 and 14 do not stand
  pub open_asked : leb (length room) ceiling ≡ true → sources_ground formats schema x sources ≡ 0 → room_placed formats schema sources x keep gaps parts plan counters room ≡ true
      → source_count lends.plan ≤ 16 → length counters ≡ 96
      → (opening formats schema sources x keep gaps parts plan counters room).refusal ≡ ground_by lends (open_measure (unplaced lends) counters)
  unfolding opening start.settled open_measure
  open_asked l s p few h =
      let o = open_walk_of lends (replicate 96 0) in
      rw (l, eq-eqb (sources_ground formats schema x sources) 0 s, p, eq-eqb (length counters) 96 h, le-leb (source_count lends.plan) 16 few, (stood formats schema x sources s keep gaps).sound)
      (go o (eqb o.ans 0) (parts_hold lends.plan o.counters parts) refl refl ∙ by_walk lends.plan parts counters o ∙ ap (λ z. ground_by lends (measured counters z)) (open_same lends (replicate 96 0)))
    where
      go : (o : Out) (t b : Bool) → eqb o.ans 0 ≡ t → parts_hold lends.plan o.counters parts ≡ b
          → (start.settled formats schema sources x keep gaps parts plan counters room o).refusal ≡ cond (eqb o.ans 0) (cond (parts_hold lends.plan o.counters parts) 0 13) o.ans
      go o true true e f = rw (e, f)
      go o true false e f = rw (e, f)
      go o false b e f = rw e

-- ---- parts of the bytes that are answered

every_all : (p : ℕ → Bool) (n : ℕ) → ((i : ℕ) → i < n → p i ≡ true) → every p n ≡ true
every_all p zero h = refl
every_all p (suc n) h = rw (every_all p n (λ i l. h i (omega arith)), h n (omega arith))

only : (b q : Bool) → (b ≡ true → q ≡ true) → only_if b q ≡ true
only true q h = h refl
only false q h = refl

-- PARTS OF THE BYTES THAT ARE ANSWERED HOLD: a part that lies in a room has fewer bytes than the largest number
pub asked_hold : (plan counters parts : List ℕ) → Numbered plan → ((p : ℕ) → size_at parts p < top) → ((p : ℕ) → p < part_total plan → needed_bytes plan counters p ≤ size_at parts p)
    → parts_hold plan counters parts ≡ true
unfolding parts_hold part_holds needed_bytes
asked_hold plan counters parts numbers small h = every_all _ (nodes_of plan) (λ i l. every_all _ 3 (λ b k. only (has_part plan i b) _ (λ t. le-leb _ _ (held i b (record { node = l; part = t })))))
  where
    held : (i b : ℕ) → Used plan i b → needed plan counters i b ≤ size_at parts (number_of plan i b)
    held i b u =
        let p = number_of plan i b in
        let q : min (needed_in plan counters (part_at plan p)) top ≤ size_at parts p = h p (number_below plan numbers u) in
        let e : needed_in plan counters (part_at plan p) ≡ needed plan counters i b = ap (needed_in plan counters) (part_named plan numbers u) in
        omega (arith, q, e, small p)
