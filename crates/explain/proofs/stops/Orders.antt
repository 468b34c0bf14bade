-- WHAT STOPS AN ORDER has the order's ground, whatever is lent, and is a row of the table. Assumes nothing.
use mathlib.Core.Path.{◌≡◌, refl, sym, ap, subst, ◌∙◌}
use mathlib.Core.Bool.{Bool, true, false, cond, ◌&&◌}
use mathlib.Core.List.{List}
use Prim.Native.Nat.{ℕ, ◌+◌, ◌-◌, ◌≤◌, ◌<◌, min}
use native.Mathlib.Omega.{arith}
use lib.ListN.{length}
use lib.Dec.{leb, ltb, eqb}
use borrow.Author.Tests.{leb-true, eqb-false}
use Rattle.array_data.proofs.lent_tables.Laws.{and_left}
use Rattle.walk.specs.State.{keeps_of, rows, far, top}
use Rattle.walk.specs.Log.{Out, apply}
use Rattle.walk.specs.Copy.{copy_walk}
use Rattle.walk.specs.Nulls.{null_walk}
use Rattle.plan.specs.parts.Parts.{parts_within, parts_hold}
use Rattle.model.specs.Book.{Call, copy, nulls}
use Rattle.refinement.specs.orders.Sound.{plan_sound, walkable}
use Rattle.columns.specs.Grounds.{ceiling}
use Rattle.refinement.specs.orders.Order.{After, Lent, join_of, source_count, source_length, refused, settled, copy_order, null_order, ordered}
use Rattle.explain.specs.declared.stops.Why.{Why}
use Rattle.explain.specs.stops.Why.{only, nothing, unless, past}
use Rattle.explain.specs.stops.Copy.{why_copy}
use Rattle.explain.specs.stops.Nulls.{walked, why_nulls}
use Rattle.explain.specs.stops.Parts.{why_parts}
use Rattle.explain.specs.stops.Order.{why_settled, why_copy_order, why_null_order, why_order}
use Rattle.explain.specs.stops.Table.{Blank, accepted, no_source, no_rows, keeps_no_nulls, not_placed, Stated, blank}
use Rattle.explain.proofs.stops.Says.{Says}
use Rattle.explain.proofs.stops.Copies.{copy_says}
use Rattle.explain.proofs.stops.NullOrders.{nulls_say}
use Rattle.explain.proofs.stops.Shorts.{parts_ground, parts_stated}

-- the explanation has the order's ground, and is a row of the table
pub record Tells (w : Why) (a : After) : Type 0 where
  pub refusal : w.refusal ≡ a.refusal
  pub table : Stated w

module _ (x : Lent) (counters room : List ℕ) where
  abbrev m : ℕ
  m = length room

  abbrev Goes : Why → After → Type 0
  Goes w a = walkable x.plan m ≡ true → Tells w a

  refused_tells : (g : ℕ) → Blank g → Tells (only g) (refused x counters room g)
  refused_tells g b = record { refusal = refl; table = blank g b }

  small : walkable x.plan m ≡ true → m < top
  unfolding walkable
  small h = let l = leb-true m ceiling (and_left (leb m ceiling) (plan_sound x.plan) h) in omega (arith, l)

  -- a walk, then 14 and 13
  settled_tells : (n : ℕ) (o : Out) (w : Why) → Says w o → Goes (why_settled x m counters n o w) (settled x counters room o)
  unfolding why_settled settled past unless
  settled_tells n o w s h = go (eqb o.ans 0) (parts_within x.plan x.parts m) refl
    where
      held : Bool → After
      held b = cond b (record { refusal = 0; counters = o.counters; room = apply x.plan x.parts o.log room }) (refused x counters room 13)

      held_ground : (b : Bool) → cond b 0 13 ≡ (held b).refusal
      held_ground true = refl
      held_ground false = refl

      short : Why
      short = why_parts x.plan o.counters x.parts (rows counters 0 + n)

      go : (a b : Bool) → parts_within x.plan x.parts m ≡ b
          → Tells (cond a (cond b short (only 14)) w) (cond a (cond b (held (parts_hold x.plan o.counters x.parts)) (refused x counters room 14)) (refused x counters room o.ans))
      go true true e =
          record {
            refusal = parts_ground x.plan o.counters x.parts (rows counters 0 + n) ∙ held_ground (parts_hold x.plan o.counters x.parts);
            table = parts_stated x.plan o.counters x.parts (rows counters 0 + n) m (small h) e;
          }
      go true false e = refused_tells 14 not_placed
      go false b e = record { refusal = s.refusal; table = s.table }

  pub copy_tells : (s a e : ℕ) → Tells (why_copy_order x m counters s a e) (copy_order x counters room s a e)
  unfolding why_copy_order copy_order unless
  copy_tells s a e = go (eqb (length counters) 96) (walkable x.plan m) (ltb s (source_count x.plan)) (leb a e && leb e (source_length x s)) refl
    where
      o : Out
      o = copy_walk (join_of x s) 8 0 a (e - a) counters

      w : Why
      w = why_copy (join_of x s) 8 0 a (e - a) counters

      go : (p q r t : Bool) → walkable x.plan m ≡ q
          → Tells (cond p (cond q (cond r (cond t (why_settled x m counters (e - a) o w) (only 2)) (only 1)) (only 14)) (only 14))
          (cond p (cond q (cond r (cond t (settled x counters room o) (refused x counters room 2)) (refused x counters room 1)) (refused x counters room 14)) (refused x counters room 14))
      go true true true true h = settled_tells (e - a) o w (copy_says (join_of x s) 8 0 a (e - a) counters) h
      go true true true false h = refused_tells 2 no_rows
      go true true false t h = refused_tells 1 no_source
      go true false r t h = refused_tells 14 not_placed
      go false q r t h = refused_tells 14 not_placed

  pub nulls_tell : (n : ℕ) → Tells (why_null_order x m counters n) (null_order x counters room n)
  unfolding why_null_order null_order unless
  nulls_tell n = go (eqb (length counters) 96) (walkable x.plan m) (eqb (keeps_of x.plan 0) 0) refl
    where
      o : Out
      o = null_walk (join_of x 0) 8 0 (walked n) counters

      w : Why
      w = why_nulls (join_of x 0) 8 0 n counters

      go : (p q r : Bool) → walkable x.plan m ≡ q
          → Tells (cond p (cond q (cond r (only 3) (why_settled x m counters n o w)) (only 14)) (only 14))
          (cond p (cond q (cond r (refused x counters room 3) (settled x counters room o)) (refused x counters room 14)) (refused x counters room 14))
      go true true true h = refused_tells 3 keeps_no_nulls
      go true true false h = settled_tells n o w (nulls_say (join_of x 0) 8 0 n counters) h
      go true false r h = refused_tells 14 not_placed
      go false q r h = refused_tells 14 not_placed

  -- THE THEOREM, for any call
  pub order_tells : (o : Call) → Tells (why_order x m counters o) (ordered x counters room o)
  order_tells (copy s a e) = copy_tells s a e
  order_tells (nulls n) = nulls_tell n
