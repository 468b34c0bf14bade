-- What an order comes to on lent memory: the ground, and the counters and the room after it. Assumes nothing.
-- `try_extend` and `try_extend_nulls` of arrow-data 60.1.0 src/transform/mod.rs, Apache-2.0; see NOTICE.
use Rattle.std.specs.Prelude.{Bool, cond, ◌&&◌, List, [], ◌∷◌, ℕ, ◌+◌, ◌*◌, ◌-◌, min, length, get_or, leb, ltb, eqb}
use Rattle.walk.specs.State.{Join, keeps_of, far}
use Rattle.walk.specs.Log.{Out, apply}
use Rattle.walk.specs.Copy.{copy_walk}
use Rattle.walk.specs.Nulls.{null_walk}
use Rattle.plan.specs.parts.Parts.{parts_within, parts_hold}
use Rattle.model.specs.Book.{Call, copy, nulls}
use Rattle.refinement.specs.orders.Sound.{walkable}

-- ground: 0, or the number of the refusal
pub record After : Type 0 where
  pub refusal : ℕ
  pub counters : List ℕ
  pub room : List ℕ

-- how many sources the plan was made for
abbrev pub source_count : List ℕ → ℕ
source_count plan = get_or plan 864 0

-- what is lent to every order: the plan, the parts, the sources and their tables
pub record Lent : Type 0 where
  pub plan : List ℕ
  pub parts : List ℕ
  pub sources : List ℕ
  pub lengths : List ℕ
  pub places : List ℕ
  pub body : List ℕ

-- the slices that are lent to a call
abbrev pub lent : List ℕ → List ℕ → List ℕ → List ℕ → List ℕ → List ℕ → Lent
lent plan parts sources lengths places body = record { plan = plan; parts = parts; sources = sources; lengths = lengths; places = places; body = body }

-- .. with source s chosen
abbrev pub join_of : Lent → ℕ → Join
join_of x s =
    record { plan = x.plan; parts = x.parts; lengths = x.lengths; places = x.places; body = x.body; first = get_or x.sources (2 * s) 0; source = s }

-- the length of source s
abbrev pub source_length : Lent → ℕ → ℕ
source_length x s = get_or x.lengths (2 * get_or x.sources (2 * s) 0) 0

module _ (x : Lent) (counters room : List ℕ) where
  -- "State and every byte stay."
  abbrev pub refused : ℕ → After
  refused g = record { refusal = g; counters = counters; room = room }

  -- a walk without a ground is made where every part lies in the room, 14, and holds its bytes after the call, "13 last"
  unfoldable pub settled : Out → After
  settled o =
      cond (eqb o.ans 0)
      (cond (parts_within x.plan x.parts (length room))
      (cond (parts_hold x.plan o.counters x.parts) (record { refusal = 0; counters = o.counters; room = apply x.plan x.parts o.log room }) (refused 13))
      (refused 14)) (refused o.ans)

  -- 14 where the counters are not those of a join, or the plan or the room is none that an order can be walked in
  abbrev pub in_join : After → After
  in_join a = cond (eqb (length counters) 96) (cond (walkable x.plan (length room)) a (refused 14)) (refused 14)

  -- "Copy: 1, 2, then as the Rust meets them .., 13 last"
  unfoldable pub copy_order : ℕ → ℕ → ℕ → After
  copy_order s a e =
      in_join
      (cond (ltb s (source_count x.plan)) (cond (leb a e && leb e (source_length x s)) (settled (copy_walk (join_of x s) 8 0 a (e - a) counters)) (refused 2)) (refused 1))

  -- "Nulls: 3, count 0 accepted, then .., 13 last". No part holds 2^63 rows, and no ground but 13 tells apart larger counts.
  unfoldable pub null_order : ℕ → After
  null_order n = in_join (cond (eqb (keeps_of x.plan 0) 0) (refused 3) (settled (null_walk (join_of x 0) 8 0 (min n far) counters)))

  -- one call
  abbrev pub ordered : Call → After
  ordered (copy s a e) = copy_order s a e
  ordered (nulls n) = null_order n

-- ANY LIST OF CALLS, each getting counters and room as the last one left them
unfoldable pub ordered_all : Lent → List ℕ → List ℕ → List Call → After
ordered_all x counters room [] = record { refusal = 0; counters = counters; room = room }
ordered_all x counters room (o ∷ os) = ordered_all x (ordered x counters room o).counters (ordered x counters room o).room os

-- what each of them is answered
unfoldable pub grounds_of : Lent → List ℕ → List ℕ → List Call → List ℕ
grounds_of x counters room [] = []
grounds_of x counters room (o ∷ os) = (ordered x counters room o).refusal ∷ grounds_of x (ordered x counters room o).counters (ordered x counters room o).room os
