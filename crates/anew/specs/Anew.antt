-- What a call that writes one column anew comes to on lent memory: the ground, and the plan, the counters and the room after it (02, W1:
-- "Here and in later calls that write one column anew outside a join .."). It leaves what an opening leaves, with rows in it, and
-- `finishing` finishes it. Assumes nothing.
use Rattle.std.specs.Prelude.{Bool, cond, ◌&&◌, List, ℕ, length, eqb}
use Rattle.array_data.specs.Tables.{Tables}
use Rattle.walk.specs.Log.{Out, apply}
use Rattle.columns.specs.Grounds.{small_body, column_ground}
use Rattle.plan.specs.parts.Parts.{part_total, parts_placed, parts_hold}
use Rattle.refinement.specs.opening.Open.{Opening}

-- how many numbers a plan and the counters of a join have
abbrev pub plan_words : ℕ
plan_words = 872

abbrev pub counter_words : ℕ
counter_words = 96

-- the first of two grounds that stands; 0 where neither does
abbrev pub or_else : ℕ → ℕ → ℕ
or_else g h = cond (eqb g 0) h g

-- what a question before any room is lent leaves
pub record Asking : Type 0 where
  pub refusal : ℕ
  pub plan : List ℕ
  pub counters : List ℕ

-- plan and counters, of so many numbers, are a join's
unfoldable pub join_lengths : ℕ → ℕ → Bool
join_lengths plan counters = eqb plan plan_words && eqb counters counter_words

-- 14 or 13 of the parts that are lent for a result with this plan and these counters, where plan, counters and room have so many numbers and
-- bytes; 0 where it can be written
unfoldable pub room_ground : (made tally parts : List ℕ) (plan counters room : ℕ) → ℕ
room_ground made tally parts plan counters room =
    cond (join_lengths plan counters && parts_placed parts (part_total made) room) (cond (parts_hold made tally parts) 0 13) 14

-- the column of n nodes from node `first` on, the first of the call's own grounds before its walk or 0, the plan of the result, and the
-- walk that fills it
module _ (formats schema : List ℕ) (x : Tables) (first n own : ℕ) (made : List ℕ) (walk : Out) where
  -- "A call that reads one column outside a join meets 9, 10 and 12 for a malformed column before any ground of its own"; then those of the
  -- call, and 6, 7, 8 as its walk meets them
  unfoldable pub ahead : ℕ
  ahead = or_else (column_ground formats schema x first n) (or_else own walk.ans)

  -- THE QUESTION: 14 where plan and counters are not a join's
  unfoldable pub asking : (plan counters : List ℕ) → Asking
  asking plan counters =
      cond (eqb ahead 0)
      (cond (join_lengths (length plan) (length counters)) (record { refusal = 0; plan = made; counters = walk.counters }) (record { refusal = 14; plan = plan; counters = counters }))
      (record { refusal = ahead; plan = plan; counters = counters })

  module _ (parts plan counters room : List ℕ) where
    -- "State and every byte stay."
    abbrev pub unchanged : ℕ → Opening
    unchanged g = record { refusal = g; plan = plan; counters = counters; room = room }

    -- the result as it is written
    abbrev pub written : Opening
    written = record { refusal = 0; plan = made; counters = walk.counters; room = apply made parts walk.log room }

    -- the first ground that stands: 14 just before 13, behind all that is asked before room is
    abbrev pub ground_of : ℕ
    ground_of = or_else ahead (room_ground made walk.counters parts (length plan) (length counters) (length room))

    -- THE CALL: 9 where the room, which is a body too, is too large
    unfoldable pub anew : Opening
    anew = cond (small_body room) (cond (eqb ground_of 0) written (unchanged ground_of)) (unchanged 9)
