-- What is asked before room is lent: the ground and the counters that an order comes to in a room that is large enough. Assumes nothing.
use Rattle.std.specs.Prelude.{cond, ◌&&◌, List, ℕ, ◌-◌, min, length, leb, ltb, eqb}
use Rattle.walk.specs.State.{keeps_of, far, top}
use Rattle.walk.specs.Log.{Out}
use Rattle.walk.specs.Copy.{copy_walk}
use Rattle.walk.specs.Nulls.{null_walk}
use Rattle.plan.specs.parts.Parts.{part_at, needed}
use Rattle.plan.specs.declared.parts.Spot.{Spot}
use Rattle.std.specs.Prelude.{Option, Some, None}
use Rattle.refinement.specs.orders.Sound.{plan_sound}
use Rattle.refinement.specs.orders.Order.{Lent, join_of, source_count, source_length}

-- ground: 0, or the number of the refusal
pub record Measured : Type 0 where
  pub refusal : ℕ
  pub counters : List ℕ

module _ (counters : List ℕ) where
  -- the counters stay
  abbrev pub unmeasured : ℕ → Measured
  unmeasured g = record { refusal = g; counters = counters }

  -- a walk, with no part asked and no byte written
  unfoldable pub measured : Out → Measured
  measured o = cond (eqb o.ans 0) (record { refusal = 0; counters = o.counters }) (unmeasured o.ans)

  module _ (x : Lent) where
    -- `copyOrder` without 13 and 14 of the parts
    unfoldable pub copy_measure : ℕ → ℕ → ℕ → Measured
    copy_measure s a e =
        cond (eqb (length counters) 96)
        (cond (plan_sound x.plan)
        (cond (ltb s (source_count x.plan))
        (cond (leb a e && leb e (source_length x s)) (measured (copy_walk (join_of x s) 8 0 a (e - a) counters)) (unmeasured 2))
        (unmeasured 1))
        (unmeasured 14))
        (unmeasured 14)

    -- `nullOrder` without them
    unfoldable pub null_measure : ℕ → Measured
    null_measure n =
        cond (eqb (length counters) 96)
        (cond (plan_sound x.plan)
        (cond (eqb (keeps_of x.plan 0) 0) (unmeasured 3) (measured (null_walk (join_of x 0) 8 0 (min n far) counters)))
        (unmeasured 14))
        (unmeasured 14)

-- ---- the bytes that a part must hold, by the counters: 0 where there is no such part

abbrev pub needed_in : List ℕ → List ℕ → Option Spot → ℕ
needed_in plan counters (Some s) = needed plan counters s.node s.buffer
needed_in plan counters None = 0

-- the largest number of 64 bits where there are more: no part holds as many
unfoldable pub needed_bytes : List ℕ → List ℕ → ℕ → ℕ
needed_bytes plan counters p = min (needed_in plan counters (part_at plan p)) top
