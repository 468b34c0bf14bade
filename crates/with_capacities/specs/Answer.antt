-- What a caller sees of an opening. Assumes nothing.
use Rattle.std.specs.Prelude.{◌≡◌, Bool, List, ℕ}
use Rattle.clauses.specs.Slices.{was, began, left, Slice, MutSlice}
use Rattle.array_data.specs.Tables.{Tables}
use Rattle.source_rules.specs.kinds.Rows.{tables_of}
use Rattle.walk.specs.Log.{Out, Did}
use Rattle.plan.specs.Plan.{planned}
use Rattle.refinement.specs.orders.Order.{Lent, lent}
use Rattle.refinement.specs.opening.Open.{Opening, settled}
use Rattle.refinement.specs.opening.Ask.{Asked}

-- the ground that is answered, and the plan, the counters and the room as they are left
pub record Answers (a : Opening) (r : ℕ) (words tally bytes : List ℕ) : Type 0 where
  pub refusal : r ≡ a.refusal
  pub plan : words ≡ a.plan
  pub counters : tally ≡ a.counters
  pub room : bytes ≡ a.room

-- .. of a call that is lent all three
abbrev pub Makes : (List ℕ → List ℕ → List ℕ → Opening) → (plan counters room : MutSlice) → ℕ → Type 0
Makes make plan counters room r = Answers (make (began plan) (began counters) (began room)) r (left plan) (left counters) (left room)

-- .. of a draft: it is the plan of some opening, which the walk o settles
abbrev pub MakesDraft : (draft parts sources lengths places body : Slice) → Out → (plan counters room : MutSlice) → ℕ → Type 0
MakesDraft draft parts sources lengths places body o plan counters room r =
    (formats schema buffers : List ℕ) (keep gaps : Bool) →
    was draft ≡ planned formats schema (tables_of (was lengths) (was places) buffers (was body)) (was sources) keep gaps →
    Makes (λ p c m. settled formats schema (was sources) (tables_of (was lengths) (was places) buffers (was body)) keep gaps (was parts) p c m o) plan counters room r

-- a walk that only counts, whatever else is lent
abbrev pub OnlyCounts : (plan : Slice) (counters : MutSlice) → (Lent → List ℕ → Out) → Type 0
OnlyCounts plan counters walk =
    (parts sources lengths places body room : List ℕ) (write : Bool) → Did (was plan) parts write (walk (lent (was plan) parts sources lengths places body) (began counters)) room 0 (left counters) room

-- the tables that a call is lent
abbrev pub lent_tables : (lengths places buffers body : Slice) → Tables
lent_tables lengths places buffers body = tables_of (was lengths) (was places) (was buffers) (was body)

-- the ground that is answered, and the plan as it is left
pub record Plans (a : Asked) (r : ℕ) (words : List ℕ) : Type 0 where
  pub refusal : r ≡ a.refusal
  pub plan : words ≡ a.plan
