-- What a caller sees of an order. Assumes nothing.
use Rattle.std.specs.Prelude.{◌≡◌, List, ℕ}
use Rattle.clauses.specs.Slices.{was, began, left, Slice, MutSlice}
use Rattle.walk.specs.State.{slot_of}
use Rattle.walk.specs.Log.{Out}
use Rattle.walk.specs.Copy.{copy_walk}
use Rattle.leaf_walk.specs.Join.{join}
use Rattle.leaf_walk.specs.Walks.{lent_join}
use Rattle.refinement.specs.orders.Order.{After, Lent, settled}
pub use Rattle.refinement.specs.orders.Order.{lent}

-- the ground that is answered, and the counters and the room as they are left
pub record Answers (a : After) (r : ℕ) (tally bytes : List ℕ) : Type 0 where
  pub refusal : r ≡ a.refusal
  pub counters : tally ≡ a.counters
  pub room : bytes ≡ a.room

-- .. where a walk from the counters as they are lent settles the order
abbrev pub Settles : Lent → (List ℕ → Out) → (counters room : MutSlice) → ℕ → Type 0
Settles l walk counters room r = Answers (settled l (began counters) (began room) (walk (began counters))) r (left counters) (left room)

-- .. by the walk of a copy of the rows start .. start + n - 1, whatever the other sources are
abbrev pub Copies : (plan parts lengths places body : Slice) (first source start n : ℕ) (counters room : MutSlice) → ℕ → Type 0
Copies plan parts lengths places body first source start n counters room r =
    (sources : List ℕ) → Settles (lent (was plan) (was parts) sources (was lengths) (was places) (was body)) (copy_walk (lent_join plan parts lengths places body first source) 8 0 start n) counters room r

-- .. and whichever source it is: no base is read
abbrev pub CopiesAny : (plan parts lengths places body : Slice) (first start n : ℕ) (counters room : MutSlice) → ℕ → Type 0
CopiesAny plan parts lengths places body first start n counters room r =
    (sources : List ℕ) (source : ℕ) → Settles (lent (was plan) (was parts) sources (was lengths) (was places) (was body)) (copy_walk (lent_join plan parts lengths places body first source) 8 0 start n) counters room r

-- .. of n slots of node i from `slot` on, whatever the lengths are by which they are those
abbrev pub CopiesAt : (plan parts places body : Slice) (first i slot n : ℕ) (counters room : MutSlice) → ℕ → Type 0
CopiesAt plan parts places body first i slot n counters room r =
    (sources lengths : List ℕ) (source start : ℕ) → let j = join (was plan) (was parts) lengths (was places) (was body) first source in
    slot ≡ slot_of j i start n → Settles (lent (was plan) (was parts) sources lengths (was places) (was body)) (copy_walk j 8 i start n) counters room r
