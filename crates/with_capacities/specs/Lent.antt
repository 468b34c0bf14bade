-- What contracts say of all that a call is lent, and of walks on it. Assumes nothing.
use Rattle.std.specs.Prelude.{Bool, true, List, ℕ, replicate}
use Rattle.clauses.specs.Slices.{was, began, left, Slice, MutSlice}
use Rattle.walk.specs.Log.{Out, Did}
use Rattle.refinement.specs.orders.Order.{Lent, lent}

-- all as it is at the call
abbrev pub lent_all : (plan parts sources lengths places body : Slice) → Lent
lent_all plan parts sources lengths places body = lent (was plan) (was parts) (was sources) (was lengths) (was places) (was body)

-- .. whatever the sources are, of which only one is read, by its place
abbrev pub AnySources : (plan parts lengths places body : Slice) → (Lent → Type 0) → Type 0
AnySources plan parts lengths places body P = (sources : List ℕ) → P (lent (was plan) (was parts) sources (was lengths) (was places) (was body))

-- .. whatever they and their tables are, of which nothing is read
abbrev pub AnyLent : (plan parts : Slice) → (Lent → Type 0) → Type 0
AnyLent plan parts P = (sources lengths places body : List ℕ) → P (lent (was plan) (was parts) sources lengths places body)

-- a walk o that only writes: its answer g and the room as it is left; the counters c stay as they are
abbrev pub Stays : (plan parts : Slice) → Bool → Out → (room : MutSlice) → ℕ → List ℕ → Type 0
Stays plan parts write o room g c = Did (was plan) (was parts) write o (began room) g c (left room)

-- .. from any counters
abbrev pub Writes : (plan parts : Slice) → Bool → (List ℕ → Out) → (room : MutSlice) → ℕ → Type 0
Writes plan parts write walk room g = (c : List ℕ) → Stays plan parts write (walk c) room g c

-- a walk that writes, from counters of 0
abbrev pub Begins : (plan parts : Slice) → (List ℕ → Out) → (counters room : MutSlice) → ℕ → Type 0
Begins plan parts walk counters room g = Did (was plan) (was parts) true (walk (replicate 96 0)) (began room) g (left counters) (left room)
