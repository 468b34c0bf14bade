-- What a function that walks says of the slices that it is lent. Assumes nothing.
use Rattle.std.specs.Prelude.{Bool, List, [], ℕ}
use Rattle.clauses.specs.Slices.{was, began, left, Slice, MutSlice}
use Rattle.walk.specs.State.{Join}
use Rattle.walk.specs.Log.{Out, Did}
use Rattle.leaf_walk.specs.Join.{join}

-- what an order is carried out with
abbrev pub lent_join : (plan parts lengths places body : Slice) (first source : ℕ) → Join
lent_join plan parts lengths places body first source = join (was plan) (was parts) (was lengths) (was places) (was body) first source

-- .. where no source is read
abbrev pub null_join : (plan parts : Slice) → Join
null_join plan parts = join (was plan) (was parts) [] [] [] 0 0

-- .. whatever the lengths are, which are not read
abbrev pub AnyLengths : (plan parts places body : Slice) → ℕ → (Join → Type 0) → Type 0
AnyLengths plan parts places body first P = (lengths : List ℕ) (source : ℕ) → P (join (was plan) (was parts) lengths (was places) (was body) first source)

-- .. whatever the source is, of which nothing is read
abbrev pub AnySource : (plan parts : Slice) → (Join → Type 0) → Type 0
AnySource plan parts P = (lengths places body : List ℕ) (first source : ℕ) → P (join (was plan) (was parts) lengths places body first source)

-- the walk from the counters as they are lent: its answer g, and the counters and the room as they are left
abbrev pub Walks : (plan parts : Slice) → Bool → (List ℕ → Out) → (counters room : MutSlice) → ℕ → Type 0
Walks plan parts write walk counters room g = Did (was plan) (was parts) write (walk (began counters)) (began room) g (left counters) (left room)
