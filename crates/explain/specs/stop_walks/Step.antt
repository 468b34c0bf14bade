-- What the functions that look for a stop cite beside its definition. Assumes nothing.
use Rattle.std.specs.Prelude.{◌≡◌, cond, List, ℕ, eqb}
use Rattle.clauses.specs.Slices.{was, Slice}
use Rattle.walk.specs.State.{Join}
use Rattle.walk.specs.Log.{Out}
use Rattle.walk.specs.Copy.{Walk, copy_walk}
use Rattle.leaf_walk.specs.Join.{join}
use Rattle.explain.specs.declared.stops.Why.{Why}
use Rattle.explain.specs.stops.Why.{nothing}
use Rattle.explain.specs.stops.Copy.{WhyWalk, why_copy}
use Rattle.explain.specs.declared.stop_walks.Step.{Step}
use Rattle.explain.specs.declared.stop_walks.Step.TheVariants.{On, Here, Below}

-- a walk that only tries: its answer g, and the counters c2 after it, which are c where it is refused
pub record Tried (o : Out) (c : List ℕ) (g : ℕ) (c2 : List ℕ) : Type 0 where
  pub answer : g ≡ o.ans
  pub counters : c2 ≡ cond (eqb g 0) o.counters c

-- what stops a copy, by what a node says of it and the counters then
abbrev pub why_after : Join → ℕ → Step → List ℕ → Why
why_after x depth On c = nothing
why_after x depth (Here w) c = w
why_after x depth (Below k a n) c = why_copy x depth k a n c

-- a node's own `why`, over its children's, says what the step r says
abbrev pub Says : Join → ℕ → (Walk → WhyWalk → List ℕ → Why) → List ℕ → Step → List ℕ → Type 0
Says x depth why c r c2 = why (copy_walk x depth) (why_copy x depth) c ≡ why_after x depth r c2

-- .. whatever the parts are, which are not read
abbrev pub AnyParts : (plan lengths places body : Slice) → ℕ → (Join → ℕ → Type 0) → Type 0
AnyParts plan lengths places body first P =
    (parts : List ℕ) (source depth : ℕ) → P (join (was plan) parts (was lengths) (was places) (was body) first source) depth

-- .. and the lengths
abbrev pub AnyTables : (plan places body : Slice) → ℕ → (Join → ℕ → Type 0) → Type 0
AnyTables plan places body first P = (parts lengths : List ℕ) (source depth : ℕ) → P (join (was plan) parts lengths (was places) (was body) first source) depth

-- of a row or a child that is walked: it goes on, with the counters after it, or is refused, and w is what stops it
abbrev pub Row : Out → Why → Join → ℕ → Step → List ℕ → Type 0
Row o w x depth On c = (o.ans ≡ 0) × (c ≡ o.counters)
Row o w x depth (Here v) c = (o.ans ≡ 0 → ⊥) × (w ≡ v)
Row o w x depth (Below k a n) c = (o.ans ≡ 0 → ⊥) × (w ≡ why_copy x depth k a n c)

pub record RowSays (o : Out) (w : Why) (x : Join) (depth : ℕ) (s : Step) (c : List ℕ) : Type 0 where
  pub row : Row o w x depth s c

-- .. of row r of node i, walked and looked at over the children's walks
abbrev pub RowAt : Join → ℕ → (Walk → ℕ → ℕ → ℕ → List ℕ → Out) → (Walk → WhyWalk → ℕ → ℕ → ℕ → List ℕ → Why) → ℕ → ℕ → ℕ → List ℕ → Step → List ℕ → Type 0
RowAt x depth walk why i slot r c s c2 = RowSays (walk (copy_walk x depth) i slot r c) (why (copy_walk x depth) (why_copy x depth) i slot r c) x depth s c2
