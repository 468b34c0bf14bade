-- What the functions that look for a stop of nulls cite beside its definition. Assumes nothing.
use Rattle.std.specs.Prelude.{◌≡◌, List, [], ℕ}
use Rattle.clauses.specs.Slices.{was, Slice}
use Rattle.walk.specs.State.{Join}
use Rattle.walk.specs.Log.{Out}
use Rattle.leaf_walk.specs.Join.{join}
use Rattle.explain.specs.declared.stops.Why.{Why}
use Rattle.explain.specs.stops.Why.{nothing}
use Rattle.explain.specs.stops.Nulls.{why_nulls}
use Rattle.explain.specs.declared.nulls.NullStep.{NullStep}
use Rattle.explain.specs.declared.nulls.NullStep.TheVariants.{On, Here, Below}

-- what stops an order of nulls, by what a node says of it and the counters then
abbrev pub why_after : Join → ℕ → NullStep → List ℕ → Why
why_after x depth On c = nothing
why_after x depth (Here w) c = w
why_after x depth (Below k n) c = why_nulls x depth k n c

-- .. whatever the parts are, which are not read
abbrev pub AnyParts : Slice → (Join → ℕ → Type 0) → Type 0
AnyParts plan P = (parts : List ℕ) (depth : ℕ) → P (join (was plan) parts [] [] [] 0 0) depth

-- of a child that is walked: it goes on, with the counters after it, or is refused, and w is what stops it
abbrev pub Row : Out → Why → Join → ℕ → NullStep → List ℕ → Type 0
Row o w x depth On c = (o.ans ≡ 0) × (c ≡ o.counters)
Row o w x depth (Here v) c = (o.ans ≡ 0 → ⊥) × (w ≡ v)
Row o w x depth (Below k n) c = (o.ans ≡ 0 → ⊥) × (w ≡ why_nulls x depth k n c)

pub record RowSays (o : Out) (w : Why) (x : Join) (depth : ℕ) (s : NullStep) (c : List ℕ) : Type 0 where
  pub row : Row o w x depth s c
