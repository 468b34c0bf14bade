-- What the opening has found of the sources of a join before any order: 01's type, ceilings and source rules, and that all stand in
-- one lent body. Assumes nothing.
use Rattle.std.specs.Prelude.{◌≡◌, List, [], ◌∷◌, ℕ, zero, suc, ◌≤◌, ◌<◌, length, take, drop}
use Rattle.std.proofs.Math.Option.{Option, none, some}
use Rattle.columnar.specs.Types.{Plain, fixed, string, Ty}
use Rattle.columnar.specs.Formed.{Formed}
use Rattle.columnar.specs.Array.{Array, null_count_of}
use Rattle.columnar.specs.Plain.{PlainBody}
use Rattle.columnar.specs.View.{Views}
use Rattle.columnar.specs.Dictionary.{Dictionary}
use Rattle.columnar.specs.Reading.{Body, Column, Source}
use Rattle.columnar.specs.Kids.{Below, body_down}

-- at every view node
abbrev pub EachView : (Views → Type 0) → (t : Ty) → Body t → Type 0
EachView Q = Below {X = Body} body_down Q (λ n p b. Unit {0})

-- at every dictionary node
abbrev pub EachDictionary : ((p : Plain) → Dictionary (PlainBody p) → Type 0) → (t : Ty) → Body t → Type 0
EachDictionary Q = Below {X = Body} body_down (λ b. Unit {0}) (λ n. Q)

-- a buffer is the stretch of the body from a position on
abbrev pub Stretch : List ℕ → ℕ → List ℕ → Type 0
Stretch body at s = s ≡ take (length s) (drop at body)

-- the buffers of an array of plain values begin at these positions
abbrev pub Buffers : List ℕ → (p : Plain) → PlainBody p → List ℕ → Type 0
Buffers body (fixed n) b [] = ⊥
Buffers body (fixed n) b (at ∷ l) = Stretch body at b
Buffers body (string w) b [] = ⊥
Buffers body (string w) b (at ∷ []) = ⊥
Buffers body (string w) b (at ∷ too ∷ l) = Stretch body at b.offsets × Stretch body too b.chars

-- the validity begins one before this position; 0 where no row is null
abbrev pub ValidFrom : {B : Type 0} → List ℕ → Array B → ℕ → Type 0
ValidFrom body v zero = null_count_of v ≡ 0
ValidFrom body v (suc at) = (m : List ℕ) × ((v.valid ≡ some m) × Stretch body at m)

-- "All sources are described by positions in one lent body": `starts` has where the values' validity begins, then their buffers
abbrev pub StandsFrom : List ℕ → (p : Plain) → Array (PlainBody p) → List ℕ → Type 0
StandsFrom body p v [] = ⊥
StandsFrom body p v (at ∷ l) = ValidFrom body v at × Buffers body p v.body l

abbrev pub Stands : List ℕ → (p : Plain) → Dictionary (PlainBody p) → Type 0
Stands body p d = StandsFrom body p d.values d.starts

-- M SOURCES OF A JOIN, in this body
pub record Sources (t : Ty) (body : List ℕ) (m : ℕ) (ss : ℕ → Column t) : Type 0 where
  pub formed : Formed t
  pub some : 0 < m  -- "1 to 16 sources"
  pub few : m ≤ 16
  pub obey : (j : ℕ) → j < m → Source t (ss j)
  pub few_buffers_lem : (j : ℕ) → j < m → EachView (λ v. length v.buffers ≤ 32) t (ss j).body  -- "at most 32 data buffers per view node and source"
  pub stand : (j : ℕ) → j < m → EachDictionary (Stands body) t (ss j).body
