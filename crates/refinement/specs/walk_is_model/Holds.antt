-- When counters and memory hold a destination of the model, and what of a plan's numbers and of lent tables a type stands for.
-- Assumes nothing.
use Rattle.std.specs.Prelude.{◌≡◌, Bool, true, false, cond, ℕ, zero, suc, ◌+◌, ◌≤◌, ◌<◌, length, eqb}
use Rattle.std.proofs.Math.Option.{Option, none, some}
use mathlib.Core.List.{List, [], ◌∷◌, map, Memᴰ}
use Rattle.columnar.specs.Types.{Number, width, Plain, fixed, string, Ty, t_plain, t_view, t_list_view, t_list, t_sparse, t_dense, t_run_end, t_dictionary}
use Rattle.columnar.specs.Reading.{masks}
use Rattle.schema.specs.formats.Code.{is_fixed, is_string, is_view, is_list_view, is_list}
use Rattle.model.specs.Mutable.{Mutable}
use Rattle.model.specs.Transform.{Grown, Destination}
use Rattle.walk.specs.State.{code_of, dictionary_of, end_of, id_of, nullable_of, keeps_of, bytes_of, rows, nulls, bytes, gap}
use Rattle.walk.specs.Copy.{is_width, child_with}
use Rattle.refinement.specs.walk_is_model.Memory.{Memory}

-- ---- a plan's numbers stand for a type

-- the node of a union's child
abbrev pub child_of : List ℕ → ℕ → ℕ → ℕ
child_of plan i c = child_with plan c (end_of plan i) 32 (suc i)

-- .. whatever its ids are
abbrev pub in_plan : List ℕ → ℕ → List ℕ → ℕ → ℕ
in_plan plan i ids c = child_of plan i c

-- node i with the nodes below it, up to `end`
abbrev pub Spans : List ℕ → ℕ → ℕ → Type 0
Spans plan i end = (end_of plan i ≡ end) × (i < end) × (end ≤ 32)

module _ (plan : List ℕ) where
  abbrev pub WordedPlain : Plain → ℕ → Type 0
  WordedPlain (fixed n) i = (is_fixed (code_of plan i) ≡ true) × (bytes_of plan i ≡ width n)
  WordedPlain (string w) i = (is_string (code_of plan i) ≡ true) × (bytes_of plan i ≡ w)

  -- the children of a union, one behind the other from node k on; `kid` says what each is
  abbrev pub Fields : (ℕ → ℕ → Type 0) → (ℕ → Bool) → ℕ → List ℕ → ℕ → Type 0
  Fields kid nullable end [] k = k ≡ end
  Fields kid nullable end (c ∷ cs) k =
      (id_of plan k ≡ c) × (eqb (nullable_of plan k) 1 ≡ nullable c) × (k < end_of plan k) × (end_of plan k ≤ end) × kid c k × Fields kid nullable end cs (end_of plan k)

  -- NODE i STANDS FOR A TYPE at most `depth` levels deep
  abbrev pub Worded : ℕ → Ty → ℕ → Type 0
  Worded zero t i = ⊥
  Worded (suc k) (t_plain p) i = (i < 32) × (i < end_of plan i) × (dictionary_of plan i ≡ 0) × WordedPlain p i
  Worded (suc k) t_view i = (i < 32) × (i < end_of plan i) × (is_view (code_of plan i) ≡ true)
  Worded (suc k) (t_list_view w t) i =
      (i < 32) × (end_of plan i ≡ end_of plan (suc i)) × (is_list_view (code_of plan i) ≡ true) × (bytes_of plan i ≡ w) × Worded k t (suc i)
  Worded (suc k) (t_list w t) i =
      (i < 32) × (end_of plan i ≡ end_of plan (suc i)) × (is_list (code_of plan i) ≡ true) × (bytes_of plan i ≡ w) × Worded k t (suc i)
  Worded (suc k) (t_sparse ids nullable f) i =
      (i < 32) × (code_of plan i ≡ 21) × (length ids ≤ 16) × (i < end_of plan i) × Fields (λ c. Worded k (f c)) nullable (end_of plan i) ids (suc i)
  Worded (suc k) (t_dense ids nullable f) i =
      (i < 32) × (code_of plan i ≡ 22) × (length ids ≤ 16) × (i < end_of plan i) × Fields (λ c. Worded k (f c)) nullable (end_of plan i) ids (suc i)
  Worded (suc k) (t_run_end w t) i =
      (i < 32) × (end_of plan i ≡ end_of plan (suc (suc i))) × (code_of plan i ≡ 23) × (bytes_of plan (suc i) ≡ w) × Worded k t (suc (suc i)) × (is_width w ≡ true)
  Worded (suc k) (t_dictionary n p) i =
      (i < 32) × (i < end_of plan i) × (dictionary_of plan i ≡ 0 → ⊥) × (is_fixed (code_of plan i) ≡ true) × (bytes_of plan i ≡ width n)

-- ---- counters and memory hold a destination

abbrev pub flag : Bool → ℕ
flag b = cond b 1 0

-- bits, where the node keeps nulls; a union or run-end node has none
abbrev pub HoldsBits : List ℕ → ℕ → Bool → Option (List Bool) → Memory → Type 0
HoldsBits plan i m none μ = keeps_of plan i ≡ 0
HoldsBits plan i true (some l) μ = (keeps_of plan i ≡ 0 → ⊥) × (μ.bits i ≡ map flag l)
HoldsBits plan i false (some l) μ = keeps_of plan i ≡ 0 → ⊥

pub record HoldsNode {D : Type 0} (plan : List ℕ) (i : ℕ) (masks : Bool) (inner : D → List ℕ → Memory → Type 0) (d : Mutable D) (c : List ℕ) (μ : Memory) : Type 0 where
  pub rows_are : rows c i ≡ d.len
  pub nulls_are : nulls c i ≡ d.null_count
  pub few_nulls : d.null_count ≤ d.len
  pub bits_are : HoldsBits plan i masks d.bits μ
  pub data_are : inner d.«data» c μ

module _ (plan : List ℕ) where
  abbrev pub HoldsPlain : (p : Plain) → ℕ → Grown (t_plain p) → List ℕ → Memory → Type 0
  HoldsPlain (fixed n) i d c μ = μ.at i 1 ≡ d
  HoldsPlain (string w) i d c μ = (μ.at i 1 ≡ d.offsets) × (μ.at i 2 ≡ d.chars) × (bytes c i ≡ length d.chars)

  abbrev pub HoldsData : (t : Ty) → ℕ → Grown t → List ℕ → Memory → Type 0
  HoldsData (t_plain p) i d c μ = HoldsPlain p i d c μ
  HoldsData t_view i d c μ = μ.at i 1 ≡ d
  HoldsData (t_list_view w t) i d c μ = (μ.at i 1 ≡ d.buffer1) × (μ.at i 2 ≡ d.buffer2) × HoldsNode plan (suc i) (masks t) (HoldsData t (suc i)) d.child c μ
  HoldsData (t_list w t) i d c μ = (μ.at i 1 ≡ d.buffer1) × HoldsNode plan (suc i) (masks t) (HoldsData t (suc i)) d.child c μ
  HoldsData (t_sparse ids nullable f) i d c μ =
      (μ.at i 1 ≡ d.buffer1) × ((e : ℕ) → Memᴰ e ids → HoldsNode plan (child_of plan i e) (masks (f e)) (HoldsData (f e) (child_of plan i e)) (d.children e) c μ)
  HoldsData (t_dense ids nullable f) i d c μ =
      (μ.at i 1 ≡ d.buffer1) × (μ.at i 2 ≡ d.buffer2)
      × ((e : ℕ) → Memᴰ e ids → HoldsNode plan (child_of plan i e) (masks (f e)) (HoldsData (f e) (child_of plan i e)) (d.children e) c μ)
  HoldsData (t_run_end w t) i d c μ =
      (rows c (suc i) ≡ d.ends.len) × (μ.at (suc i) 1 ≡ d.ends.«data») × HoldsNode plan (suc (suc i)) (masks t) (HoldsData t (suc (suc i))) d.values c μ × (gap c i ≡ d.gap)
  HoldsData (t_dictionary n p) i d c μ = μ.at i 1 ≡ d

  -- THE COUNTERS AND MEMORY HOLD THE DESTINATION at node i
  abbrev pub Holds : (t : Ty) → ℕ → Destination t → List ℕ → Memory → Type 0
  Holds t i = HoldsNode plan i (masks t) (HoldsData t i)
