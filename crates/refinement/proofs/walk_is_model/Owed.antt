-- What the walk of each kind owes, in terms of the walk of its children. Assumes nothing.
use mathlib.Core.Path.{◌≡◌}
use mathlib.Core.List.{List, []}
use Prim.Native.Nat.{ℕ, suc, ◌+◌, ◌≤◌, ◌<◌}
use lib.ListN.{length}
use Rattle.columnar.specs.Types.{Ty, t_plain, t_view, t_list_view, t_sparse, t_dense, t_run_end, t_dictionary}
use Rattle.columnar.specs.Array.{Array}
use Rattle.columnar.specs.Formed.{Formed}
use Rattle.columnar.specs.Reading.{Column, masks, Source}
use Rattle.model.specs.Mutable.{Mutable, extend_node, nulls_node}
use Rattle.model.specs.Transform.{Grown, Destination, extend_data}
use Rattle.model.proofs.Law.{Law, KeepNode, Fine}
use Rattle.model.proofs.Nodes.{kind_of, KeepOf}
use Rattle.walk.specs.State.{Join, code_of, end_of, rows, nulls, top, far}
use Rattle.walk.specs.Copy.{Walk, copy_data}
use Rattle.walk.specs.Nulls.{NullWalk, null_data}
use Rattle.refinement.specs.walk_is_model.Memory.{Memory}
use Rattle.refinement.specs.walk_is_model.Holds.{Worded, HoldsData, Holds}
use Rattle.refinement.specs.walk_is_model.Lent.{Lent, Based}
use Rattle.refinement.proofs.walk_is_model.Goes.{Goes}
use Rattle.refinement.proofs.walk_is_model.Frame.{SameAt, Kept}
use Rattle.model.proofs.Names.{nulls_data}

-- the data of node i may be changed, and the nodes below it up to e
pub record DataKept (i e : ℕ) (c c' : List ℕ) (μ μ' : Memory) : Type 0 where
  pub long : length c' ≡ length c
  pub rows_own : rows c' i ≡ rows c i
  pub nulls_own : nulls c' i ≡ nulls c i
  pub bits_own : μ'.bits i ≡ μ.bits i
  pub outside : (j : ℕ) → (i ≤ j → j < e → ⊥) → SameAt c c' μ μ' j

-- rows that a counter holds
abbrev pub Small : ℕ → Type 0
Small n = n ≤ top

-- what is given at node i: the plan's words, source j's tables, and the model's laws over all m sources
pub record Given (x : Join) (k : ℕ) (t : Ty) (i m : ℕ) (ss : ℕ → Column t) : Type 0 where
  pub worded : Worded x.plan k t i
  pub formed : Formed t
  pub known : x.source < m
  pub lent : Lent x t i (ss x.source)
  pub based : Based x.plan x.source t i m (λ j. (ss j).body)
  pub obey : (j : ℕ) → j < m → Source t (ss j)
  pub lawful : Law (kind_of t m (λ j. (ss j).body)) m ss

-- THE COPY of rows a .. a + n - 1 at node i goes with the model's
abbrev pub Copies : Join → Walk → (t : Ty) → ℕ → ℕ → (ℕ → Column t) → Type 0
Copies x walk t i m ss =
    (a n : ℕ) (d : Destination t) (c : List ℕ) (μ : Memory) → a + n ≤ (ss x.source).len → Fine (kind_of t m (λ j. (ss j).body)) m ss d → Small (d.len + n)
    → length c ≡ 96 → Holds x.plan t i d c μ
    → Goes μ (λ d' c' μ'. Holds x.plan t i d' c' μ' × Kept i (end_of x.plan i) c c' μ μ') (extend_node (masks t) (extend_data t m) ss x.source a n d) (walk i a n c)

-- .. its data, from slot `slot` on, where validity is done; `inner` is the walk of the nodes below
abbrev pub CopiesData : Join → Walk → (t : Ty) → ℕ → ℕ → (ℕ → Column t) → Type 0
CopiesData x inner t i m ss =
    (slot n : ℕ) (d : Destination t) (c : List ℕ) (μ : Memory) → (ss x.source).off ≤ slot → slot + n ≤ (ss x.source).off + (ss x.source).len
    → Fine (kind_of t m (λ j. (ss j).body)) m ss d → Small (d.len + n) → length c ≡ 96 → rows c i ≡ d.len → HoldsData x.plan t i d.«data» c μ
    → Goes μ (λ g c' μ'. HoldsData x.plan t i g c' μ' × DataKept i (end_of x.plan i) c c' μ μ')
    (extend_data t m (λ j. (ss j).body) x.source slot n d.len d.«data») (copy_data x inner (code_of x.plan i) i slot n c)

-- THE NULLS at node i go with the model's
abbrev pub Fills : Join → NullWalk → (t : Ty) → ℕ → ℕ → (ℕ → Column t) → Type 0
Fills x walk t i m ss =
    (n : ℕ) (d : Destination t) (c : List ℕ) (μ : Memory) → Fine (kind_of t m (λ j. (ss j).body)) m ss d → KeepNode (KeepOf t) d → Small (d.len + n)
    → length c ≡ 96 → Holds x.plan t i d c μ
    → Goes μ (λ d' c' μ'. Holds x.plan t i d' c' μ' × Kept i (end_of x.plan i) c c' μ μ') (nulls_node (masks t) (nulls_data t) n d) (walk i n c)

abbrev pub FillsData : Join → NullWalk → (t : Ty) → ℕ → ℕ → (ℕ → Column t) → Type 0
FillsData x inner t i m ss =
    (n : ℕ) (d : Destination t) (c : List ℕ) (μ : Memory) → 0 < n → Fine (kind_of t m (λ j. (ss j).body)) m ss d → KeepNode (KeepOf t) d → Small (d.len + n)
    → length c ≡ 96 → Holds x.plan t i d c μ
    → Goes μ (λ g c' μ'. HoldsData x.plan t i g c' μ' × DataKept i (end_of x.plan i) c c' μ μ')
    (nulls_data t n d.len d.«data») (null_data x inner (code_of x.plan i) i n c)
