-- Which nodes a walk reaches, by a plan's words. Assumes nothing.
use Rattle.std.specs.Prelude.{◌≡◌, Bool, true, List, ℕ, zero, suc, ◌≤◌, ◌<◌}
use Rattle.columnar.specs.Types.{Ty}
use Rattle.schema.specs.formats.Code.{between, is_fixed, is_string, is_list_view, is_union}
use Rattle.walk.specs.State.{code_of, dictionary_of, end_of, keeps_of}
use Rattle.refinement.specs.walk_is_model.Holds.{Worded}

-- byte strings, list-views and dense unions have a second buffer
pub data Second (code : ℕ) : Type 0 where
  chars : is_string code ≡ true → Second code
  sizes : is_list_view code ≡ true → Second code
  positions : code ≡ 22 → Second code

-- by its words, node i has a buffer b: "a node's validity if it keeps nulls, then its buffers in the format's order"
abbrev pub HasBuffer : List ℕ → ℕ → ℕ → Type 0
HasBuffer plan i zero = (keeps_of plan i ≡ 0 → ⊥) × (code_of plan i < 21)
HasBuffer plan i (suc zero) = (1 ≤ code_of plan i) × (code_of plan i < 23)
HasBuffer plan i (suc (suc b)) = (b ≡ 0) × Second (code_of plan i)

-- node k is a child of the union at node i: the first stands behind it, each other one where the one before it ends
pub data Child (plan : List ℕ) (i : ℕ) : ℕ → Type 0 where
  first : suc i < end_of plan i → Child plan i (suc i)
  later : (k : ℕ) → Child plan i k → end_of plan k < end_of plan i → Child plan i (end_of plan k)

-- +vl +vL +l +L: the node behind is the child
abbrev pub has_item : ℕ → Bool
has_item code = between 17 20 code

-- nodes that a walk does not leave: In has those that it walks, At those that it writes at (run ends are written by the node above them)
pub record Closed (plan : List ℕ) (In At : ℕ → Type 0) : Type 0 where
  pub own : (i : ℕ) → In i → At i
  pub item : (i : ℕ) → In i → has_item (code_of plan i) ≡ true → In (suc i)
  pub child : (i k : ℕ) → In i → is_union (code_of plan i) ≡ true → Child plan i k → In k
  pub ends : (i : ℕ) → In i → code_of plan i ≡ 23 → At (suc i)
  pub values : (i : ℕ) → In i → code_of plan i ≡ 23 → In (suc (suc i))

-- a buffer that a walk may write: one that its node has, at one of those nodes
pub record UsedAt (plan : List ℕ) (At : ℕ → Type 0) (i b : ℕ) : Type 0 where
  pub node : At i
  pub small : i < 32
  pub buffer : HasBuffer plan i b

-- ---- nodes of a type

-- node j stands for a type, and it and the nodes below it are among lo .. hi - 1
pub data Typed (plan : List ℕ) (lo hi j : ℕ) : Type 0 where
  typed : (k : ℕ) (t : Ty) → Worded plan k t j → lo ≤ j → end_of plan j ≤ hi → Typed plan lo hi j

-- node j is among them
abbrev pub Among : ℕ → ℕ → ℕ → Type 0
Among lo hi j = (lo ≤ j) × (j < hi)

-- node j is not a dictionary's values, which are the node behind its keys
abbrev pub Free : List ℕ → ℕ → Type 0
Free plan zero = Unit {0}
Free plan (suc i) = dictionary_of plan i ≡ 0

-- how dictionaries stand among the nodes below hi: keys are integers, their values are one node, and run ends have no dictionary
pub record Tabled (plan : List ℕ) (hi : ℕ) : Type 0 where
  pub keys_fixed : (h : ℕ) → h < hi → (dictionary_of plan h ≡ 0 → ⊥) → is_fixed (code_of plan h) ≡ true
  pub keys_end : (h : ℕ) → h < hi → (dictionary_of plan h ≡ 0 → ⊥) → end_of plan h ≡ suc (suc h)
  pub nested : (i j : ℕ) → i < j → j < end_of plan i → end_of plan i ≤ hi → end_of plan j ≤ end_of plan i
  pub ends_plain : (i : ℕ) → suc i < hi → code_of plan i ≡ 23 → dictionary_of plan (suc i) ≡ 0
