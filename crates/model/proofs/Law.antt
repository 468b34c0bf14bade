-- What a kind of node owes. Assumes nothing.
use mathlib.Core.Path.{◌≡◌, refl}
use mathlib.Core.Bool.{Bool, true, false, not}
use mathlib.Core.Option.{Option, none, some}
use mathlib.Core.List.{List, []}
use Prim.Native.Nat.{ℕ, zero, suc, ◌+◌, ◌≤◌, ◌<◌}
use lib.ListN.{length, get_or}
use lib.Dec.{T}
use Rattle.columnar.specs.Row.{Row}
use Rattle.columnar.specs.Array.{Array, ok, sight, nulls_in, read_with}
use Rattle.model.specs.Try.{Try}
use Rattle.model.specs.Grounds.{Counts, rows_of, Ask, AskNulls}
use Rattle.model.specs.Mutable.{Mutable, zeros, validity, freeze_node}
use Rattle.model.proofs.Agree.{Agrees}
use Rattle.model.proofs.Names.{keeps_nulls, counted}

-- A kind of node over m given sources: P is a source's body, D what grows. All but `fine` are the definitions of specs/;
-- `held_rows` says that the rows counted are the node's.
pub record Kind (P D : Type 0) : Type 1 where
  pub masks : Bool
  pub at : P → ℕ → Row  -- what a slot holds
  pub nrow : Row  -- what an ordered null's slot holds, at a node without validity
  pub frz : D → P
  pub ext : (ℕ → P) → ℕ → ℕ → ℕ → ℕ → D → Try D  -- sources, which, from slot, count, rows before
  pub nul : ℕ → ℕ → D → Try D  -- count, rows before
  pub ask : P → Ask
  pub ask_n : AskNulls
  pub held : D → ℕ → Counts
  pub held_rows : (d : D) (l : ℕ) → rows_of (held d l) ≡ l
  pub fine : (ℕ → Bool) → D → ℕ → Type 0  -- well formed, with n rows of this validity
  pub keep : D → Type 0  -- the children that an order of nulls reaches keep nulls
  pub rule : (ℕ → Bool) → P → ℕ → ℕ → Type 0  -- the source rule

-- d' is d, of l rows of validity b, with n rows more of validity vs, which hold what is wanted where they are valid
pub record Put {D : Type 0} (see : D → ℕ → Row) (fine : (ℕ → Bool) → D → ℕ → Type 0) (keep : D → Type 0) (b : ℕ → Bool) (d : D) (l : ℕ) (n : ℕ) (vs : ℕ → Bool) (want : ℕ → Row) (d' : D) : Type 0 where
  pub ends : (b' : ℕ → Bool) → ((i : ℕ) → i < l → b' i ≡ b i) → ((i : ℕ) → i < n → b' (l + i) ≡ vs i) → fine b' d' (l + n)
  pub old : (i : ℕ) → i < l → see d' i ≡ see d i
  pub new : (i : ℕ) → i < n → T (vs i) → see d' (l + i) ≡ want i
  pub keeps : keep d → keep d'

module _ {P D : Type 0} (k : Kind P D) where
  abbrev pub seen : D → ℕ → Row
  seen d i = k.at (k.frz d) i

  -- what a kind owes, over m sources: xs j is source j's node. A copy's slots lie within the source's rows.
  pub record Law (m : ℕ) (xs : ℕ → Array P) : Type 0 where
    pub copies : (j a n l : ℕ) (b : ℕ → Bool) (d : D) → j < m → (xs j).off ≤ a → a + n ≤ (xs j).off + (xs j).len → k.fine b d l
        → Agrees (λ e. k.held e (l + n)) (Put seen k.fine k.keep b d l n (λ i. ok (xs j).valid (a + i)) (λ i. k.at (xs j).body (a + i)))
        (k.ext (λ i. (xs i).body) j a n l d) (k.ask (xs j).body a n (k.held d l))
    pub fills : (n l : ℕ) (b : ℕ → Bool) (d : D) → k.keep d → k.fine b d l
        → Agrees (λ e. k.held e (l + suc n)) (Put seen k.fine k.keep b d l (suc n) (λ i. not k.masks) (λ i. k.nrow))
        (k.nul (suc n) l d) (k.ask_n (suc n) (k.held d l))
    pub obeys : (l : ℕ) (b : ℕ → Bool) (d : D) → k.fine b d l → k.rule b (k.frz d) 0 l

-- ---- a node over a kind

-- whether row i is valid
abbrev pub bit_at : Bool → Option (List Bool) → ℕ → Bool
bit_at masks none i = true
bit_at false (some l) i = true
bit_at true (some l) i = get_or l i false

-- a bit for each row where the node has validity
abbrev pub BitsFor : Bool → Option (List Bool) → ℕ → Type 0
BitsFor masks none n = Unit {0}
BitsFor false (some l) n = l ≡ []
BitsFor true (some l) n = length l ≡ n

-- the running null count is that of the bits
abbrev pub CountFor : Bool → Option (List Bool) → ℕ → Type 0
CountFor masks none c = c ≡ 0
CountFor false (some l) c = Unit {0}
CountFor true (some l) c = c ≡ zeros l

-- a well formed node; one that keeps no nulls has sources without any
pub record FineNode {P D : Type 0} (masks : Bool) (fine : (ℕ → Bool) → D → ℕ → Type 0) (m : ℕ) (xs : ℕ → Array P) (d : Mutable D) : Type 0 where
  pub bits_are : BitsFor masks d.bits d.len
  pub count_is : CountFor masks d.bits d.null_count
  pub no_nulls : d.bits ≡ none → (j : ℕ) → j < m → (i : ℕ) → i < (xs j).len → ok (xs j).valid ((xs j).off + i) ≡ true
  pub data_fine : fine (ok (validity masks d.bits)) d.«data» d.len

-- the node and what an order of nulls reaches below it keep nulls
pub record KeepNode {D : Type 0} (keep : D → Type 0) (d : Mutable D) : Type 0 where
  pub here : keeps_nulls d ≡ true
  pub below : keep d.«data»

module _ {P D : Type 0} (k : Kind P D) (m : ℕ) (xs : ℕ → Array P) where
  abbrev pub Fine : Mutable D → Type 0
  Fine d = FineNode k.masks k.fine m xs d

  -- row i of the finished node
  abbrev pub row_at : Mutable D → ℕ → Row
  row_at d i = read_with k.at (freeze_node k.masks k.frz d) i

  -- d' is d with n rows more, which read as wanted; c nulls more are counted
  pub record Grew (d : Mutable D) (n c : ℕ) (want : ℕ → Row) (d' : Mutable D) : Type 0 where
    pub fine' : Fine d'
    pub len_is : d'.len ≡ d.len + n
    pub old : (i : ℕ) → i < d.len → row_at d' i ≡ row_at d i
    pub new : (i : ℕ) → i < n → row_at d' (d.len + i) ≡ want i
    pub keep_same : keeps_nulls d' ≡ keeps_nulls d
    pub keep_data : k.keep d.«data» → k.keep d'.«data»
    pub count_more : d'.null_count ≡ d.null_count + counted d.bits c

-- what an ordered null reads as at a node
abbrev pub node_null : {P D : Type 0} → Kind P D → Row
node_null k = sight (not k.masks) k.nrow
