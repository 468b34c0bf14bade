-- When counters and memory hold a finished column, "laid out as a finished array of offset 0, null counts taken from its bits" (02, W1).
-- Assumes nothing.
use Rattle.std.specs.Prelude.{◌≡◌, Bool, true, false, ℕ, suc, ◌+◌, ◌*◌, ◌≤◌, ◌<◌, length, get_or}
use Rattle.std.proofs.Math.Option.{Option, none, some}
use mathlib.Core.List.{List, [], Memᴰ}
use Rattle.columnar.specs.Row.{seg}
use Rattle.columnar.specs.Types.{width, Plain, fixed, string, Ty, t_plain, t_view, t_list_view, t_list, t_sparse, t_dense, t_run_end, t_dictionary}
use Rattle.columnar.specs.Array.{Array, Obeys}
use Rattle.columnar.specs.Plain.{PlainBody, PlainRule}
use Rattle.columnar.specs.Reading.{Body, Column, masks}
use Rattle.array_data.specs.Tables.{part}
use Rattle.model.specs.Mutable.{validity}
use Rattle.model.specs.Opening.{present}
use Rattle.walk.specs.State.{word, rows, bytes, place}
use Rattle.refinement.specs.walk_is_model.Memory.{Memory}
use Rattle.refinement.specs.walk_is_model.Holds.{child_of, HoldsBits}
use Rattle.refinement.specs.walk_is_model.Lent.{LentNode, LentPlain}
use Rattle.refinement.specs.orders.Order.{Lent, join_of}

-- a bit for each row where the node has validity
abbrev pub BitsOf : Bool → Option (List Bool) → ℕ → Type 0
BitsOf masks none n = Unit {0}
BitsOf false (some l) n = l ≡ []
BitsOf true (some l) n = length l ≡ n

-- the plan and the column's tables, the data buffers that its views name, the counters and the memory
module _ (x : Lent) (buffers counters : List ℕ) (μ : Memory) where
  -- the validity of node i, of n rows: bits where it keeps nulls, and dropped where none is 0
  pub record StoodBits (i : ℕ) (masks : Bool) (n : ℕ) (valid : Option (List ℕ)) : Type 0 where
    pub bits : Option (List Bool)
    pub long : BitsOf masks bits n
    pub held : HoldsBits x.plan i masks bits μ
    pub valid_is : valid ≡ validity masks bits

  -- node i is this array; `inner` is given the length and the body
  pub record StoodNode {B : Type 0} (i : ℕ) (masks : Bool) (inner : ℕ → B → Type 0) (a : Array B) : Type 0 where
    pub rows_are : rows counters i ≡ a.len
    pub from_zero : a.off ≡ 0
    pub bits_are : StoodBits i masks a.len a.valid
    pub body_is : inner a.len a.body

  -- buffer b of node i, its bytes as many as m entries of w
  pub record Stored (i b m w : ℕ) (s : List ℕ) : Type 0 where
    pub bytes_are : μ.at i b ≡ s
    pub long : length s ≡ m * w

  abbrev pub StoodPlain : (p : Plain) → ℕ → ℕ → PlainBody p → Type 0
  StoodPlain (fixed k) i n b = Stored i 1 n (width k) b
  StoodPlain (string w) i n b = Stored i 1 (suc n) w b.offsets × Stored i 2 (bytes counters i) 1 b.chars

  -- the data buffers of a view node: those that the column's tables name at this node
  pub record BuffersNamed (i : ℕ) (bs : List (List ℕ)) : Type 0 where
    pub buffers_are : bs ≡ seg (λ q. part x.body (get_or buffers (2 * q) 0) (get_or buffers (2 * q + 1) 0)) (place (join_of x 0) i 7) (place (join_of x 0) i 8)
    pub inside : (q : ℕ) → q < place (join_of x 0) i 8
        → get_or buffers (2 * (place (join_of x 0) i 7 + q)) 0 + get_or buffers (2 * (place (join_of x 0) i 7 + q) + 1) 0 ≤ length x.body
    pub few : length bs ≤ 32

  -- the values of the dictionary whose keys are node i: in parts, or the column's own
  pub data StoodValues (p : Plain) (i : ℕ) (a : Array (PlainBody p)) : Type 0 where
    in_parts : word x.plan i 7 ≡ 1 → StoodNode (suc i) true (StoodPlain p (suc i)) a → StoodValues p i a
    kept : word x.plan i 7 ≡ 0 → (v : Array (PlainBody p)) → LentNode (join_of x 0) (suc i) (LentPlain (join_of x 0) p (suc i)) v → Obeys true (PlainRule p) v
        → a ≡ present v → StoodValues p i a

  -- node i's buffers and the nodes below it, by its length
  abbrev pub StoodData : (t : Ty) → ℕ → ℕ → Body t → Type 0
  StoodData (t_plain p) i n b = StoodPlain p i n b
  StoodData t_view i n b = Stored i 1 n 16 b.views × BuffersNamed i b.buffers
  StoodData (t_list_view w t) i n b = Stored i 1 n w b.offsets × Stored i 2 n w b.sizes × StoodNode (suc i) (masks t) (StoodData t (suc i)) b.child
  StoodData (t_list w t) i n b = Stored i 1 (suc n) w b.offsets × StoodNode (suc i) (masks t) (StoodData t (suc i)) b.child
  StoodData (t_sparse ids nullable f) i n b =
      Stored i 1 n 1 b.ids
      × ((c : ℕ) → Memᴰ c ids → StoodNode (child_of x.plan i c) (masks (f c)) (StoodData (f c) (child_of x.plan i c)) (b.children c))
  StoodData (t_dense ids nullable f) i n b =
      Stored i 1 n 1 b.ids × Stored i 2 n 4 b.positions
      × ((c : ℕ) → Memᴰ c ids → StoodNode (child_of x.plan i c) (masks (f c)) (StoodData (f c) (child_of x.plan i c)) (b.children c))
  StoodData (t_run_end w t) i n b =
      StoodNode (suc i) true (λ m s. Stored (suc i) 1 m w s) b.ends × StoodNode (suc (suc i)) (masks t) (StoodData t (suc (suc i))) b.values
  StoodData (t_dictionary k p) i n b = Stored i 1 n (width k) b.keys × StoodValues p i b.values

  -- THE COUNTERS AND MEMORY HOLD THE COLUMN at node i
  abbrev pub Stood : (t : Ty) → ℕ → Column t → Type 0
  Stood t i = StoodNode i (masks t) (StoodData t i)
