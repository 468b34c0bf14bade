-- When a source's lent tables hold a column, and the bases that a join adds to its keys and buffer numbers. Assumes nothing.
use Rattle.std.specs.Prelude.{◌≡◌, Bool, true, false, cond, ℕ, zero, suc, ◌+◌, ◌≤◌, ◌<◌, length, take, drop, eqb}
use Rattle.std.proofs.Math.Option.{Option, none, some}
use mathlib.Core.List.{List, [], ◌∷◌, Memᴰ}
use Rattle.columnar.specs.Types.{Plain, fixed, string, Ty, t_plain, t_view, t_list_view, t_list, t_sparse, t_dense, t_run_end, t_dictionary}
use Rattle.columnar.specs.Array.{Array}
use Rattle.columnar.specs.Plain.{PlainBody}
use Rattle.columnar.specs.Reading.{Body, Column}
use Rattle.columnar.specs.Kids.{Below, nodes_down}
use Rattle.model.specs.Opening.{start_of_keys}
use Rattle.model.specs.Primitive.{buffers_before}
use Rattle.walk.specs.State.{Join, base_of, place, length_of, offset_of, far}
use Rattle.refinement.specs.walk_is_model.Holds.{child_of, in_plan}

-- bytes of the body
pub record Part (body : List ℕ) (at size : ℕ) (s : List ℕ) : Type 0 where
  pub bytes_are : s ≡ take size (drop at body)
  pub inside : at + size ≤ length body

-- validity at node i, if it has one
abbrev pub LentValid : Join → ℕ → Option (List ℕ) → Type 0
LentValid x i none = eqb (place x i 0) 0 ≡ true
LentValid x i (some m) = (eqb (place x i 0) 0 ≡ false) × Part x.body (place x i 1) (place x i 2) m

pub record LentNode {B : Type 0} (x : Join) (i : ℕ) (inner : B → Type 0) (a : Array B) : Type 0 where
  pub len_is : length_of x i ≡ a.len
  pub off_is : offset_of x i ≡ a.off
  pub sum : a.off + a.len < far
  pub valid_is : LentValid x i a.valid
  pub body_is : inner a.body

module _ (x : Join) where
  abbrev pub First : ℕ → List ℕ → Type 0
  First i s = Part x.body (place x i 3) (place x i 4) s

  abbrev pub Second : ℕ → List ℕ → Type 0
  Second i s = Part x.body (place x i 5) (place x i 6) s

  abbrev pub LentPlain : (p : Plain) → ℕ → PlainBody p → Type 0
  LentPlain (fixed n) i b = First i b
  LentPlain (string w) i b = First i b.offsets × Second i b.chars

  abbrev pub LentData : (t : Ty) → ℕ → Body t → Type 0
  LentData (t_plain p) i b = LentPlain p i b
  LentData t_view i b = First i b.views
  LentData (t_list_view w t) i b = First i b.offsets × Second i b.sizes × LentNode x (suc i) (LentData t (suc i)) b.child
  LentData (t_list w t) i b = First i b.offsets × LentNode x (suc i) (LentData t (suc i)) b.child
  LentData (t_sparse ids nullable f) i b =
      First i b.ids × ((e : ℕ) → Memᴰ e ids → LentNode x (child_of x.plan i e) (LentData (f e) (child_of x.plan i e)) (b.children e))
  LentData (t_dense ids nullable f) i b =
      First i b.ids × Second i b.positions × ((e : ℕ) → Memᴰ e ids → LentNode x (child_of x.plan i e) (LentData (f e) (child_of x.plan i e)) (b.children e))
  LentData (t_run_end w t) i b = LentNode x (suc i) (First (suc i)) b.ends × LentNode x (suc (suc i)) (LentData t (suc (suc i))) b.values
  LentData (t_dictionary n p) i b = First i b.keys

  -- THE TABLES HOLD THE COLUMN at node i
  abbrev pub Lent : (t : Ty) → ℕ → Column t → Type 0
  Lent t i = LentNode x i (LentData t i)

-- what source s's keys and buffer numbers rise by, at every node
abbrev pub Based : List ℕ → ℕ → (t : Ty) → ℕ → ℕ → (ℕ → Body t) → Type 0
Based plan s t i m ss =
    Below {X = λ t. ℕ × (ℕ → Body t)} (nodes_down (in_plan plan)) (λ x. base_of plan s x.0 ≡ length (buffers_before x.1 s)) (λ n p x. base_of plan s x.0 ≡ start_of_keys m x.1 s) t (i, ss)
