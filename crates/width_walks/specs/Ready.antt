-- What the plan and the tables must have for a column to be written in other widths: nulls kept "exactly where the node it comes from has one",
-- dictionaries in parts, the data buffers of views named, and lengths that counters hold. Assumes nothing.
use Rattle.std.specs.Prelude.{◌≡◌, ℕ, suc, ◌≤◌, ◌<◌, ltb}
use mathlib.Core.List.{List, Memᴰ}
use Rattle.columnar.specs.Types.{Ty, t_plain, t_view, t_list_view, t_list, t_sparse, t_dense, t_run_end, t_dictionary}
use Rattle.columnar.specs.Array.{Array, null_count_of}
use Rattle.columnar.specs.Reading.{Body, Column}
use Rattle.walk.specs.State.{word, end_of, keeps_of, top}
use Rattle.refinement.specs.walk_is_model.Memory.{Memory}
use Rattle.refinement.specs.walk_is_model.Holds.{flag, child_of}
use Rattle.refinement.specs.orders.Order.{Lent}
use Rattle.anew.specs.Stood.{BuffersNamed}

-- the result's type: dictionaries are in parts, and run ends keep no nulls
abbrev pub InParts : List ℕ → Ty → ℕ → Type 0
InParts plan (t_plain p) i = Unit {0}
InParts plan t_view i = Unit {0}
InParts plan (t_list_view w t) i = InParts plan t (suc i)
InParts plan (t_list w t) i = InParts plan t (suc i)
InParts plan (t_sparse ids nullable f) i = (c : ℕ) → Memᴰ c ids → InParts plan (f c) (child_of plan i c)
InParts plan (t_dense ids nullable f) i = (c : ℕ) → Memᴰ c ids → InParts plan (f c) (child_of plan i c)
InParts plan (t_run_end w t) i = (keeps_of plan (suc i) ≡ 0) × InParts plan t (suc (suc i))
InParts plan (t_dictionary k p) i = (word plan i 7 ≡ 1) × (suc i < end_of plan i)

-- the column, node by node
module _ (x : Lent) (buffers : List ℕ) where
  pub record ReadyNode {B : Type 0} (i : ℕ) (inner : B → Type 0) (a : Array B) : Type 0 where
    pub keeps : keeps_of x.plan i ≡ flag (ltb 0 (null_count_of a))
    pub small : a.len ≤ top
    pub body_ready : inner a.body

  abbrev pub ReadyBody : (t : Ty) → ℕ → Body t → Type 0
  ReadyBody (t_plain p) i b = Unit {0}
  ReadyBody t_view i b = (c : List ℕ) (μ : Memory) → BuffersNamed x buffers c μ i b.buffers
  ReadyBody (t_list_view w t) i b = ReadyNode (suc i) (ReadyBody t (suc i)) b.child
  ReadyBody (t_list w t) i b = ReadyNode (suc i) (ReadyBody t (suc i)) b.child
  ReadyBody (t_sparse ids nullable f) i b = (c : ℕ) → Memᴰ c ids → ReadyNode (child_of x.plan i c) (ReadyBody (f c) (child_of x.plan i c)) (b.children c)
  ReadyBody (t_dense ids nullable f) i b = (c : ℕ) → Memᴰ c ids → ReadyNode (child_of x.plan i c) (ReadyBody (f c) (child_of x.plan i c)) (b.children c)
  ReadyBody (t_run_end w t) i b = ReadyNode (suc (suc i)) (ReadyBody t (suc (suc i))) b.values
  ReadyBody (t_dictionary k p) i b = ReadyNode (suc i) (λ v. Unit {0}) b.values

  -- A COLUMN READY TO BE WRITTEN at node i
  abbrev pub Ready : (t : Ty) → ℕ → Column t → Type 0
  Ready t i = ReadyNode i (ReadyBody t i)
