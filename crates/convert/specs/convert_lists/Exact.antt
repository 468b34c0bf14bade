-- A plan whose nodes keep nulls exactly where those of a column have one (02, W1). Assumes nothing.
use Rattle.std.specs.Prelude.{◌≡◌, ℕ, suc, ltb}
use mathlib.Core.List.{List, Memᴰ}
use Rattle.columnar.specs.Types.{Ty, t_plain, t_view, t_list_view, t_list, t_sparse, t_dense, t_run_end, t_dictionary}
use Rattle.columnar.specs.Array.{Array, null_count_of}
use Rattle.columnar.specs.Reading.{Body, Column}
use Rattle.walk.specs.State.{keeps_of}
use Rattle.refinement.specs.walk_is_model.Holds.{child_of, flag}

module _ (plan : List ℕ) where
  pub record ExactNode {B : Type 0} (i : ℕ) (inner : B → Type 0) (a : Array B) : Type 0 where
    pub keeps_are : keeps_of plan i ≡ flag (ltb 0 (null_count_of a))
    pub below : inner a.body

  abbrev pub ExactData : (t : Ty) → ℕ → Body t → Type 0
  ExactData (t_plain p) i b = Unit {0}
  ExactData t_view i b = Unit {0}
  ExactData (t_list_view w t) i b = ExactNode (suc i) (ExactData t (suc i)) b.child
  ExactData (t_list w t) i b = ExactNode (suc i) (ExactData t (suc i)) b.child
  ExactData (t_sparse ids nullable f) i b = (e : ℕ) → Memᴰ e ids → ExactNode (child_of plan i e) (ExactData (f e) (child_of plan i e)) (b.children e)
  ExactData (t_dense ids nullable f) i b = (e : ℕ) → Memᴰ e ids → ExactNode (child_of plan i e) (ExactData (f e) (child_of plan i e)) (b.children e)
  ExactData (t_run_end w t) i b = ExactNode (suc (suc i)) (ExactData t (suc (suc i))) b.values
  ExactData (t_dictionary k p) i b = Unit {0}

  -- .. at every node from node i on that is in parts
  abbrev pub Exact : (t : Ty) → ℕ → Column t → Type 0
  Exact t i = ExactNode i (ExactData t i)
