-- The children of a node by the words of a plan. Assumes nothing.
use mathlib.Core.List.{List}
use Prim.Native.Nat.{ℕ, zero, suc, ◌≤◌, ◌<◌}
use native.Mathlib.Omega.{arith}
use Rattle.columnar.specs.Types.{Ty, t_plain, t_view, t_list_view, t_list, t_sparse, t_dense, t_run_end, t_dictionary}
use Rattle.columnar.specs.Kids.{Kid, kid_ty, kid_node}
use Rattle.walk.specs.State.{end_of}
use Rattle.refinement.specs.walk_is_model.Holds.{in_plan, Worded}
use Rattle.refinement.proofs.walk_is_model.Frame.{field_of}

-- a plan has at most 32 nodes
pub worded_small : (plan : List ℕ) (k : ℕ) (t : Ty) (i : ℕ) → Worded plan k t i → i < 32
worded_small plan (suc k) (t_plain p) i w = w.0
worded_small plan (suc k) t_view i w = w.0
worded_small plan (suc k) (t_list_view v t) i w = w.0
worded_small plan (suc k) (t_list v t) i w = w.0
worded_small plan (suc k) (t_sparse ids nullable f) i w = w.0
worded_small plan (suc k) (t_dense ids nullable f) i w = w.0
worded_small plan (suc k) (t_run_end v t) i w = w.0
worded_small plan (suc k) (t_dictionary n p) i w = w.0
worded_small plan zero t i w = elim w [ ]

-- A CHILD STANDS BEHIND NODE i AND ENDS WITHIN, and its words stand for its type
pub record KidAt (plan : List ℕ) (t : Ty) (i : ℕ) (c : Kid t) : Type 0 where
  pub depth : ℕ
  pub is_kid : Worded plan depth (kid_ty t c) (kid_node (in_plan plan) t i c)
  pub behind : i < kid_node (in_plan plan) t i c
  pub ends : end_of plan (kid_node (in_plan plan) t i c) ≤ end_of plan i

pub kid_at_lem : (plan : List ℕ) (k : ℕ) (t : Ty) (i : ℕ) → Worded plan k t i → (c : Kid t) → KidAt plan t i c
kid_at_lem plan (suc k) (t_plain p) i w c = absurd c
kid_at_lem plan (suc k) t_view i w c = absurd c
kid_at_lem plan (suc k) (t_list_view v t) i w c = record { depth = k; is_kid = w.4; behind = omega arith; ends = omega (arith, w.1) }
kid_at_lem plan (suc k) (t_list v t) i w c = record { depth = k; is_kid = w.4; behind = omega arith; ends = omega (arith, w.1) }
kid_at_lem plan (suc k) (t_sparse ids nullable f) i w c =
    let g = field_of plan (λ z. Worded plan k (f z)) nullable (end_of plan i) ids (suc i) 32 c.0 w.4 (omega (arith, w.2)) c.1 in
    record { depth = k; is_kid = g.is_kid; behind = omega (arith, g.behind); ends = g.ends }
kid_at_lem plan (suc k) (t_dense ids nullable f) i w c =
    let g = field_of plan (λ z. Worded plan k (f z)) nullable (end_of plan i) ids (suc i) 32 c.0 w.4 (omega (arith, w.2)) c.1 in
    record { depth = k; is_kid = g.is_kid; behind = omega (arith, g.behind); ends = g.ends }
kid_at_lem plan (suc k) (t_run_end v t) i w c = record { depth = k; is_kid = w.4; behind = omega arith; ends = omega (arith, w.1) }
kid_at_lem plan (suc k) (t_dictionary n p) i w c = absurd c
kid_at_lem plan zero t i w c = elim w [ ]
