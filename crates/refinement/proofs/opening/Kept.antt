-- What a plan keeps and joins below a node, it keeps and joins below each child. Assumes nothing.
use mathlib.Core.Bool.{Bool}
use mathlib.Core.List.{List}
use Prim.Native.Nat.{ℕ}
use Rattle.columnar.specs.Types.{Ty, t_plain, t_view, t_list_view, t_list, t_sparse, t_dense, t_run_end, t_dictionary}
use Rattle.columnar.specs.Reading.{Body}
use Rattle.columnar.specs.Kids.{Kid, kid_ty, kid_at, kid_node, bodies_down}
use Rattle.model.specs.Opening.{keeps}
use Rattle.refinement.specs.walk_is_model.Holds.{in_plan}
use Rattle.refinement.specs.opening.Kept.{Kept}

pub kept_kid : (plan : List ℕ) (m : ℕ) (t : Ty) (i : ℕ) (u : Bool) (ss : ℕ → Body t) → Kept plan m t i u ss → (c : Kid t)
    → Kept plan m (kid_ty t c) (kid_node (in_plan plan) t i c) (keeps u m (λ s. kid_at t (ss s) c)) (bodies_down t ss c)
kept_kid plan m (t_plain p) i u ss h c = absurd c
kept_kid plan m t_view i u ss h c = absurd c
kept_kid plan m (t_list_view w t) i u ss h c = h.1
kept_kid plan m (t_list w t) i u ss h c = h.1
kept_kid plan m (t_sparse ids nullable f) i u ss h c = (h c.0 c.1).1
kept_kid plan m (t_dense ids nullable f) i u ss h c = (h c.0 c.1).1
kept_kid plan m (t_run_end w t) i u ss h c = h.2
kept_kid plan m (t_dictionary n p) i u ss h c = absurd c
