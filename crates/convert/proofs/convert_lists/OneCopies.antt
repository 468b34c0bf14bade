-- The copy of one column, whose dictionaries may have more entries than their keys can name: the walk does what the model does.
-- Assumes nothing.
use mathlib.Core.Path.{◌≡◌, refl, sym, ◌∙◌}
use mathlib.Core.Bool.{Bool, true, false, cond}
use mathlib.Core.List.{List, Memᴰ}
use Prim.Native.Nat.{ℕ, zero, suc, ◌<◌}
use native.Mathlib.Omega.{arith}
use Rattle.columnar.specs.Types.{Ty, t_plain, t_view, t_list_view, t_list, t_sparse, t_dense, t_run_end, t_dictionary}
use Rattle.columnar.specs.Formed.{Formed}
use Rattle.columnar.specs.Reading.{Body, Column, Source}
use Rattle.columnar.specs.Kids.{kid_node, body_down, nodes_down}
use Rattle.columnar.proofs.Kids.{below_from}
use Rattle.model.specs.Opening.{shared}
use Rattle.walk.specs.State.{Join, end_of, base_of}
use Rattle.walk.specs.Copy.{copy_walk}
use Rattle.refinement.specs.walk_is_model.Holds.{child_of, in_plan, Worded}
use Rattle.refinement.specs.walk_is_model.Lent.{Lent, Based}
use Rattle.refinement.proofs.walk_is_model.Frame.{field_of}
use Rattle.refinement.proofs.walk_is_model.Kids.{worded_small, kid_at_lem}
use Rattle.refinement.proofs.walk_is_model.Owed.{Given, Copies}
use Rattle.refinement.proofs.walk_is_model.Node.{node_copies}
use Rattle.refinement.proofs.walk_is_model.Plain.{plain_copies}
use Rattle.refinement.proofs.walk_is_model.Views.{view_copies}
use Rattle.refinement.proofs.walk_is_model.Keys.{keys_copies}
use Rattle.refinement.proofs.walk_is_model.ListViews.{list_copies}
use Rattle.refinement.proofs.walk_is_model.Lists.{lists_copies}
use Rattle.refinement.proofs.walk_is_model.RunEnds.{run_copies}
use Rattle.refinement.proofs.walk_is_model.SparseGoes.{sparse_copies}
use Rattle.refinement.proofs.walk_is_model.DenseGoes.{dense_copies}
use Rattle.anew.specs.lists.Fresh.{FewBuffers}
use Rattle.anew.proofs.lists.One.{one_law}

-- what a copy is given at node i: the plan's words with bases of 0, and the tables of one column that obeys the rules
pub record OneSource (x : Join) (k : ℕ) (t : Ty) (i : ℕ) (v : Column t) : Type 0 where
  pub worded : Worded x.plan k t i
  pub formed : Formed t
  pub only : x.source ≡ 0
  pub based : (j : ℕ) → j < 32 → base_of x.plan 0 j ≡ 0
  pub lent : Lent x t i v
  pub obey : Source t v
  pub few : FewBuffers t v

-- the first source's keys start at 0, whether dictionaries are shared or not
no_start : (b : Bool) → ◌≡◌ {A = ℕ} (cond b 0 0) 0
no_start true = refl
no_start false = refl

-- bases of 0 are those of the first source
based_at : (plan : List ℕ) → ((j : ℕ) → j < 32 → base_of plan 0 j ≡ 0) → (k : ℕ) (t : Ty) (i : ℕ) (b : Body t) → Worded plan k t i → Based plan 0 t i 1 (λ j. b)
based_at plan h k t i b w =
    below_from (nodes_down (in_plan plan)) _ _ {S = λ t. (i : ℕ) × Body t × ((k : ℕ) × Worded plan k t i)} (λ t s. (s.0, λ j. s.1))
    (λ t s c. let a = kid_at_lem plan s.2.0 t s.0 s.2.1 c in ((kid_node (in_plan plan) t s.0 c, body_down t s.1 c, (a.depth, a.is_kid)), refl))
    (λ s. h s.0 (worded_small plan s.2.0 t_view s.0 s.2.1))
    (λ n p s. h s.0 (worded_small plan s.2.0 (t_dictionary n p) s.0 s.2.1) ∙ sym (no_start (shared 1 (λ j. s.1)))) t (i, b, (k, w))

module _ {x : Join} {k i : ℕ} where
  given : {t : Ty} {v : Column t} → OneSource x k t i v → Given x k t i 1 (λ j. v)
  given {t} {v} o =
      let e : x.source ≡ 0 = o.only in
      record {
        worded = o.worded;
        formed = o.formed;
        known = omega arith;
        lent = o.lent;
        based = rw e (based_at x.plan o.based k t i v.body o.worded);
        obey = λ j q. o.obey;
        lawful = one_law t v o.obey o.few;
      }

  -- ---- the same one level down

  list_down : {w : ℕ} {t : Ty} {v : Column (t_list_view w t)} → OneSource x (suc k) (t_list_view w t) i v → OneSource x k t (suc i) v.body.child
  list_down o =
      record { worded = o.worded.4; formed = o.formed.1; only = o.only; based = o.based; lent = o.lent.body_is.2; obey = o.obey.slots.child_rule; few = o.few }

  lists_down : {w : ℕ} {t : Ty} {v : Column (t_list w t)} → OneSource x (suc k) (t_list w t) i v → OneSource x k t (suc i) v.body.child
  lists_down o =
      record { worded = o.worded.4; formed = o.formed.1; only = o.only; based = o.based; lent = o.lent.body_is.1; obey = o.obey.slots.child_rule; few = o.few }

  run_down : {w : ℕ} {t : Ty} {v : Column (t_run_end w t)} → OneSource x (suc k) (t_run_end w t) i v → OneSource x k t (suc (suc i)) v.body.values
  run_down o =
      record { worded = o.worded.4; formed = o.formed.1; only = o.only; based = o.based; lent = o.lent.body_is.1; obey = o.obey.slots.child_rule; few = o.few }

  sparse_down : {ids : List ℕ} {nullable : ℕ → Bool} {f : ℕ → Ty} {v : Column (t_sparse ids nullable f)} → OneSource x (suc k) (t_sparse ids nullable f) i v
      → (e : ℕ) → Memᴰ e ids → OneSource x k (f e) (child_of x.plan i e) (v.body.children e)
  sparse_down {ids} {nullable} {f} o e p =
      record {
        worded = (field_of x.plan (λ c. Worded x.plan k (f c)) nullable (end_of x.plan i) ids (suc i) 32 e o.worded.4 (omega (arith, o.worded.2)) p).is_kid;
        formed = o.formed.1 e p;
        only = o.only;
        based = o.based;
        lent = o.lent.body_is.1 e p;
        obey = o.obey.slots.child_rule e p;
        few = o.few e p;
      }

  dense_down : {ids : List ℕ} {nullable : ℕ → Bool} {f : ℕ → Ty} {v : Column (t_dense ids nullable f)} → OneSource x (suc k) (t_dense ids nullable f) i v
      → (e : ℕ) → Memᴰ e ids → OneSource x k (f e) (child_of x.plan i e) (v.body.children e)
  dense_down {ids} {nullable} {f} o e p =
      record {
        worded = (field_of x.plan (λ c. Worded x.plan k (f c)) nullable (end_of x.plan i) ids (suc i) 32 e o.worded.4 (omega (arith, o.worded.2)) p).is_kid;
        formed = o.formed.1 e p;
        only = o.only;
        based = o.based;
        lent = o.lent.body_is.2 e p;
        obey = o.obey.slots.child_rule e p;
        few = o.few e p;
      }

-- A COPY: the same ground, or the model's destination in the counters and the memory, and nothing else changed
pub one_copies : (x : Join) (k : ℕ) (t : Ty) (i : ℕ) (v : Column t) → OneSource x k t i v → Copies x (copy_walk x k) t i 1 (λ j. v)
one_copies x zero t i v o = absurd o.worded
one_copies x (suc k) (t_plain p) i v o = node_copies x k (t_plain p) i 1 (λ j. v) (given o) (plain_copies x (copy_walk x k) k p i 1 (λ j. v) (given o))
one_copies x (suc k) t_view i v o = node_copies x k t_view i 1 (λ j. v) (given o) (view_copies x (copy_walk x k) k i 1 (λ j. v) (given o))
one_copies x (suc k) (t_list_view w t) i v o =
    node_copies x k (t_list_view w t) i 1 (λ j. v) (given o) (list_copies x (copy_walk x k) k w t i 1 (λ j. v) (given o) (one_copies x k t (suc i) v.body.child (list_down o)))
one_copies x (suc k) (t_list w t) i v o =
    node_copies x k (t_list w t) i 1 (λ j. v) (given o) (lists_copies x (copy_walk x k) k w t i 1 (λ j. v) (given o) (one_copies x k t (suc i) v.body.child (lists_down o)))
one_copies x (suc k) (t_sparse ids nullable f) i v o =
    node_copies x k (t_sparse ids nullable f) i 1 (λ j. v) (given o)
    (sparse_copies x (copy_walk x k) k ids nullable f i 1 (λ j. v) (given o) (λ e p. one_copies x k (f e) (child_of x.plan i e) (v.body.children e) (sparse_down o e p)))
one_copies x (suc k) (t_dense ids nullable f) i v o =
    node_copies x k (t_dense ids nullable f) i 1 (λ j. v) (given o)
    (dense_copies x (copy_walk x k) k ids nullable f i 1 (λ j. v) (given o) (λ e p. one_copies x k (f e) (child_of x.plan i e) (v.body.children e) (dense_down o e p)))
one_copies x (suc k) (t_run_end w t) i v o =
    node_copies x k (t_run_end w t) i 1 (λ j. v) (given o) (run_copies x (copy_walk x k) k w t i 1 (λ j. v) (given o) (one_copies x k t (suc (suc i)) v.body.values (run_down o)))
one_copies x (suc k) (t_dictionary n p) i v o = node_copies x k (t_dictionary n p) i 1 (λ j. v) (given o) (keys_copies x (copy_walk x k) k n p i 1 (λ j. v) (given o))
