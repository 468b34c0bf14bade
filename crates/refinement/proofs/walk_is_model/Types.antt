-- EVERY TYPE: the walk of an order does what the model does, at most eight levels down. Assumes nothing.
use mathlib.Core.Path.{◌≡◌}
use mathlib.Core.List.{List, [], Memᴰ}
use Prim.Native.Nat.{ℕ, zero, suc, ◌+◌, ◌≤◌, ◌<◌}
use native.Mathlib.Omega.{arith}
use lib.ListN.{length}
use Rattle.columnar.specs.Types.{Ty, t_plain, t_view, t_list_view, t_list, t_sparse, t_dense, t_run_end, t_dictionary}
use Rattle.columnar.specs.Formed.{Formed}
use Rattle.columnar.specs.Reading.{Column, Source}
use Rattle.model.proofs.Owed.{Ready}
use Rattle.model.proofs.Types.{law}
use Rattle.walk.specs.State.{Join, end_of}
use Rattle.walk.specs.Copy.{copy_walk}
use Rattle.walk.specs.Nulls.{null_walk}
use Rattle.refinement.specs.walk_is_model.Holds.{child_of, Worded}
use Rattle.refinement.specs.walk_is_model.Lent.{Lent, Based}
use Rattle.refinement.proofs.walk_is_model.Frame.{field_of}
use Rattle.refinement.proofs.walk_is_model.Owed.{Given, Copies, Fills}
use Rattle.refinement.proofs.walk_is_model.Node.{node_copies, node_fills}
use Rattle.refinement.proofs.walk_is_model.Plain.{plain_copies, plain_fills}
use Rattle.refinement.proofs.walk_is_model.Views.{view_copies, view_fills}
use Rattle.refinement.proofs.walk_is_model.Keys.{keys_copies, keys_fills}
use Rattle.refinement.proofs.walk_is_model.ListViews.{list_copies, list_fills}
use Rattle.refinement.proofs.walk_is_model.Lists.{lists_copies, lists_fills}
use Rattle.refinement.proofs.walk_is_model.RunEnds.{run_copies, run_fills}
use Rattle.refinement.proofs.walk_is_model.SparseGoes.{sparse_copies, sparse_fills}
use Rattle.refinement.proofs.walk_is_model.DenseGoes.{dense_copies, dense_fills}

-- what an order is given at node i: the plan's words, the tables of its source, and sources that obey the rules and whose dictionaries fit
pub record Opened (x : Join) (k : ℕ) (t : Ty) (i m : ℕ) (ss : ℕ → Column t) : Type 0 where
  pub worded : Worded x.plan k t i
  pub formed : Formed t
  pub known : x.source < m
  pub lent : Lent x t i (ss x.source)
  pub based : Based x.plan x.source t i m (λ j. (ss j).body)
  pub obey : (j : ℕ) → j < m → Source t (ss j)
  pub ready : Ready t m (λ j. (ss j).body)

given : {x : Join} {k : ℕ} {t : Ty} {i m : ℕ} {ss : ℕ → Column t} → Opened x k t i m ss → Given x k t i m ss
given {x} {k} {t} {i} {m} {ss} o =
    record {
      worded = o.worded;
      formed = o.formed;
      known = o.known;
      lent = o.lent;
      based = o.based;
      obey = o.obey;
      lawful = law t m ss o.obey o.ready;
    }

-- ---- the same one level down

module _ {x : Join} {k i m : ℕ} where
  list_down : {w : ℕ} {t : Ty} {ss : ℕ → Column (t_list_view w t)} → Opened x (suc k) (t_list_view w t) i m ss → Opened x k t (suc i) m (λ j. (ss j).body.child)
  list_down o =
      record {
        worded = o.worded.4;
        formed = o.formed.1;
        known = o.known;
        lent = o.lent.body_is.2;
        based = o.based;
        obey = λ j h. (o.obey j h).slots.child_rule;
        ready = o.ready;
      }

  lists_down : {w : ℕ} {t : Ty} {ss : ℕ → Column (t_list w t)} → Opened x (suc k) (t_list w t) i m ss → Opened x k t (suc i) m (λ j. (ss j).body.child)
  lists_down o =
      record {
        worded = o.worded.4;
        formed = o.formed.1;
        known = o.known;
        lent = o.lent.body_is.1;
        based = o.based;
        obey = λ j h. (o.obey j h).slots.child_rule;
        ready = o.ready;
      }

  run_down : {w : ℕ} {t : Ty} {ss : ℕ → Column (t_run_end w t)} → Opened x (suc k) (t_run_end w t) i m ss → Opened x k t (suc (suc i)) m (λ j. (ss j).body.values)
  run_down o =
      record {
        worded = o.worded.4;
        formed = o.formed.1;
        known = o.known;
        lent = o.lent.body_is.1;
        based = o.based;
        obey = λ j h. (o.obey j h).slots.child_rule;
        ready = o.ready;
      }

  sparse_down : {ids : List ℕ} {nullable : ℕ → _} {f : ℕ → Ty} {ss : ℕ → Column (t_sparse ids nullable f)} → Opened x (suc k) (t_sparse ids nullable f) i m ss
      → (e : ℕ) → Memᴰ e ids → Opened x k (f e) (child_of x.plan i e) m (λ j. (ss j).body.children e)
  sparse_down {ids} {nullable} {f} o e p =
      record {
        worded = (field_of x.plan (λ c. Worded x.plan k (f c)) nullable (end_of x.plan i) ids (suc i) 32 e o.worded.4 (omega (arith, o.worded.2)) p).is_kid;
        formed = o.formed.1 e p;
        known = o.known;
        lent = o.lent.body_is.1 e p;
        based = o.based e p;
        obey = λ j h. (o.obey j h).slots.child_rule e p;
        ready = o.ready e p;
      }

  dense_down : {ids : List ℕ} {nullable : ℕ → _} {f : ℕ → Ty} {ss : ℕ → Column (t_dense ids nullable f)} → Opened x (suc k) (t_dense ids nullable f) i m ss
      → (e : ℕ) → Memᴰ e ids → Opened x k (f e) (child_of x.plan i e) m (λ j. (ss j).body.children e)
  dense_down {ids} {nullable} {f} o e p =
      record {
        worded = (field_of x.plan (λ c. Worded x.plan k (f c)) nullable (end_of x.plan i) ids (suc i) 32 e o.worded.4 (omega (arith, o.worded.2)) p).is_kid;
        formed = o.formed.1 e p;
        known = o.known;
        lent = o.lent.body_is.2 e p;
        based = o.based e p;
        obey = λ j h. (o.obey j h).slots.child_rule e p;
        ready = o.ready e p;
      }

module _ (x : Join) (m : ℕ) where
  -- A COPY: the same ground, or the model's destination in the counters and the memory, and nothing else changed
  pub copies : (k : ℕ) (t : Ty) (i : ℕ) (ss : ℕ → Column t) → Opened x k t i m ss → Copies x (copy_walk x k) t i m ss
  copies zero t i ss o = absurd o.worded
  copies (suc k) (t_plain p) i ss o = node_copies x k (t_plain p) i m ss (given o) (plain_copies x (copy_walk x k) k p i m ss (given o))
  copies (suc k) t_view i ss o = node_copies x k t_view i m ss (given o) (view_copies x (copy_walk x k) k i m ss (given o))
  copies (suc k) (t_list_view w t) i ss o =
      node_copies x k (t_list_view w t) i m ss (given o) (list_copies x (copy_walk x k) k w t i m ss (given o) (copies k t (suc i) (λ j. (ss j).body.child) (list_down o)))
  copies (suc k) (t_list w t) i ss o =
      node_copies x k (t_list w t) i m ss (given o) (lists_copies x (copy_walk x k) k w t i m ss (given o) (copies k t (suc i) (λ j. (ss j).body.child) (lists_down o)))
  copies (suc k) (t_sparse ids nullable f) i ss o =
      node_copies x k (t_sparse ids nullable f) i m ss (given o)
      (sparse_copies x (copy_walk x k) k ids nullable f i m ss (given o) (λ e p. copies k (f e) (child_of x.plan i e) (λ j. (ss j).body.children e) (sparse_down o e p)))
  copies (suc k) (t_dense ids nullable f) i ss o =
      node_copies x k (t_dense ids nullable f) i m ss (given o)
      (dense_copies x (copy_walk x k) k ids nullable f i m ss (given o) (λ e p. copies k (f e) (child_of x.plan i e) (λ j. (ss j).body.children e) (dense_down o e p)))
  copies (suc k) (t_run_end w t) i ss o =
      node_copies x k (t_run_end w t) i m ss (given o) (run_copies x (copy_walk x k) k w t i m ss (given o) (copies k t (suc (suc i)) (λ j. (ss j).body.values) (run_down o)))
  copies (suc k) (t_dictionary n p) i ss o = node_copies x k (t_dictionary n p) i m ss (given o) (keys_copies x (copy_walk x k) k n p i m ss (given o))

  -- NULLS, likewise
  pub fills : (k : ℕ) (t : Ty) (i : ℕ) (ss : ℕ → Column t) → Opened x k t i m ss → Fills x (null_walk x k) t i m ss
  fills zero t i ss o = absurd o.worded
  fills (suc k) (t_plain p) i ss o = node_fills x k (t_plain p) i m ss (given o) (plain_fills x (null_walk x k) k p i m ss (given o))
  fills (suc k) t_view i ss o = node_fills x k t_view i m ss (given o) (view_fills x (null_walk x k) k i m ss (given o))
  fills (suc k) (t_list_view w t) i ss o = node_fills x k (t_list_view w t) i m ss (given o) (list_fills x (null_walk x k) k w t i m ss (given o))
  fills (suc k) (t_list w t) i ss o = node_fills x k (t_list w t) i m ss (given o) (lists_fills x (null_walk x k) k w t i m ss (given o))
  fills (suc k) (t_sparse ids nullable f) i ss o =
      node_fills x k (t_sparse ids nullable f) i m ss (given o)
      (sparse_fills x (null_walk x k) k ids nullable f i m ss (given o) (λ e p. fills k (f e) (child_of x.plan i e) (λ j. (ss j).body.children e) (sparse_down o e p)))
  fills (suc k) (t_dense ids nullable f) i ss o =
      node_fills x k (t_dense ids nullable f) i m ss (given o)
      (dense_fills x (null_walk x k) k ids nullable f i m ss (given o) (λ e p. fills k (f e) (child_of x.plan i e) (λ j. (ss j).body.children e) (dense_down o e p)))
  fills (suc k) (t_run_end w t) i ss o =
      node_fills x k (t_run_end w t) i m ss (given o) (run_fills x (null_walk x k) k w t i m ss (given o) (fills k t (suc (suc i)) (λ j. (ss j).body.values) (run_down o)))
  fills (suc k) (t_dictionary n p) i ss o = node_fills x k (t_dictionary n p) i m ss (given o) (keys_fills x (null_walk x k) k n p i m ss (given o))
