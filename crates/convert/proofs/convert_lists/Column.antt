-- A column that meets none of the grounds 9, 10 and 12, seen with the type of another tree that agrees with its own below the root: what its
-- tables hold and name, and where a plan of that tree keeps nulls. Assumes nothing.
use mathlib.Core.Path.{◌≡◌, refl, sym, ap, subst, ◌∙◌}
use mathlib.Core.Bool.{Bool, true, false, cond, ◌&&◌}
use mathlib.Core.List.{List, [], ◌∷◌, Memᴰ}
use Prim.Native.Nat.{ℕ, zero, suc, ◌+◌, ◌≤◌, ◌<◌}
use native.Mathlib.Nat.{add-zero, zero-add}
use native.Mathlib.Omega.{arith}
use lib.ListN.{get_or}
use lib.Dec.{T, ltb}
use Rattle.columnar.specs.Types.{fixed, string, Ty, t_plain, t_view, t_list_view, t_list, t_sparse, t_dense, t_run_end, t_dictionary}
use Rattle.columnar.specs.Array.{Array, ok, nulls_in, null_count_of}
use Rattle.columnar.specs.RunEnd.{RunEnd, RunEndRule}
use Rattle.columnar.specs.Kids.{node_down}
use Rattle.columnar.proofs.Kids.{below_from}
use Rattle.columnar.specs.Test.{run_end_test}
use Rattle.columnar.proofs.Test.{Agrees, every_out, array_agrees, run_end_agrees}
use Rattle.model.proofs.Bits.{get_d_seg}
use Rattle.array_data.specs.Tables.{Tables, length_of, offset_of, first_buffer, array_with, held, valid_in}
use Rattle.array_data.specs.Rules.{child_of, run_end_rule}
use Rattle.array_data.specs.NodeKinds.{run_end_node}
use Rattle.array_data.specs.Typed.{Tree, node_of, Is, Means, tables_from, body_of, column_of, kind_rule, node_rule, source_rule}
use Rattle.array_data.specs.lent_tables.Lent.{tables}
use Rattle.array_data.specs.type_tree.Lent.{tree_of}
use Rattle.walk.specs.State.{far, word, keeps_of}
use Rattle.refinement.specs.walk_is_model.Memory.{Memory}
use Rattle.refinement.specs.walk_is_model.Holds.{flag}
use Rattle.refinement.specs.walk_is_model.Holds as holds
use Rattle.refinement.specs.walk_is_model.Lent as lent_tables
use Rattle.columns.specs.Grounds.{within_ceilings}
use Rattle.refinement.specs.plan_is_type.Planted.{join_of}
use Rattle.refinement.proofs.plan_is_type.Lent.{lent_at}
use Rattle.refinement.proofs.plan_is_type.Kids.{column_there, there_kid}
use Rattle.refinement.proofs.opening.Taken.{few_at}
use Rattle.refinement.proofs.finishing.SourceNames.{named_at_lem}
use Rattle.anew.specs.ResultPlan.{keeps_from}
use Rattle.anew.proofs.Bits.{keeps_typed}
use Rattle.anew.proofs.Held.{NamedBelow}
use Rattle.anew.proofs.Result.{lent_for}
use Rattle.convert.specs.convert_lists.Exact.{ExactNode, ExactData}
use Rattle.convert.specs.convert_lists.Turned.{all_nodes}
use Rattle.array_data.proofs.Names.{union_kind}

right : (a b : Bool) → T (a && b) → T b
right true b h = h
right false b h = absurd h

-- every slot is valid
none_null : (f : ℕ → Bool) (n a : ℕ) → ((k : ℕ) → k < n → T (f (a + k))) → nulls_in f a n ≡ 0
none_null f zero a h = refl
none_null f (suc n) a h = go (f a) (rw add-zero at (h 0 (omega arith))) (none_null f n (suc a) (λ k l. let e : a + suc k ≡ suc a + k = omega arith in rw e at (h (suc k) (omega arith))))
  where
    go : (b : Bool) → T b → nulls_in f (suc a) n ≡ 0 → cond b 0 1 + nulls_in f (suc a) n ≡ 0
    go true t e = zero-add _ ∙ e
    go false t e = absurd t

-- every node comes from the one of the same number
pub from_same : (i : ℕ) → i < 32 → get_or all_nodes i 0 ≡ suc i
from_same i l = get_d_seg suc 0 32 i 0 l ∙ ap suc (zero-add i)

module _ (formats schema : List ℕ) (x : Tables) (first n : ℕ) (small : n ≤ 32) (within : within_ceilings formats schema x first n ≡ true) where
  abbrev tree : Tree
  tree = tree_of formats schema first n

  abbrev own : Tables
  own = tables_from x first

  -- a node that stands for a type is one of the tree's
  means_in : (u : Ty) (i : ℕ) → Means tree u i → i < n
  means_in (t_plain (fixed k)) i h = h.0
  means_in (t_plain (string w)) i h = h.0
  means_in t_view i h = h.0
  means_in (t_list_view w u) i h = h.0.0
  means_in (t_list w u) i h = h.0.0
  means_in (t_sparse ids nullable f) i h = h.0.0
  means_in (t_dense ids nullable f) i h = h.0.0
  means_in (t_run_end w u) i h = h.0.0
  means_in (t_dictionary k p) i h = h.0.0

  module _ (plan parts : List ℕ) (kids : (i : ℕ) (b : Bool) (ids : List ℕ) → Is tree i (union_kind b ids) → (e : ℕ) → Memᴰ e ids → holds.child_of plan i e ≡ node_of tree i ids e) where
    -- ---- which nodes keep nulls

    module _ (keeps_are : (i : ℕ) → i < n → keeps_of plan i ≡ flag (keeps_from (tables x.lengths x.places x.body) first all_nodes i)) where
      keeps_there : {B : Type 0} (i : ℕ) (b : B) → i < n → keeps_of plan i ≡ flag (ltb 0 (null_count_of (array_with own b i)))
      keeps_there i b l = keeps_are i l ∙ ap flag (keeps_typed x first all_nodes i i (from_same i (omega arith)) b)

      -- NODES KEEP NULLS EXACTLY where the column's have one
      pub exact_at : (u : Ty) (i : ℕ) → Means tree u i → ExactData plan u i (body_of tree own u i)
      exact_at (t_plain p) i h = tt
      exact_at t_view i h = tt
      exact_at (t_list_view w u) i h = record { keeps_are = keeps_there (suc i) (body_of tree own u (suc i)) (means_in u (suc i) h.1); below = exact_at u (suc i) h.1 }
      exact_at (t_list w u) i h = record { keeps_are = keeps_there (suc i) (body_of tree own u (suc i)) (means_in u (suc i) h.1); below = exact_at u (suc i) h.1 }
      exact_at (t_sparse ids nullable f) i h =
          λ e q. let k = node_of tree i ids e in
          subst (λ z. ExactNode plan z (ExactData plan (f e) z) (column_of tree own (f e) k)) (sym (kids i true ids h.0 e q))
          (record { keeps_are = keeps_there k (body_of tree own (f e) k) (means_in (f e) k (h.1 e q).1); below = exact_at (f e) k (h.1 e q).1 })
      exact_at (t_dense ids nullable f) i h =
          λ e q. let k = node_of tree i ids e in
          subst (λ z. ExactNode plan z (ExactData plan (f e) z) (column_of tree own (f e) k)) (sym (kids i false ids h.0 e q))
          (record { keeps_are = keeps_there k (body_of tree own (f e) k) (means_in (f e) k (h.1 e q).1); below = exact_at (f e) k (h.1 e q).1 })
      exact_at (t_run_end w u) i h =
          record { keeps_are = keeps_there (suc (suc i)) (body_of tree own u (suc (suc i))) (means_in u (suc (suc i)) h.2); below = exact_at u (suc (suc i)) h.2 }
      exact_at (t_dictionary k p) i h = tt

    -- ---- what the tables hold and name

    module _ (all : T (source_rule tree own)) (sums : (i : ℕ) → i < n → offset_of own i + length_of own i < far) where
      pub lent_there : (u : Ty) (i : ℕ) → Means tree u i → lent_tables.Lent (join_of x plan parts first 0) u i (column_of tree own u i)
      lent_there = lent_at tree x first plan parts 0 all sums kids

      module _ (kept : (i : ℕ) → i < n → word plan i 7 ≡ 0) (counters : List ℕ) (μ : Memory) where
        pub named_there : (u : Ty) (i : ℕ) → Means tree u i → NamedBelow (lent_for x plan parts first n) x.buffers counters μ u i (body_of tree own u i)
        named_there u i h =
            below_from (node_down (holds.in_plan plan)) _ _ (column_there tree own) (there_kid tree own plan kids)
            (λ s. let q = named_at_lem tree x plan parts (first ∷ n ∷ []) 0 all kids t_view s.0 s.1 in
            record { buffers_are = q.buffers_are; inside = q.inside; few = few_at formats schema x first n within t_view s.0 s.1 })
            (λ k p s. (kept s.0 s.1.0.0, lent_there (t_plain p) (suc s.0) s.1.1)) u (i, h)

-- ---- run ends have no nulls

pub ends_valid : (t : Tree) (y : Tables) → T (source_rule t y) → (i w : ℕ) → Is t i (run_end_node w) → null_count_of (array_with y (first_buffer y (suc i)) (suc i)) ≡ 0
ends_valid t y all i w h =
    let r : T (run_end_rule y i w) = subst (λ k. T (kind_rule t y k i)) h.1 (every_out (node_rule t y) t.count all i h.0) in
    let ends = array_with y (first_buffer y (suc i)) (suc i) in
    let runs : Array (RunEnd (Unit {0})) = array_with y (record { ends = ends; values = child_of y (suc (suc i)) }) i in
    let any : (a : Array (Unit {0})) → Agrees true (Unit {0}) = λ a. record { sound = λ q. tt; complete = λ q. tt } in
    let e = (array_agrees false (RunEndRule w (λ a. Unit {0})) (run_end_test w (λ a. true)) (run_end_agrees (λ a. Unit {0}) (λ a. true) any w) runs).sound (right (held y i && valid_in y i) _ r) in
    none_null (ok ends.valid) ends.len ends.off e.slots.no_nulls
