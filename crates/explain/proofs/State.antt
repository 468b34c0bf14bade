-- What stops an order of nulls reads the plan alone. Assumes nothing.
use mathlib.Core.Path.{◌≡◌, refl, ap, ap₂, fun_ext, ◌∙◌}
use mathlib.Core.Bool.{cond}
use mathlib.Core.List.{List}
use Prim.Native.Nat.{ℕ, zero, suc}
use lib.ListN.{replicate}
use lib.Dec.{ltb}
use Rattle.walk.specs.State.{Join, code_of, end_of, id_of, rows}
use Rattle.walk.specs.Log.{put, done, wrote, found, next}
use Rattle.walk.specs.Leaves.{null_numbers, null_string}
use Rattle.walk.specs.Nulls.{NullWalk, nullable_child, no_home, null_list_view, null_list, null_sparse, null_dense, add_run, grow_run, null_runs, null_data, null_walk}
use Rattle.leaf_walk.specs.Join.{join}
use Rattle.transform.proofs.Laws.{null_plan}
use Rattle.explain.specs.stops.Why.{nothing, named, unless, past}
use Rattle.explain.specs.stops.Nulls.{WhyNullWalk, walked, why_null_fields, why_null_sparse, why_null_home, why_null_dense, why_null_end, why_null_runs, why_null_data, why_null_node, why_nulls}
use Rattle.walk.proofs.Names.{null_fields}
use Rattle.walk.specs.Copy.{each_field}

module _ (plan parts parts2 lengths lengths2 places places2 body body2 : List ℕ) (first first2 source source2 : ℕ) where
  abbrev one : Join
  one = join plan parts lengths places body first source

  abbrev other : Join
  other = join plan parts2 lengths2 places2 body2 first2 source2

  -- ---- the walk of a node

  fields_plan : (child : NullWalk) (n end f k : ℕ) (c : List ℕ) → null_fields one child n end f k c ≡ null_fields other child n end f k c
  unfolding each_field
  fields_plan child n end zero k c = refl
  fields_plan child n end (suc f) k c = ap (λ z. cond (ltb k end) (next (child k n c) z) (done c)) (fun_ext (λ c2. fields_plan child n end f (end_of plan k) c2))

  sparse_plan : (child : NullWalk) (i n : ℕ) (c : List ℕ) → null_sparse one child i n c ≡ null_sparse other child i n c
  unfolding null_sparse
  sparse_plan child i n c =
      ap (found 32 (nullable_child plan (end_of plan i) 32 (suc i)) (no_home plan i) c)
      (fun_ext (λ h. ap (next (wrote (put i 1 (rows c i) (replicate n (id_of plan h))) c)) (fun_ext (λ c2. fields_plan child n (end_of plan i) 32 (suc i) c2))))

  data_plan : (child : NullWalk) (code i n : ℕ) (c : List ℕ) → null_data one child code i n c ≡ null_data other child code i n c
  unfolding null_data null_numbers null_string null_list_view null_list null_dense null_runs add_run grow_run
  data_plan child code i n c = rw (sparse_plan child i n c)

  -- ---- what stops it

  fields_why : (child : NullWalk) (why : WhyNullWalk) (n end f k : ℕ) (c : List ℕ) → why_null_fields one child why n end f k c ≡ why_null_fields other child why n end f k c
  unfolding why_null_fields
  fields_why child why n end zero k c = refl
  fields_why child why n end (suc f) k c = ap (λ z. cond (ltb k end) (past (child k (walked n) c) (why k n c) z) nothing) (fun_ext (λ c2. fields_why child why n end f (end_of plan k) c2))

  sparse_why : (child : NullWalk) (why : WhyNullWalk) (i n : ℕ) (c : List ℕ) → why_null_sparse one child why i n c ≡ why_null_sparse other child why i n c
  unfolding why_null_sparse
  sparse_why child why i n c = ap (unless (ltb (nullable_child plan (end_of plan i) 32 (suc i)) 32) (named (no_home plan i) i)) (fields_why child why n (end_of plan i) 32 (suc i) c)

  node_why : (child : NullWalk) (why : WhyNullWalk) (i n : ℕ) (c : List ℕ) → why_null_node one child why i n c ≡ why_null_node other child why i n c
  unfolding why_null_node why_null_data why_null_dense why_null_home why_null_runs why_null_end
  node_why child why i n c = rw (sparse_why child why i n c, data_plan child (code_of plan i) i (walked n) c)

  pub why_plan : (depth i n : ℕ) (c : List ℕ) → why_nulls one depth i n c ≡ why_nulls other depth i n c
  unfolding why_nulls
  why_plan zero i n c = refl
  why_plan (suc depth) i n c =
      node_why (null_walk one depth) (why_nulls one depth) i n c
      ∙ ap₂ (λ (z : NullWalk) (y : WhyNullWalk). why_null_node other z y i n c)
      (fun_ext (λ i. fun_ext (λ n. fun_ext (λ c. null_plan plan parts parts2 lengths lengths2 places places2 body body2 first first2 source source2 depth i n c))))
      (fun_ext (λ i. fun_ext (λ n. fun_ext (λ c. why_plan depth i n c))))
