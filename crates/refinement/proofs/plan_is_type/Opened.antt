-- Sources that an opening takes are what the walk of an order is given. Assumes nothing.
use mathlib.Core.Path.{◌≡◌, refl, sym, subst, ◌∙◌}
use mathlib.Core.Bool.{Bool, true}
use mathlib.Core.List.{List, Memᴰ}
use Prim.Native.Nat.{ℕ, zero, suc, ◌+◌, ◌<◌}
use native.Mathlib.Omega.{arith}
use lib.Dec.{T}
use Rattle.columnar.specs.Reading.{Column, Source}
use Rattle.schema.specs.Tree.{below, ceilings, typed, same_type}
use Rattle.schema.proofs.Known.{typed_whole, typed_shape, same_size, same_node_lem}
use Rattle.array_data.specs.Tables.{Tables, length_of, offset_of}
use Rattle.array_data.specs.Typed.{field_of, node_of, Is, tables_from, column_of, source_rule}
use Rattle.array_data.specs.type_tree.Lent.{tree_of, type_of}
use Rattle.array_data.proofs.type_tree.Ids.{field_in_lem}
use Rattle.array_data.proofs.type_tree.Shaped.{shaped}
use Rattle.array_data.proofs.type_tree.Lent.{child_same, formed}
use Rattle.array_data.proofs.type_tree.Same.{place_same, kind_same, same_means}
use Rattle.array_data.proofs.type_tree.Source.{same_source}
use Rattle.model.proofs.Owed.{Ready}
use Rattle.walk.specs.State.{far}
use Rattle.refinement.specs.walk_is_model.Holds.{child_of}
use Rattle.refinement.specs.walk_is_model.Lent.{Lent, Based}
use Rattle.refinement.proofs.walk_is_model.Types.{Opened}
use Rattle.refinement.specs.plan_is_type.Planted.{Planted, join_of}
use Rattle.refinement.specs.plan_is_type.Taken.{type_is, columns, columns_as, Taken}
use Rattle.refinement.proofs.plan_is_type.Planted.{union_below, child_node_lem}
use Rattle.refinement.proofs.plan_is_type.Worded.{planted_worded}
use Rattle.refinement.proofs.plan_is_type.Lent.{lent_at}
use Rattle.refinement.proofs.plan_is_type.Self.{same_self}
use Rattle.refinement.proofs.plan_is_type.OneTree.{same_column}
use Rattle.array_data.proofs.Names.{union_kind}

module _ (formats schema : List ℕ) (first n : ℕ) (plan : List ℕ)
    (t : typed formats schema first n ≡ true) (c : ceilings formats schema first n ≡ true) (p : Planted plan formats schema first n)
    (first' n' : ℕ) (same : same_type formats schema first n first' n' ≡ true) where
  -- the plan's children are those of another tree of the same type
  kids_there : (i : ℕ) (b : Bool) (ids : List ℕ) → Is (tree_of formats schema first' n) i (union_kind b ids) → (e : ℕ) → Memᴰ e ids
      → child_of plan i e ≡ node_of (tree_of formats schema first' n) i ids e
  kids_there i b ids h e q =
      let l = h.0 in
      let agree = same_node_lem formats schema first n first' n' same in
      let w = typed_whole formats schema first n t in
      let k = kind_same formats schema first first' n agree w i l (shaped formats schema first i (typed_shape formats schema first n t i l)) ∙ h.1 in
      let j = field_of ids e in
      let f : j < below schema first i = omega (arith, union_below formats schema first n plan t c p i l b ids k, field_in_lem ids e q) in
      child_node_lem formats schema first n plan t c p i l b ids k e q
      ∙ sym (child_same formats schema first n i j)
      ∙ place_same formats schema first first' n agree w i j l f
      ∙ child_same formats schema first' n i j

  pub same_child_lem : (i : ℕ) (b : Bool) (ids : List ℕ) → Is (tree_of formats schema first' n') i (union_kind b ids) → (e : ℕ) → Memᴰ e ids
      → child_of plan i e ≡ node_of (tree_of formats schema first' n') i ids e
  same_child_lem =
      subst
      (λ m. (i : ℕ) (b : Bool) (ids : List ℕ) → Is (tree_of formats schema first' m) i (union_kind b ids) → (e : ℕ) → Memᴰ e ids → child_of plan i e ≡ node_of (tree_of formats schema first' m) i ids e)
      (same_size formats schema first n first' n' same)
      kids_there

  -- THE TABLES OF A SOURCE OF THE TYPE HOLD ITS COLUMN
  pub lent_column : (x : Tables) (parts : List ℕ) (s : ℕ) → T (source_rule (tree_of formats schema first' n') (tables_from x first'))
      → ((i : ℕ) → i < n' → offset_of (tables_from x first') i + length_of (tables_from x first') i < far)
      → Lent (join_of x plan parts first' s) (type_of formats schema first n) 0 (column_of (tree_of formats schema first' n') (tables_from x first') (type_of formats schema first n) 0)
  lent_column x parts s all sums =
      lent_at (tree_of formats schema first' n') x first' plan parts s all sums same_child_lem (type_of formats schema first n) 0 (same_means formats schema first n first' n' t c same)

module _ (formats schema : List ℕ) (x : Tables) (first_of nodes_of : ℕ → ℕ) (plan : List ℕ) (m : ℕ) (k : Taken formats schema x first_of nodes_of plan m) where
  pub all_alike : (s : ℕ) → s < m → same_type formats schema (first_of 0) (nodes_of 0) (first_of s) (nodes_of s) ≡ true
  all_alike zero l = same_self formats schema (first_of 0) (nodes_of 0) k.is_typed
  all_alike (suc s) l = k.alike (suc s) (omega arith) l

  pub all_obey_lem : (s : ℕ) → s < m → Source (type_is formats schema first_of nodes_of) (columns formats schema x first_of nodes_of s)
  all_obey_lem s l =
      same_source formats schema (first_of 0) (nodes_of 0) (tables_from x (first_of s)) k.is_typed k.low (first_of s) (nodes_of s) (all_alike s l) (k.rules s l)

  -- WHAT AN ORDER WITH SOURCE s IS GIVEN, for columns that are those of the sources
  pub opened_as : (ss : ℕ → Column (type_is formats schema first_of nodes_of)) → ((j : ℕ) → j < m → ss j ≡ columns formats schema x first_of nodes_of j) → (parts : List ℕ) (s : ℕ) → s < m
      → Based plan s (type_is formats schema first_of nodes_of) 0 m (λ j. (ss j).body)
      → Ready (type_is formats schema first_of nodes_of) m (λ j. (ss j).body)
      → Opened (join_of x plan parts (first_of s) s) 8 (type_is formats schema first_of nodes_of) 0 m ss
  opened_as ss e parts s l b r =
      record {
        worded = planted_worded formats schema (first_of 0) (nodes_of 0) plan k.is_typed k.low k.planted;
        formed = formed formats schema (first_of 0) (nodes_of 0) k.is_typed k.low;
        known = l;
        lent = subst (Lent (join_of x plan parts (first_of s) s) (type_is formats schema first_of nodes_of) 0) (sym (e s l))
            (lent_column formats schema (first_of 0) (nodes_of 0) plan k.is_typed k.low k.planted (first_of s) (nodes_of s) (all_alike s l) x parts s (k.rules s l) (k.sums s l));
        based = b;
        obey = λ j h. subst (Source (type_is formats schema first_of nodes_of)) (sym (e j h)) (all_obey_lem j h);
        ready = r;
      }

  -- .. read by their own trees
  pub opened : (parts : List ℕ) (s : ℕ) → s < m
      → Based plan s (type_is formats schema first_of nodes_of) 0 m (λ j. (columns formats schema x first_of nodes_of j).body)
      → Ready (type_is formats schema first_of nodes_of) m (λ j. (columns formats schema x first_of nodes_of j).body)
      → Opened (join_of x plan parts (first_of s) s) 8 (type_is formats schema first_of nodes_of) 0 m (columns formats schema x first_of nodes_of)
  opened = opened_as (columns formats schema x first_of nodes_of) (λ j h. refl)

  -- .. or all by the first source's
  pub opened_one : (parts : List ℕ) (s : ℕ) → s < m
      → Based plan s (type_is formats schema first_of nodes_of) 0 m (λ j. (columns_as formats schema x first_of nodes_of j).body)
      → Ready (type_is formats schema first_of nodes_of) m (λ j. (columns_as formats schema x first_of nodes_of j).body)
      → Opened (join_of x plan parts (first_of s) s) 8 (type_is formats schema first_of nodes_of) 0 m (columns_as formats schema x first_of nodes_of)
  opened_one =
      opened_as (columns_as formats schema x first_of nodes_of)
      (λ j h. same_column formats schema (first_of 0) (nodes_of 0) (first_of j) (nodes_of j) (all_alike j h) (tables_from x (first_of j)) (type_is formats schema first_of nodes_of) 0)
