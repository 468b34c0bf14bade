-- The type of sources stored wider is wider: where the tables say so node by node, the types do. Assumes nothing.
use mathlib.Core.Path.{◌≡◌, refl, sym, ap, subst, ◌∙◌}
use mathlib.Core.Bool.{Bool, true, false, cond, ◌&&◌, ◌||◌, false≢true}
use mathlib.Core.Option.{Option, none, some}
use mathlib.Core.List.{List}
use Prim.Native.Nat.{ℕ, zero, suc, ◌+◌, ◌-◌, ◌≤◌, ◌<◌}
use native.Mathlib.Nat.{le_refl}
use native.Mathlib.Omega.{arith}
use lib.ListN.{length}
use lib.Dec.{eqb}
use borrow.Author.Tests.{eqb-true, ne_eqb}
use Rattle.columnar.specs.Types.{Number, limit, Plain, fixed, string}
use Rattle.columnar.specs.Wider.{Declared, KeyWider, PlainWider, w_fixed, w_string, Wider, w_plain, w_view, w_list_view, w_list, w_sparse, w_dense, w_run_end, w_dictionary}
use Rattle.columnar.proofs.Test.{member_agrees}
use Rattle.schema.specs.formats.Code.{between, is_integer, is_fixed, is_string, is_view, is_list_view, is_list, is_union, is_run_end, width_of}
use Rattle.schema.specs.formats.Types.{number_of, number_or}
use Rattle.schema.specs.Tree.{children, dictionary, below, bare, child_for_each, is_values, end_of, child_at, depth, whole, code_of, ids_of, values_shape, ends_shape, leaf_shape, keys_shape, list_shape, union_shape, run_shape, shape, ceilings, typed}
use Rattle.schema.proofs.Trees.{child_inside, child_is, end_up}
use Rattle.schema.proofs.Depth.{child_depth}
use Rattle.schema.proofs.Known.{typed_whole, typed_shape, within_depth}
use Rattle.array_data.specs.Tables.{Tables}
use Rattle.array_data.proofs.type_tree.ByKind.{plain_as, ty_as, type_as}
use Rattle.array_data.specs.NodeKinds.{NodeKind, fixed_node, view_node, list_view_node, list_node, sparse_node, dense_node, run_end_node, dictionary_node, kind_at}
use Rattle.array_data.specs.Typed.{Tree, child_node, field_of, nullable_in}
use Rattle.array_data.specs.type_tree.Lent.{tree_of, ty_of, type_of}
use Rattle.array_data.proofs.type_tree.Ids.{both, field_in_lem}
use Rattle.array_data.proofs.type_tree.Shaped.{five, integer_fixed, plain_kind, at_fixed, at_keys, at_string, at_view, at_list, at_lists, at_union, at_run}
use Rattle.array_data.proofs.type_tree.Lent.{child_same, first_child, second_child, some_node, root}
use Rattle.columns.specs.Grounds.{sources_ground}
use Rattle.array_data.specs.Sources.{first_of, nodes_of}
use Rattle.columns.proofs.Grounds.{Accepted, accepted, some_source, within_low, within_at_lem, typed_at}
use Rattle.join.specs.Join.{Lending, type_in}
use Rattle.join.specs.Stored.{StoredWider, is_ends, CodeWider, same_code, strings, list_views, plain_lists, keys, run_ends_lem, ends_at, NodeWider}
use Rattle.join.proofs.StoredCodes.{range, ends_range, near, view_kept, string_kept, list_kept, plain_list_kept, run_kept, union_code}
use Rattle.join.proofs.Stored.{end_same}
use Rattle.array_data.proofs.Names.{ids_or, union_kind}
use Rattle.join.proofs.StoredNodes.{integer_number, prev, prev_later, prev_child, no_run, not_keyed, below_single, bare_single, bare_below}

-- ---- a node and the one stored wider

module _ (formats schema : List ℕ) (x : Tables) (first : ℕ) (formats' schema' : List ℕ) (x' : Tables) (first' n : ℕ)
    (nodes : (i : ℕ) → i < n → NodeWider formats schema x first formats' schema' x' first' i) where
  abbrev code : ℕ → ℕ
  code i = code_of formats schema first i

  abbrev code' : ℕ → ℕ
  code' i = code_of formats' schema' first' i

  abbrev kind : ℕ → NodeKind
  kind i = kind_at formats schema first i

  abbrev kind' : ℕ → NodeKind
  kind' i = kind_at formats' schema' first' i

  abbrev ended : ℕ → Bool
  ended i = ends_at formats schema first i

  single' : (i : ℕ) → i < n → eqb (dictionary schema first i) 0 ≡ true → eqb (dictionary schema' first' i) 0 ≡ true
  single' i l h = subst (λ d. eqb d 0 ≡ true) (nodes i l).same_dictionary h

  -- a number or a byte string, that is no run end
  record PlainAt (i : ℕ) : Type 0 where
    p : Plain
    p' : Plain
    wider : PlainWider p p'
    here : kind i ≡ plain_kind p
    there : kind' i ≡ plain_kind p'

  number_at : (i : ℕ) → i < n → ended i ≡ false → is_fixed (code i) ≡ true → eqb (dictionary schema first i) 0 ≡ true → PlainAt i
  number_at i l o h z = go (nodes i l).wider_code
    where
      go : CodeWider (eqb (dictionary schema first i) 1) (ended i) (code i) (code' i) → PlainAt i
      go (same_code e) =
          record {
            p = fixed (number_or (number_of (code i)));
            p' = fixed (number_or (number_of (code i)));
            wider = w_fixed (number_or (number_of (code i)));
            here = at_fixed formats schema first i h z;
            there = at_fixed formats' schema' first' i (subst (λ c. is_fixed c ≡ true) e h) (single' i l z) ∙ ap (λ c. fixed_node (number_or (number_of c))) (sym e);
          }
      go (strings a b r) = absurd (omega (arith, (range 1 10 (code i) h).1, (range 11 14 (code i) a).0))
      go (list_views a b r) = absurd (omega (arith, (range 1 10 (code i) h).1, (range 17 18 (code i) a).0))
      go (plain_lists a b r) = absurd (omega (arith, (range 1 10 (code i) h).1, (range 19 20 (code i) a).0))
      go (keys k a b r) = absurd (not_keyed schema first i z k)
      go (run_ends_lem k a b r) = absurd (false≢true (sym o ∙ k))

  text_at : (i : ℕ) → i < n → is_string (code i) ≡ true → PlainAt i
  text_at i l h =
      record {
        p = string (width_of (code i));
        p' = string (width_of (code' i));
        wider = w_string (width_of (code i)) (width_of (code' i)) (go (nodes i l).wider_code);
        here = at_string formats schema first i h;
        there = at_string formats' schema' first' i (string_kept (code i) (code' i) (near (nodes i l).wider_code) h);
      }
    where
      go : CodeWider (eqb (dictionary schema first i) 1) (ended i) (code i) (code' i) → width_of (code i) ≤ width_of (code' i)
      go (same_code e) = subst (λ c. width_of (code i) ≤ width_of c) e (le_refl (width_of (code i)))
      go (strings a b r) = r
      go (list_views a b r) = absurd (omega (arith, (range 11 14 (code i) h).1, (range 17 18 (code i) a).0))
      go (plain_lists a b r) = absurd (omega (arith, (range 11 14 (code i) h).1, (range 19 20 (code i) a).0))
      go (keys k a b r) = absurd (omega (arith, (range 11 14 (code i) h).0, (range 1 8 (code i) a).1))
      go (run_ends_lem k a b r) = absurd (omega (arith, (range 11 14 (code i) h).0, (ends_range (code i) a).1))

  plain_at_lem : (i : ℕ) → i < n → ended i ≡ false → is_fixed (code i) || is_string (code i) ≡ true → eqb (dictionary schema first i) 0 ≡ true → PlainAt i
  plain_at_lem i l o h z = go (is_fixed (code i)) refl h
    where
      go : (b : Bool) → is_fixed (code i) ≡ b → b || is_string (code i) ≡ true → PlainAt i
      go true e g = number_at i l o e z
      go false e g = text_at i l g

  -- the kinds of node i, and how much stands below it
  data Kinds (i : ℕ) : Type 0 where
    k_plain : PlainAt i → Kinds i
    k_view : kind i ≡ view_node → kind' i ≡ view_node → Kinds i
    k_list : (v v' : ℕ) → v ≤ v' → kind i ≡ list_view_node v → kind' i ≡ list_view_node v' → below schema first i ≡ 1 → is_run_end (code i) ≡ false → Kinds i
    k_lists : (v v' : ℕ) → v ≤ v' → kind i ≡ list_node v → kind' i ≡ list_node v' → below schema first i ≡ 1 → is_run_end (code i) ≡ false → Kinds i
    k_sparse : (ids : List ℕ) → kind i ≡ sparse_node ids → kind' i ≡ sparse_node ids → below schema first i ≡ length ids → is_run_end (code i) ≡ false → eqb (dictionary schema first i) 1 ≡ false → Kinds i
    k_dense : (ids : List ℕ) → kind i ≡ dense_node ids → kind' i ≡ dense_node ids → below schema first i ≡ length ids → is_run_end (code i) ≡ false → eqb (dictionary schema first i) 1 ≡ false → Kinds i
    k_run : (v v' : ℕ) → v ≤ v' → kind i ≡ run_end_node v → kind' i ≡ run_end_node v' → below schema first i ≡ 2 → below schema first (suc i) ≡ 0 → Kinds i
    k_keys : (k k' : Number) → KeyWider k k' → kind i ≡ dictionary_node k → kind' i ≡ dictionary_node k' → PlainAt (suc i) → Kinds i

  leaf_kinds : (i : ℕ) → i < n → ended i ≡ false → leaf_shape formats schema first i ≡ true → Kinds i
  unfolding leaf_shape
  leaf_kinds i l o h =
      let p = both (is_fixed (code i) || is_string (code i) || is_view (code i)) (bare schema first i) h in
      go (is_fixed (code i) || is_string (code i)) refl p.0 (bare_single schema first i p.1)
    where
      go : (b : Bool) → is_fixed (code i) || is_string (code i) ≡ b → b || is_view (code i) ≡ true → eqb (dictionary schema first i) 0 ≡ true → Kinds i
      go true e g z = k_plain (plain_at_lem i l o e z)
      go false e g z = k_view (at_view formats schema first i g) (at_view formats' schema' first' i (view_kept (code i) (code' i) (near (nodes i l).wider_code) g))

  list_kinds : (i : ℕ) → i < n → list_shape formats schema first i ≡ true → Kinds i
  unfolding list_shape
  list_kinds i l h =
      let p = both ((is_list_view (code i) || is_list (code i)) && eqb (children schema first i) 1) (eqb (dictionary schema first i) 0) h in
      let q = both (is_list_view (code i) || is_list (code i)) (eqb (children schema first i) 1) p.0 in
      of (is_list_view (code i)) refl q.0 (below_single schema first i p.1 ∙ eqb-true (children schema first i) 1 q.1)
    where
      go : is_list_view (code i) ≡ true → CodeWider (eqb (dictionary schema first i) 1) (ended i) (code i) (code' i) → width_of (code i) ≤ width_of (code' i)
      go g (same_code e) = subst (λ c. width_of (code i) ≤ width_of c) e (le_refl (width_of (code i)))
      go g (strings a b r) = absurd (omega (arith, (range 17 18 (code i) g).0, (range 11 14 (code i) a).1))
      go g (list_views a b r) = r
      go g (plain_lists a b r) = r
      go g (keys k a b r) = absurd (omega (arith, (range 17 18 (code i) g).0, (range 1 8 (code i) a).1))
      go g (run_ends_lem k a b r) = absurd (omega (arith, (range 17 18 (code i) g).0, (ends_range (code i) a).1))

      go_list : is_list (code i) ≡ true → CodeWider (eqb (dictionary schema first i) 1) (ended i) (code i) (code' i) → width_of (code i) ≤ width_of (code' i)
      go_list g (same_code e) = subst (λ c. width_of (code i) ≤ width_of c) e (le_refl (width_of (code i)))
      go_list g (strings a b r) = r
      go_list g (list_views a b r) = r
      go_list g (plain_lists a b r) = r
      go_list g (keys k a b r) = absurd (omega (arith, (range 19 20 (code i) g).0, (range 1 8 (code i) a).1))
      go_list g (run_ends_lem k a b r) = absurd (omega (arith, (range 19 20 (code i) g).0, (ends_range (code i) a).1))

      of : (v : Bool) → is_list_view (code i) ≡ v → v || is_list (code i) ≡ true → below schema first i ≡ 1 → Kinds i
      of true e g z =
          k_list (width_of (code i)) (width_of (code' i)) (go e (nodes i l).wider_code) (at_list formats schema first i e)
          (at_list formats' schema' first' i (list_kept (code i) (code' i) (near (nodes i l).wider_code) e)) z (no_run 17 18 (code i) e (omega arith))
      of false e g z =
          k_lists (width_of (code i)) (width_of (code' i)) (go_list g (nodes i l).wider_code) (at_lists formats schema first i g)
          (at_lists formats' schema' first' i (plain_list_kept (code i) (code' i) (near (nodes i l).wider_code) g)) z (no_run 19 20 (code i) g (omega arith))

  ids_children : (o : Option (List ℕ)) (i : ℕ) → child_for_each schema first o i ≡ true → children schema first i ≡ length (ids_or o)
  ids_children none i h = absurd (false≢true h)
  ids_children (some ids) i h = sym (eqb-true (length ids) (children schema first i) h)

  union_kinds : (i : ℕ) → i < n → union_shape formats schema first i ≡ true → Kinds i
  unfolding union_shape
  union_kinds i l h =
      let ids = ids_of formats schema first i in
      let p = both (is_union (code i) && child_for_each schema first ids i) (eqb (dictionary schema first i) 0) h in
      let q = both (is_union (code i)) (child_for_each schema first ids i) p.0 in
      let e = union_code (code i) (code' i) q.0 (nodes i l).wider_code in
      let b = below_single schema first i p.1 ∙ ids_children ids i q.1 in
      let a = at_union formats schema first i q.0 in
      let a' = at_union formats' schema' first' i (subst (λ c. is_union c ≡ true) e q.0) ∙ ap (λ c. union_kind (eqb c 21) (ids_or (ids_of formats' schema' first' i))) (sym e) ∙ ap (λ o. union_kind (eqb (code i) 21) (ids_or o)) (sym ((nodes i l).same_ids_lem q.0)) in
      go (eqb (code i) 21) (ids_or ids) a a' b (no_run 21 22 (code i) q.0 (omega arith)) (ne_eqb (dictionary schema first i) 1 (λ z. not_keyed schema first i p.1 (subst (λ d. eqb d 1 ≡ true) (sym z) refl)))
    where
      go : (b : Bool) (ids : List ℕ) → kind i ≡ union_kind b ids → kind' i ≡ union_kind b ids → below schema first i ≡ length ids → is_run_end (code i) ≡ false → eqb (dictionary schema first i) 1 ≡ false → Kinds i
      go true ids e e' b r d = k_sparse ids e e' b r d
      go false ids e e' b r d = k_dense ids e e' b r d

  module _ (w : whole schema first n ≡ true) where
    next_in : (i : ℕ) → i < n → 0 < below schema first i → suc i < n
    unfolding child_at
    next_in i l h = child_inside schema first n w i 0 l h

    keys_below_lem : (i : ℕ) → dictionary schema first i ≡ 1 → 0 < below schema first i
    unfolding below
    keys_below_lem i e = let one : ◌≡◌ {A = ℕ} (cond (eqb (dictionary schema first i) 0) 0 1) 1 = ap (λ d. cond (eqb d 0) 0 1) e in omega arith

    keys_kinds : (i : ℕ) → i < n → ended i ≡ false → keys_shape formats schema first i ≡ true → Kinds i
    unfolding keys_shape values_shape
    keys_kinds i l o h =
        let a = is_integer (code i) in
        let b = eqb (children schema first i) 0 in
        let d = eqb (dictionary schema first i) 1 in
        let v = is_fixed (code (suc i)) || is_string (code (suc i)) in
        let p = both (a && b && d) (v && bare schema first (suc i)) h in
        let q = both (a && b) d p.0 in
        let r = both a b q.0 in
        let s = both v (bare schema first (suc i)) p.1 in
        let one = eqb-true (dictionary schema first i) 1 q.1 in
        let many : eqb (dictionary schema first i) 0 ≡ false = ne_eqb (dictionary schema first i) 0 (λ e. omega arith) in
        let m = next_in i l (keys_below_lem i one) in
        let c = go r.0 (nodes i l).wider_code in
        k_keys (number_or (number_of (code i))) (number_or (number_of (code' i)))
        (record { key = integer_number (code i) r.0; key' = integer_number (code' i) c.0; reach = c.1 })
        (at_keys formats schema first i (integer_fixed (code i) r.0) many)
        (at_keys formats' schema' first' i (integer_fixed (code' i) c.0) (subst (λ k. eqb k 0 ≡ false) (nodes i l).same_dictionary many))
        (plain_at_lem (suc i) m (no_run 1 8 (code i) r.0 (omega arith)) s.0 (bare_single schema first (suc i) s.1))
      where
        go : is_integer (code i) ≡ true → CodeWider (eqb (dictionary schema first i) 1) (ended i) (code i) (code' i)
            → (is_integer (code' i) ≡ true) × (limit (number_or (number_of (code i))) ≤ limit (number_or (number_of (code' i))))
        go g (same_code e) = (subst (λ c. is_integer c ≡ true) e g, subst (λ c. limit (number_or (number_of (code i))) ≤ limit (number_or (number_of c))) e (le_refl _))
        go g (strings a b r) = absurd (omega (arith, (range 1 8 (code i) g).1, (range 11 14 (code i) a).0))
        go g (list_views a b r) = absurd (omega (arith, (range 1 8 (code i) g).1, (range 17 18 (code i) a).0))
        go g (plain_lists a b r) = absurd (omega (arith, (range 1 8 (code i) g).1, (range 19 20 (code i) a).0))
        go g (keys k a b r) = (b, r)
        go g (run_ends_lem k a b r) = absurd (false≢true (sym o ∙ k))

    run_kinds : (i : ℕ) → i < n → run_shape formats schema first i ≡ true → Kinds i
    unfolding run_shape ends_shape
    run_kinds i l h =
        let a = is_run_end (code i) in
        let b = eqb (children schema first i) 2 in
        let d = eqb (dictionary schema first i) 0 in
        let v = is_ends (code (suc i)) in
        let p = both (a && b && d) (v && bare schema first (suc i)) h in
        let q = both (a && b) d p.0 in
        let r = both a b q.0 in
        let s = both v (bare schema first (suc i)) p.1 in
        let two : below schema first i ≡ 2 = below_single schema first i q.1 ∙ eqb-true (children schema first i) 2 r.1 in
        let m = next_in i l (omega arith) in
        k_run (width_of (code (suc i))) (width_of (code' (suc i))) (go s.0 (bare_single schema first (suc i) s.1) (nodes (suc i) m).wider_code)
        (at_run formats schema first i r.0) (at_run formats' schema' first' i (run_kept (code i) (code' i) (near (nodes i l).wider_code) r.0)) two (bare_below schema first (suc i) s.1)
      where
        go : is_ends (code (suc i)) ≡ true → eqb (dictionary schema first (suc i)) 0 ≡ true
            → CodeWider (eqb (dictionary schema first (suc i)) 1) (ended (suc i)) (code (suc i)) (code' (suc i)) → width_of (code (suc i)) ≤ width_of (code' (suc i))
        go g z (same_code e) = subst (λ c. width_of (code (suc i)) ≤ width_of c) e (le_refl (width_of (code (suc i))))
        go g z (strings a b r) = r
        go g z (list_views a b r) = r
        go g z (plain_lists a b r) = r
        go g z (keys k a b r) = absurd (not_keyed schema first (suc i) z k)
        go g z (run_ends_lem k a b r) = r

    kinds : (i : ℕ) → i < n → ended i ≡ false → shape formats schema first i ≡ true → Kinds i
    unfolding shape
    kinds i l o h =
        five formats schema first (leaf_shape formats schema first i) (keys_shape formats schema first i) (list_shape formats schema first i) (union_shape formats schema first i) (run_shape formats schema first i) h
        (leaf_kinds i l o) (keys_kinds i l o) (list_kinds i l) (union_kinds i l) (run_kinds i l)

    -- ---- the types

    abbrev here : Tree
    here = tree_of formats schema first n

    abbrev there : Tree
    there = tree_of formats' schema' first' n

    abbrev WiderFrom : ℕ → ℕ → Type 0
    WiderFrom f i = Wider (ty_of here f i) (ty_of there f i)

    abbrev WiderAs : ℕ → ℕ → NodeKind → NodeKind → Type 0
    WiderAs f i k k' = Wider (ty_as here (ty_of here f) k i) (ty_as there (ty_of there f) k' i)

    place_same : (i j : ℕ) → i < n → j < below schema first i → child_at schema first n i j ≡ child_at schema' first' n i j
    unfolding child_at
    place_same i zero l h = refl
    place_same i (suc j) l h =
        let k = child_inside schema first n w i j l (omega arith) in
        end_same formats schema x first formats' schema' x' first' n nodes (child_at schema first n i j) (omega arith) ∙ ap (end_of schema' first' n) (place_same i j l (omega arith))

    child_up : (i j : ℕ) → i < n → i < child_at schema first n i j
    child_up i j l = omega (arith, child_is schema first n i l j, end_up schema first (n - suc i) j (suc i))

    values_are : (e : ℕ) → is_values schema first e ≡ prev schema first n w (λ m. eqb (dictionary schema first m) 1) (λ m l q. keys_below_lem m (eqb-true _ 1 q)) e
    unfolding is_values
    values_are zero = refl
    values_are (suc e) = refl

    -- a union's field: its flag and its type
    field_wider : (f i : ℕ) → i < n → eqb (dictionary schema first i) 1 ≡ false → (j : ℕ) → j < below schema first i → WiderFrom f (child_at schema first n i j)
        → (nullable_in here (child_node here i j) ≡ nullable_in there (child_node there i j)) × Wider (ty_of here f (child_node here i j)) (ty_of there f (child_node there i j))
    field_wider f i l s j h m =
        let k = child_at schema first n i j in
        let a = child_same formats schema first n i j in
        let b = place_same i j l h ∙ child_same formats' schema' first' n i j in
        let v : is_values schema first k ≡ false = values_are k ∙ prev_child schema first n w (λ m. eqb (dictionary schema first m) 1) (λ m l q. keys_below_lem m (eqb-true _ 1 q)) i j l h s in
        let up : i < k = child_up i j l in
        let g = (nodes k (child_inside schema first n w i j l h)).same_flag_lem (λ z. omega arith) v in (
          sym (ap (nullable_in here) a) ∙ ap (λ z. eqb z 1) g ∙ ap (nullable_in there) b,
          subst (λ z. Wider (ty_of here f z) (ty_of there f (child_node there i j))) a (subst (λ z. Wider (ty_of here f k) (ty_of there f z)) b m),
        )

    plain_as_lem : (p : Plain) → plain_as (plain_kind p) ≡ p
    plain_as_lem (fixed m) = refl
    plain_as_lem (string v) = refl

    plain_type : (f i : ℕ) {p p' : Plain} → PlainWider p p' → WiderAs f i (plain_kind p) (plain_kind p')
    plain_type f i (w_fixed m) = w_plain (w_fixed m)
    plain_type f i (w_string v v' h) = w_plain (w_string v v' h)

    moved : (f i : ℕ) {k k' : NodeKind} → kind i ≡ k → kind' i ≡ k' → WiderAs f i k k' → WiderFrom (suc f) i
    moved f i {k} {k'} e e' h = subst (λ u. Wider u (ty_of there (suc f) i)) (sym (type_as here f i e)) (subst (Wider (ty_as here (ty_of here f) k i)) (sym (type_as there f i e')) h)

    -- the runs of a tree have something below them
    module _ (shapes : (i : ℕ) → i < n → shape formats schema first i ≡ true) where
      run_big : (m : ℕ) → m < n → is_run_end (code m) ≡ true → 0 < below schema first m
      unfolding shape leaf_shape keys_shape list_shape union_shape run_shape
      run_big m l e =
          let c = code m in
          five formats schema first (leaf_shape formats schema first m) (keys_shape formats schema first m) (list_shape formats schema first m) (union_shape formats schema first m) (run_shape formats schema first m) (shapes m l)
          (λ h. absurd (leaf (both (is_fixed c || is_string c || is_view c) (bare schema first m) h).0))
          (λ h. let p = both (is_integer c && eqb (children schema first m) 0 && eqb (dictionary schema first m) 1) (values_shape formats schema first (suc m)) h in
          keys_below_lem m (eqb-true _ 1 (both (is_integer c && eqb (children schema first m) 0) (eqb (dictionary schema first m) 1) p.0).1))
          (λ h. let p = both ((is_list_view c || is_list c) && eqb (children schema first m) 1) (eqb (dictionary schema first m) 0) h in
          let z = below_single schema first m p.1 ∙ eqb-true _ 1 (both (is_list_view c || is_list c) (eqb (children schema first m) 1) p.0).1 in omega arith)
          (λ h. let p = both (is_union c && child_for_each schema first (ids_of formats schema first m) m) (eqb (dictionary schema first m) 0) h in
          absurd (omega (arith, (range 23 23 c e).0, (range 21 22 c (both (is_union c) (child_for_each schema first (ids_of formats schema first m) m) p.0).0).1)))
          (λ h. let p = both (is_run_end c && eqb (children schema first m) 2 && eqb (dictionary schema first m) 0) (ends_shape formats schema first (suc m)) h in
          let q = both (is_run_end c && eqb (children schema first m) 2) (eqb (dictionary schema first m) 0) p.0 in
          let z = below_single schema first m q.1 ∙ eqb-true _ 2 (both (is_run_end c) (eqb (children schema first m) 2) q.0).1 in omega arith)
        where
          none_of : (a b : ℕ) → b < 23 → between a b (code m) ≡ true → ⊥
          none_of a b s h = omega (arith, (range 23 23 (code m) e).0, (range a b (code m) h).1)

          leaf : is_fixed (code m) || is_string (code m) || is_view (code m) ≡ true → ⊥
          leaf h = go (is_fixed (code m)) refl (is_string (code m)) refl (is_view (code m)) refl h
            where
              go : (u : Bool) → is_fixed (code m) ≡ u → (s : Bool) → is_string (code m) ≡ s → (v : Bool) → is_view (code m) ≡ v → u || s || v ≡ true → ⊥
              go true eu s es v ev h = none_of 1 10 (omega arith) eu
              go false eu true es v ev h = none_of 11 14 (omega arith) es
              go false eu false es true ev h = none_of 15 16 (omega arith) ev
              go false eu false es false ev h = false≢true h

      ended_is : (e : ℕ) → ended e ≡ prev schema first n w (λ m. is_run_end (code m)) run_big e
      ended_is zero = refl
      ended_is (suc e) = refl

      not_ended : (i j : ℕ) → i < n → j < below schema first i → is_run_end (code i) ≡ false → ended (child_at schema first n i j) ≡ false
      not_ended i j l h e = ended_is (child_at schema first n i j) ∙ prev_child schema first n w (λ m. is_run_end (code m)) run_big i j l h e

      not_ended_later : (i j : ℕ) → i < n → suc j < below schema first i → ended (child_at schema first n i (suc j)) ≡ false
      not_ended_later i j l h = ended_is (child_at schema first n i (suc j)) ∙ prev_later schema first n w (λ m. is_run_end (code m)) run_big i j l h

      types_by : (f i : ℕ) → i < n → Kinds i → ((j : ℕ) → j < below schema first i → ended (child_at schema first n i j) ≡ false → WiderFrom f (child_at schema first n i j)) → WiderFrom (suc f) i
      types_by f i l (k_plain a) kid = moved f i a.here a.there (plain_type f i a.wider)
      types_by f i l (k_view e e') kid = moved f i e e' w_view
      types_by f i l (k_list v v' r e e' b o) kid =
          moved f i e e' (w_list_view v v' r (subst (WiderFrom f) (first_child formats schema first n i) (kid 0 (omega arith) (not_ended i 0 l (omega arith) o))))
      types_by f i l (k_lists v v' r e e' b o) kid =
          moved f i e e' (w_list v v' r (subst (WiderFrom f) (first_child formats schema first n i) (kid 0 (omega arith) (not_ended i 0 l (omega arith) o))))
      types_by f i l (k_sparse ids e e' b o d) kid =
          let each : (c : ℕ) → Declared ids c → _ = λ c m.
          let h : field_of ids c < below schema first i = omega (arith, field_in_lem ids c ((member_agrees c ids).sound m)) in
          field_wider f i l d (field_of ids c) h (kid (field_of ids c) h (not_ended i (field_of ids c) l h o)) in
          moved f i e e' (w_sparse ids (λ c m. (each c m).0) (λ c m. (each c m).1))
      types_by f i l (k_dense ids e e' b o d) kid =
          let each : (c : ℕ) → Declared ids c → _ = λ c m.
          let h : field_of ids c < below schema first i = omega (arith, field_in_lem ids c ((member_agrees c ids).sound m)) in
          field_wider f i l d (field_of ids c) h (kid (field_of ids c) h (not_ended i (field_of ids c) l h o)) in
          moved f i e e' (w_dense ids (λ c m. (each c m).0) (λ c m. (each c m).1))
      types_by f i l (k_run v v' r e e' b z) kid =
          let next = next_in i l (omega arith) in
          moved f i e e' (w_run_end v v' r (subst (WiderFrom f) (second_child formats schema first n i next z) (kid 1 (omega arith) (not_ended_later i 0 l (omega arith)))))
      types_by f i l (k_keys k k' r e e' a) kid =
          moved f i e e'
          (w_dictionary k k' r
          (subst (λ z. PlainWider z (plain_as (kind' (suc i)))) (sym (ap plain_as a.here ∙ plain_as_lem a.p)) (subst (λ z. PlainWider a.p z) (sym (ap plain_as a.there ∙ plain_as_lem a.p')) a.wider)))

  module _ (t : typed formats schema first n ≡ true) (c : ceilings formats schema first n ≡ true) where
    types_at : (w : whole schema first n ≡ true) (f i : ℕ) → i < n → ended i ≡ false → 9 ≤ depth schema first n i + f → WiderFrom w f i
    types_at w zero i l o h = absurd (omega (arith, within_depth formats schema first n c i l))
    types_at w (suc f) i l o h =
        types_by w (typed_shape formats schema first n t) f i l (kinds w i l o (typed_shape formats schema first n t i l))
        (λ j b e. types_at w f (child_at schema first n i j) (child_inside schema first n w i j l b) e (omega (arith, child_depth schema first n w i j l b)))

    -- THE WIDE TREE STANDS FOR A WIDER TYPE
    pub type_wider : Wider (type_of formats schema first n) (type_of formats' schema' first' n)
    type_wider =
        let w = typed_whole formats schema first n t in
        types_at w 8 0 (some_node formats schema first n w) refl (root formats schema first n)

-- ---- THE TYPE OF A JOIN STORED WIDER

pub types_wider : (n w : Lending) → StoredWider n w → sources_ground n.formats n.schema n.tables n.sources ≡ 0 → Wider (type_in n) (type_in w)
types_wider n w stored ok =
    let a : Accepted n.formats n.schema n.tables n.sources = accepted n.formats n.schema n.tables n.sources ok in
    let z = some_source n.formats n.schema n.tables n.sources a.few in
    subst (λ k. Wider (type_in n) (type_of w.formats w.schema (first_of w.sources 0) k)) (stored.same_nodes 0 z)
    (type_wider n.formats n.schema n.tables (first_of n.sources 0) w.formats w.schema w.tables (first_of w.sources 0) (nodes_of n.sources 0)
    (λ i l. stored.node_wider 0 i z l) (typed_at n.formats n.schema n.tables n.sources a.of_types 0 z)
    (within_low n.formats n.schema n.tables (first_of n.sources 0) (nodes_of n.sources 0) (within_at_lem n.formats n.schema n.tables n.sources a.within 0 z)))
