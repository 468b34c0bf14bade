-- Grounds 9, 10 and 11 of sources stored wider: none stands where none stands of the narrow ones. Assumes nothing.
use mathlib.Core.Path.{◌≡◌, refl, sym, ap, ap₂, subst, ◌∙◌}
use mathlib.Core.Bool.{Bool, true, false, not, cond, ◌&&◌, ◌||◌, false≢true}
use mathlib.Core.Option.{Option, none, some}
use mathlib.Core.List.{List}
use Prim.Native.Nat.{ℕ, zero, suc, ◌+◌, ◌-◌, ◌^◌, ◌≤◌, ◌<◌}
use native.Mathlib.Omega.{arith}
use lib.ListN.{length}
use lib.Dec.{leb, ltb, eqb}
use borrow.Author.Tests.{le-leb, eqb-true, eq-eqb, ne_eqb, eqb-false}
use Rattle.schema.specs.formats.Code.{is_integer, is_fixed, is_string, is_view, is_list_view, is_list, is_union, is_run_end}
use Rattle.schema.proofs.Due.{due_from, whole_is}
use Rattle.schema.specs.Tree.{flag, children, dictionary, below, end_from, bare, child_for_each, is_values, end_of, child_at, depth, whole, code_of, ids_of, few_fields, values_shape, ends_shape, leaf_shape, keys_shape, list_shape, union_shape, run_shape, shape, ceilings, typed, same_flag, same_formats, same_node, same_type}
use Rattle.schema.proofs.Trees.{child_inside}
use Rattle.schema.proofs.Known.{every_at, typed_whole, typed_shape, within_nodes, within_fields, within_depth, same_size, same_node_lem}
use Rattle.schema.proofs.Laws.{every_all, all_shaped, low_enough, one_low, all_same_lem}
use Rattle.columnar.specs.Reading.{Source}
use Rattle.array_data.specs.Tables.{Tables, length_of, offset_of, place}
use Rattle.array_data.specs.Typed.{tables_from}
use Rattle.columns.specs.Grounds.{count_fits, few_buffers, node_fits, within_ceilings, few_sources, all_typed, all_same, all_within, sources_ground}
use Rattle.array_data.specs.Sources.{first_of, nodes_of}
use Rattle.columns.proofs.Grounds.{Accepted, accepted, some_source, within_at_lem, typed_at, same_at_lem, sources_source}
use Rattle.refinement.proofs.plan_is_type.OneTree.{same_column}
use Rattle.array_data.proofs.type_tree.Ids.{both}
use Rattle.join.specs.Join.{Lending, sources_in, type_in, columns_in}
use Rattle.join.specs.Stored.{StoredWider, is_ends, ends_at, NodeWider}
use Rattle.columnar.specs.Test.{every}
use Rattle.schema.proofs.Counts.{count}
use Rattle.join.proofs.StoredCodes.{or_up, and_up, two, not_up, Near, near, back, integer_kept, fixed_kept, string_kept, view_kept, list_kept, plain_list_kept, union_kept, run_kept, ends_kept}

-- ---- two trees of n nodes

module _ (formats schema : List ℕ) (x : Tables) (first : ℕ) (formats' schema' : List ℕ) (x' : Tables) (first' n : ℕ)
    (nodes : (i : ℕ) → i < n → NodeWider formats schema x first formats' schema' x' first' i) where
  below_same : (i : ℕ) → i < n → below schema first i ≡ below schema' first' i
  unfolding below
  below_same i l = let g = nodes i l in ap₂ (λ c d. c + cond (eqb d 0) 0 1) g.same_children g.same_dictionary

  end_from_same : (f p i : ℕ) → i + f ≤ n → end_from schema first f p i ≡ end_from schema' first' f p i
  unfolding end_from
  end_from_same zero p i l = refl
  end_from_same (suc f) zero i l = refl
  end_from_same (suc f) (suc p) i l =
      ap (λ b. end_from schema first f (p + b) (suc i)) (below_same i (omega arith)) ∙ end_from_same f (p + below schema' first' i) (suc i) (omega arith)

  due_from_same : (f p i : ℕ) → i + f ≤ n → due_from schema first f p i ≡ due_from schema' first' f p i
  unfolding due_from
  due_from_same zero p i l = refl
  due_from_same (suc f) zero i l = refl
  due_from_same (suc f) (suc p) i l =
      ap (λ b. due_from schema first f (p + b) (suc i)) (below_same i (omega arith)) ∙ due_from_same f (p + below schema' first' i) (suc i) (omega arith)

  pub end_same : (i : ℕ) → i ≤ n → end_of schema first n i ≡ end_of schema' first' n i
  unfolding end_of
  end_same i l = end_from_same (n - i) 1 i (omega arith)

  whole_same : whole schema first n ≡ whole schema' first' n
  whole_same =
      whole_is schema first n
      ∙ ap₂ (λ d e. leb 1 n && eqb d 0 && eqb e n) (due_from_same n 1 0 (omega arith)) (end_same 0 (omega arith))
      ∙ sym (whole_is schema' first' n)

  count_same : (p q : ℕ → Bool) (k : ℕ) → ((j : ℕ) → j < k → p j ≡ q j) → count p k ≡ count q k
  count_same p q zero h = refl
  count_same p q (suc k) h = ap₂ (λ a b. a + cond b 1 0) (count_same p q k (λ j l. h j (omega arith))) (h k (omega arith))

  depth_same : (i : ℕ) → i < n → depth schema first n i ≡ depth schema' first' n i
  unfolding depth
  depth_same i l = ap suc (count_same (λ j. ltb i (end_of schema first n j)) (λ j. ltb i (end_of schema' first' n j)) i (λ j q. ap (ltb i) (end_same j (omega arith))))

  -- ---- ground 9, as far as it is about types

  fields_kept : (i : ℕ) → i < n → few_fields formats schema first i ≡ true → few_fields formats' schema' first' i ≡ true
  unfolding few_fields
  fields_kept i l h =
      let g = nodes i l in
      let c = code_of formats schema first i in
      let c' = code_of formats' schema' first' i in
      not_up (is_union c) (is_union c') (leb (children schema' first' i) 16) (union_kept c' c (back (near g.wider_code))) (subst (λ k. not (is_union c) || leb k 16 ≡ true) g.same_children h)

  pub low_wider : ceilings formats schema first n ≡ true → ceilings formats' schema' first' n ≡ true
  low_wider h =
      low_enough formats' schema' first' n (within_nodes formats schema first n h)
      (λ i l.
      let d = within_depth formats schema first n h i l in
      one_low formats' schema' first' n i (fields_kept i l (within_fields formats schema first n h i l)) (le-leb (depth schema' first' n i) 8 (omega (arith, depth_same i l, d))))

  -- ---- ground 10

  bare_same : (i : ℕ) → i < n → bare schema first i ≡ bare schema' first' i
  unfolding bare
  bare_same i l = let g = nodes i l in ap₂ (λ c d. eqb c 0 && eqb d 0) g.same_children g.same_dictionary

  bare_kept : (i : ℕ) → i < n → bare schema first i ≡ true → bare schema' first' i ≡ true
  bare_kept i l h = sym (bare_same i l) ∙ h

  module _ (i : ℕ) (l : i < n) where
    abbrev c : ℕ
    c = code_of formats schema first i

    abbrev c' : ℕ
    c' = code_of formats' schema' first' i

    abbrev at_i : NodeWider formats schema x first formats' schema' x' first' i
    at_i = nodes i l

    close : Near c c'
    close = near at_i.wider_code

    kids_kept : (k : ℕ) → eqb (children schema first i) k ≡ true → eqb (children schema' first' i) k ≡ true
    kids_kept k h = subst (λ z. eqb z k ≡ true) at_i.same_children h

    dict_kept : (k : ℕ) → eqb (dictionary schema first i) k ≡ true → eqb (dictionary schema' first' i) k ≡ true
    dict_kept k h = subst (λ z. eqb z k ≡ true) at_i.same_dictionary h

    leaf_kept : leaf_shape formats schema first i ≡ true → leaf_shape formats' schema' first' i ≡ true
    unfolding leaf_shape
    leaf_kept h =
        and_up (is_fixed c || is_string c || is_view c) (bare schema first i) (is_fixed c' || is_string c' || is_view c') (bare schema' first' i)
        (or_up (is_fixed c || is_string c) (is_view c) (is_fixed c' || is_string c') (is_view c')
        (or_up (is_fixed c) (is_string c) (is_fixed c') (is_string c') (fixed_kept c c' close) (string_kept c c' close)) (view_kept c c' close))
        (bare_kept i l) h

    values_kept : values_shape formats schema first i ≡ true → values_shape formats' schema' first' i ≡ true
    unfolding values_shape
    values_kept h =
        and_up (is_fixed c || is_string c) (bare schema first i) (is_fixed c' || is_string c') (bare schema' first' i)
        (or_up (is_fixed c) (is_string c) (is_fixed c') (is_string c') (fixed_kept c c' close) (string_kept c c' close)) (bare_kept i l) h

    ends_shape_kept : ends_shape formats schema first i ≡ true → ends_shape formats' schema' first' i ≡ true
    unfolding ends_shape bare
    ends_shape_kept h =
        let p = both (is_ends c) (eqb (children schema first i) 0 && eqb (dictionary schema first i) 0) h in
        let q = both (eqb (children schema first i) 0) (eqb (dictionary schema first i) 0) p.1 in
        let z = eqb-true (dictionary schema first i) 0 q.1 in
        two (ends_kept c c' (eqb (dictionary schema first i) 1) (ends_at formats schema first i) (ne_eqb (dictionary schema first i) 1 (λ e. omega arith)) at_i.wider_code p.0)
        (two (kids_kept 0 q.0) (dict_kept 0 q.1))

    list_shape_kept : list_shape formats schema first i ≡ true → list_shape formats' schema' first' i ≡ true
    unfolding list_shape
    list_shape_kept h =
        and_up ((is_list_view c || is_list c) && eqb (children schema first i) 1) (eqb (dictionary schema first i) 0) ((is_list_view c' || is_list c') && eqb (children schema' first' i) 1) (eqb (dictionary schema' first' i) 0)
        (and_up (is_list_view c || is_list c) (eqb (children schema first i) 1) (is_list_view c' || is_list c') (eqb (children schema' first' i) 1)
        (or_up (is_list_view c) (is_list c) (is_list_view c') (is_list c') (list_kept c c' close) (plain_list_kept c c' close)) (kids_kept 1))
        (dict_kept 0) h

    each_kept : (o : Option (List ℕ)) → child_for_each schema first o i ≡ true → child_for_each schema' first' o i ≡ true
    each_kept none h = h
    each_kept (some ids) h = subst (λ z. eqb (length ids) z ≡ true) at_i.same_children h

    union_shape_kept : union_shape formats schema first i ≡ true → union_shape formats' schema' first' i ≡ true
    unfolding union_shape
    union_shape_kept h =
        let p = both (is_union c && child_for_each schema first (ids_of formats schema first i) i) (eqb (dictionary schema first i) 0) h in
        let q = both (is_union c) (child_for_each schema first (ids_of formats schema first i) i) p.0 in
        two (two (union_kept c c' close q.0) (subst (λ o. child_for_each schema' first' o i ≡ true) (at_i.same_ids_lem q.0) (each_kept (ids_of formats schema first i) q.1))) (dict_kept 0 p.1)

  module _ (w : whole schema first n ≡ true) where
    -- the node behind one that has something below it
    next_in : (i : ℕ) → i < n → 0 < below schema first i → suc i < n
    unfolding child_at
    next_in i l h = child_inside schema first n w i 0 l h

    keys_below_lem : (i : ℕ) → dictionary schema first i ≡ 1 → 0 < below schema first i
    unfolding below
    keys_below_lem i e = let one : ◌≡◌ {A = ℕ} (cond (eqb (dictionary schema first i) 0) 0 1) 1 = ap (λ d. cond (eqb d 0) 0 1) e in omega arith

    kids_below : (i : ℕ) → children schema first i ≡ 2 → 0 < below schema first i
    unfolding below
    kids_below i e = omega arith

    keys_shape_kept : (i : ℕ) → i < n → keys_shape formats schema first i ≡ true → keys_shape formats' schema' first' i ≡ true
    unfolding keys_shape
    keys_shape_kept i l h =
        let a = is_integer (c i l) in
        let b = eqb (children schema first i) 0 in
        let d = eqb (dictionary schema first i) 1 in
        let p = both (a && b && d) (values_shape formats schema first (suc i)) h in
        let q = both (a && b) d p.0 in
        let r = both a b q.0 in
        let m = next_in i l (keys_below_lem i (eqb-true (dictionary schema first i) 1 q.1)) in
        two (two (two (integer_kept (c i l) (c' i l) (close i l) r.0) (kids_kept i l 0 r.1)) (dict_kept i l 1 q.1)) (values_kept (suc i) m p.1)

    run_shape_kept : (i : ℕ) → i < n → run_shape formats schema first i ≡ true → run_shape formats' schema' first' i ≡ true
    unfolding run_shape
    run_shape_kept i l h =
        let a = is_run_end (c i l) in
        let b = eqb (children schema first i) 2 in
        let d = eqb (dictionary schema first i) 0 in
        let p = both (a && b && d) (ends_shape formats schema first (suc i)) h in
        let q = both (a && b) d p.0 in
        let r = both a b q.0 in
        let m = next_in i l (kids_below i (eqb-true (children schema first i) 2 r.1)) in
        two (two (two (run_kept (c i l) (c' i l) (close i l) r.0) (kids_kept i l 2 r.1)) (dict_kept i l 0 q.1)) (ends_shape_kept (suc i) m p.1)

    shape_kept : (i : ℕ) → i < n → shape formats schema first i ≡ true → shape formats' schema' first' i ≡ true
    unfolding shape
    shape_kept i l h =
        or_up _ (run_shape formats schema first i) _ (run_shape formats' schema' first' i)
        (or_up _ (union_shape formats schema first i) _ (union_shape formats' schema' first' i)
        (or_up _ (list_shape formats schema first i) _ (list_shape formats' schema' first' i)
        (or_up (leaf_shape formats schema first i) (keys_shape formats schema first i) (leaf_shape formats' schema' first' i) (keys_shape formats' schema' first' i) (leaf_kept i l) (keys_shape_kept i l))
        (list_shape_kept i l))
        (union_shape_kept i l))
        (run_shape_kept i l) h

  -- THE WIDE TREE IS ONE OF 01'S
  pub typed_wider : typed formats schema first n ≡ true → typed formats' schema' first' n ≡ true
  typed_wider h =
      let w = typed_whole formats schema first n h in
      all_shaped formats' schema' first' n (sym whole_same ∙ w) (λ i l. shape_kept w i l (typed_shape formats schema first n h i l))

  -- ---- ground 9 of each node

  fits_kept : (i : ℕ) → i < n → node_fits formats schema x first i ≡ true → node_fits formats' schema' x' first' i ≡ true
  unfolding node_fits count_fits few_buffers
  fits_kept i l h =
      let g = nodes i l in
      let v = is_view (code_of formats schema first i) in
      let p = both (ltb (offset_of x (first + i) + length_of x (first + i)) (2 ^ 63)) (not v || leb (place x (first + i) 8) 32) h in
      two (subst (λ k. ltb k (2 ^ 63) ≡ true) (ap₂ ◌+◌ g.same_offset g.same_length) p.0)
      (few v (is_view (code_of formats' schema' first' i)) refl (view_kept (code_of formats' schema' first' i) (code_of formats schema first i) (back (near g.wider_code))) p.1)
    where
      few : (v v' : Bool) → is_view (code_of formats schema first i) ≡ v → (v' ≡ true → is_view (code_of formats schema first i) ≡ true) → not v || leb (place x (first + i) 8) 32 ≡ true
          → not v' || leb (place x' (first' + i) 8) 32 ≡ true
      few v false e f h = refl
      few false true e f h = absurd (false≢true (sym e ∙ f refl))
      few true true e f h = subst (λ k. leb k 32 ≡ true) ((nodes i l).same_buffers e) h

  -- NO CEILING IS PASSED, and no length or offset is negative
  pub within_wider : within_ceilings formats schema x first n ≡ true → within_ceilings formats' schema' x' first' n ≡ true
  unfolding within_ceilings
  within_wider h =
      let p = both (ceilings formats schema first n) (every (node_fits formats schema x first) n) h in
      two (low_wider p.0) (every_all (node_fits formats' schema' x' first') n (λ i l. fits_kept i l (every_at (node_fits formats schema x first) n i p.1 l)))

-- ---- ground 11: two sources, at f and g narrow and at f' and g' wide

or_mid : (a b c : Bool) → b ≡ true → a || b || c ≡ true
or_mid true b c e = refl
or_mid false b c e = ap (λ z. z || c) e

or_last : (a b c : Bool) → c ≡ true → a || b || c ≡ true
or_last true b c e = refl
or_last false true c e = refl
or_last false false c e = e

module _ (formats schema : List ℕ) (x : Tables) (f g : ℕ) (formats' schema' : List ℕ) (x' : Tables) (f' g' n : ℕ)
    (here : (i : ℕ) → i < n → NodeWider formats schema x f formats' schema' x' f' i) (there : (i : ℕ) → i < n → NodeWider formats schema x g formats' schema' x' g' i)
    (same : same_type formats schema f n g n ≡ true) (alike : (i : ℕ) → i < n → same_formats formats' schema' f' g' i ≡ true) where
  node_parts : (i : ℕ) → i < n → (children schema f i ≡ children schema g i) × (dictionary schema f i ≡ dictionary schema g i) × (same_flag schema f g i ≡ true)
  unfolding same_node
  node_parts i l =
      let a = same_formats formats schema f g i in
      let b = eqb (children schema f i) (children schema g i) in
      let d = eqb (dictionary schema f i) (dictionary schema g i) in
      let p = both (a && b && d) (same_flag schema f g i) (same_node_lem formats schema f n g n same i l) in
      let q = both (a && b) d p.0 in
      let r = both a b q.0 in
      (eqb-true _ _ r.1, eqb-true _ _ q.1, p.1)

  values_here : (i : ℕ) → i < n → is_values schema f i ≡ is_values schema g i
  unfolding is_values
  values_here zero l = refl
  values_here (suc i) l = ap (λ d. eqb d 1) (node_parts i (omega arith)).1

  values_wide : (i : ℕ) → i < n → is_values schema f i ≡ is_values schema' f' i
  unfolding is_values
  values_wide zero l = refl
  values_wide (suc i) l = ap (λ d. eqb d 1) (here i (omega arith)).same_dictionary

  flag_wider : (i : ℕ) → i < n → same_flag schema' f' g' i ≡ true
  unfolding same_flag
  flag_wider i l = go (eqb i 0) refl (is_values schema f i) refl (node_parts i l).2
    where
      go : (a : Bool) → eqb i 0 ≡ a → (b : Bool) → is_values schema f i ≡ b → a || b || eqb (flag schema f i) (flag schema g i) ≡ true
          → eqb i 0 || is_values schema' f' i || eqb (flag schema' f' i) (flag schema' g' i) ≡ true
      go true e b v h = ap (λ z. z || is_values schema' f' i || eqb (flag schema' f' i) (flag schema' g' i)) e
      go false e true v h = or_mid (eqb i 0) (is_values schema' f' i) _ (sym (values_wide i l) ∙ v)
      go false e false v h =
          let z : i ≡ 0 → ⊥ = eqb-false i 0 e in
          or_last (eqb i 0) (is_values schema' f' i) _
          (eq-eqb (flag schema' f' i) (flag schema' g' i)
          (sym ((here i l).same_flag_lem z v) ∙ eqb-true (flag schema f i) (flag schema g i) h ∙ (there i l).same_flag_lem z (sym (values_here i l) ∙ v)))

  -- THE WIDE SOURCES ARE OF ONE TYPE
  pub same_wider : same_type formats' schema' f' n g' n ≡ true
  unfolding same_node
  same_wider =
      all_same_lem formats' schema' f' n g' n refl
      (λ i l.
      let p = node_parts i l in
      two (two (two (alike i l) (eq-eqb _ _ (sym (here i l).same_children ∙ p.0 ∙ (there i l).same_children))) (eq-eqb _ _ (sym (here i l).same_dictionary ∙ p.1 ∙ (there i l).same_dictionary)))
      (flag_wider i l))

-- ---- ALL SOURCES: 9, 10, 11 and 12

module _ (n w : Lending) (stored : StoredWider n w) (accepted_n : sources_ground n.formats n.schema n.tables n.sources ≡ 0) where
  abbrev found : Accepted n.formats n.schema n.tables n.sources
  found = accepted n.formats n.schema n.tables n.sources accepted_n

  abbrev first : ℕ → ℕ
  first s = first_of n.sources s

  abbrev first' : ℕ → ℕ
  first' s = first_of w.sources s

  -- a source of the wide join is one of the narrow
  as_narrow : (s : ℕ) → s < sources_in w → s < sources_in n
  as_narrow s l = let e = stored.same_count in omega arith

  some_wide : 0 < sources_in w
  some_wide = let e = stored.same_count in omega (arith, some_source n.formats n.schema n.tables n.sources found.few)

  nodes_wide : (s : ℕ) → s < sources_in w → nodes_of n.sources s ≡ nodes_of w.sources s
  nodes_wide s l = stored.same_nodes s (as_narrow s l)

  abbrev Nodes : ℕ → ℕ → Type 0
  Nodes s k = (i : ℕ) → i < k → NodeWider n.formats n.schema n.tables (first s) w.formats w.schema w.tables (first' s) i

  nodes_at : (s : ℕ) → s < sources_in w → Nodes s (nodes_of n.sources s)
  nodes_at s l i q = stored.node_wider s i (as_narrow s l) q

  few_wide : few_sources w.sources ≡ true
  unfolding few_sources
  few_wide = subst (λ k. leb 1 k && leb k 16 ≡ true) stored.same_count found.few

  all_within_lem : all_within w.formats w.schema w.tables w.sources ≡ true
  unfolding all_within
  all_within_lem =
      every_all _ (sources_in w)
      (λ s l.
      subst (λ k. within_ceilings w.formats w.schema w.tables (first' s) k ≡ true) (nodes_wide s l)
      (within_wider n.formats n.schema n.tables (first s) w.formats w.schema w.tables (first' s) (nodes_of n.sources s) (nodes_at s l)
      (within_at_lem n.formats n.schema n.tables n.sources found.within s (as_narrow s l))))

  all_typed_lem : all_typed w.formats w.schema w.sources ≡ true
  unfolding all_typed
  all_typed_lem =
      every_all _ (sources_in w)
      (λ s l.
      subst (λ k. typed w.formats w.schema (first' s) k ≡ true) (nodes_wide s l)
      (typed_wider n.formats n.schema n.tables (first s) w.formats w.schema w.tables (first' s) (nodes_of n.sources s) (nodes_at s l)
      (typed_at n.formats n.schema n.tables n.sources found.of_types s (as_narrow s l))))

  same_wide : (s : ℕ) → s < sources_in w → same_type w.formats w.schema (first' 0) (nodes_of w.sources 0) (first' s) (nodes_of w.sources s) ≡ true
  same_wide s l =
      let h = same_at_lem n.formats n.schema n.tables n.sources found.of_one_type s (as_narrow s l) in
      let e = same_size n.formats n.schema (first 0) (nodes_of n.sources 0) (first s) (nodes_of n.sources s) h in
      let z = nodes_wide 0 some_wide in
      subst (λ k. same_type w.formats w.schema (first' 0) k (first' s) (nodes_of w.sources s) ≡ true) z
      (subst (λ k. same_type w.formats w.schema (first' 0) (nodes_of n.sources 0) (first' s) k ≡ true) (e ∙ nodes_wide s l)
      (same_wider n.formats n.schema n.tables (first 0) (first s) w.formats w.schema w.tables (first' 0) (first' s) (nodes_of n.sources 0)
      (nodes_at 0 some_wide) (subst (Nodes s) (sym e) (nodes_at s l))
      (subst (λ k. same_type n.formats n.schema (first 0) (nodes_of n.sources 0) (first s) k ≡ true) (sym e) h)
      (λ i q. stored.alike s i l (subst (λ k. i < k) z q))))

  all_same_type : all_same w.formats w.schema w.sources ≡ true
  unfolding all_same
  all_same_type = every_all _ (sources_in w) same_wide

  -- THE WIDE SOURCES ARE TAKEN: 12 is what the columns say
  pub sources_taken : ((s : ℕ) → s < sources_in w → Source (type_in w) (columns_in w s)) → sources_ground w.formats w.schema w.tables w.sources ≡ 0
  sources_taken obey =
      sources_source w.formats w.schema w.tables w.sources stored.small_body_lem few_wide all_within_lem all_typed_lem all_same_type
      (λ s l i q. stored.in_body_lem s i l q)
      (λ s l.
      subst (Source (type_in w))
      (same_column w.formats w.schema (first' 0) (nodes_of w.sources 0) (first' s) (nodes_of w.sources s) (same_wide s l) (tables_from w.tables (first' s)) (type_in w) 0)
      (obey s l))
