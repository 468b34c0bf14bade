-- From the kind of a node back to its code. Assumes nothing.
use mathlib.Core.Path.{◌≡◌, refl, sym, ap, subst, ◌∙◌}
use mathlib.Core.Bool.{Bool, true, false, ◌&&◌, ◌||◌, false≢true}
use mathlib.Core.Option.{Option, none, some}
use mathlib.Core.List.{List}
use Prim.Native.Nat.{ℕ, zero, suc, ◌≤◌}
use native.Mathlib.Omega.{arith}
use lib.Dec.{leb, eqb}
use borrow.Author.Tests.{leb-true, leb-false, eqb-true, eqb-false, ne_eqb}
use Rattle.columnar.specs.Types.{Number, int, uint, w1, w2, w4, w8, f32, f64}
use Rattle.schema.specs.formats.Code.{is_integer, is_fixed, is_string, is_view, is_list_view, is_list, is_union, is_run_end}
use Rattle.schema.specs.formats.Types.{number_of, number_or}
use Rattle.schema.specs.Tree.{children, dictionary, bare, child_for_each, code_of, ids_of, values_shape, ends_shape, leaf_shape, keys_shape, list_shape, union_shape, run_shape, shape}
use Rattle.array_data.specs.NodeKinds.{NodeKind, fixed_node, string_node, view_node, list_view_node, list_node, sparse_node, dense_node, run_end_node, dictionary_node, kind_at}
use Rattle.array_data.proofs.type_tree.Ids.{both}
use Rattle.array_data.proofs.type_tree.Shaped.{five, integer_fixed, at_fixed, at_keys, at_string, at_view, at_list, at_lists, at_union, at_run}
use Rattle.width_walks.specs.target_rules.Target.{is_ends}
use Rattle.width_walks.proofs.target_rules.Codes.{range}
use Rattle.width_walks.proofs.target_rules.Rules.{or_cases}
use Rattle.array_data.proofs.Names.{ids_or, union_kind}

-- the code of a number's format
code_for : Number → ℕ
code_for (int w1) = 1
code_for (uint w1) = 2
code_for (int w2) = 3
code_for (uint w2) = 4
code_for (int w4) = 5
code_for (uint w4) = 6
code_for (int w8) = 7
code_for (uint w8) = 8
code_for f32 = 9
code_for f64 = 10

code_for_lem : (c : ℕ) → is_fixed c ≡ true → code_for (number_or (number_of c)) ≡ c
unfolding number_of code_for
code_for_lem zero h = absurd (false≢true h)
code_for_lem (suc zero) h = refl
code_for_lem (suc (suc zero)) h = refl
code_for_lem (suc (suc (suc zero))) h = refl
code_for_lem (suc (suc (suc (suc zero)))) h = refl
code_for_lem (suc (suc (suc (suc (suc zero))))) h = refl
code_for_lem (suc (suc (suc (suc (suc (suc zero)))))) h = refl
code_for_lem (suc (suc (suc (suc (suc (suc (suc zero))))))) h = refl
code_for_lem (suc (suc (suc (suc (suc (suc (suc (suc zero)))))))) h = refl
code_for_lem (suc (suc (suc (suc (suc (suc (suc (suc (suc zero))))))))) h = refl
code_for_lem (suc (suc (suc (suc (suc (suc (suc (suc (suc (suc zero)))))))))) h = refl
code_for_lem (suc (suc (suc (suc (suc (suc (suc (suc (suc (suc (suc c))))))))))) h =
    let k = suc (suc (suc (suc (suc (suc (suc (suc (suc (suc (suc c)))))))))) in
    let p = range 1 10 k h in
    absurd (omega arith)

pub same_number : (c c' : ℕ) (m : Number) → is_fixed c ≡ true → number_or (number_of c) ≡ m → is_fixed c' ≡ true → number_or (number_of c') ≡ m → c ≡ c'
same_number c c' m h e h' e' = sym (code_for_lem c h) ∙ ap code_for (e ∙ sym e') ∙ code_for_lem c' h'

neither : (c : ℕ) → 21 ≤ c → c ≤ 22 → (c ≡ 21 → ⊥) → (c ≡ 22 → ⊥) → ⊥
neither c a b f g = go (leb c 21) refl
  where
    go : (x : Bool) → leb c 21 ≡ x → ⊥
    go true e = f (omega (arith, leb-true c 21 e))
    go false e = g (omega (arith, leb-false c 21 e))

other : (c : ℕ) → (21 ≤ c) × (c ≤ 22) → (c ≡ 21 → ⊥) → c ≡ 22
other c l f = go (eqb c 22) refl
  where
    go : (b : Bool) → eqb c 22 ≡ b → c ≡ 22
    go true e = eqb-true c 22 e
    go false e =
        let g : c ≡ 22 → ⊥ = eqb-false c 22 e in
        absurd (neither c l.0 l.1 f g)

module _ (formats schema : List ℕ) (first i : ℕ) where
  abbrev c : ℕ
  c = code_of formats schema first i

  abbrev d : ℕ
  d = dictionary schema first i

  -- what a kind says of the node's code
  abbrev pub ReadsAs : NodeKind → Type 0
  ReadsAs (fixed_node m) = (is_fixed c ≡ true) × (number_or (number_of c) ≡ m)
  ReadsAs (string_node w) = is_string c ≡ true
  ReadsAs view_node = is_view c ≡ true
  ReadsAs (list_view_node w) = is_list_view c ≡ true
  ReadsAs (list_node w) = is_list c ≡ true
  ReadsAs (sparse_node ids) = (c ≡ 21) × (ids_of formats schema first i ≡ some ids)
  ReadsAs (dense_node ids) = (c ≡ 22) × (ids_of formats schema first i ≡ some ids)
  ReadsAs (run_end_node w) = (is_run_end c ≡ true) × (is_ends (code_of formats schema first (suc i)) ≡ true)
  ReadsAs (dictionary_node m) = (is_integer c ≡ true) × (eqb d 1 ≡ true)

  abbrev At : Type 0
  At = ReadsAs (kind_at formats schema first i)

  bare_single : bare schema first i ≡ true → eqb d 0 ≡ true
  unfolding bare
  bare_single h = (both (eqb (children schema first i) 0) (eqb d 0) h).1

  some_ids : (o : Option (List ℕ)) → child_for_each schema first o i ≡ true → o ≡ some (ids_or o)
  some_ids none h = absurd (false≢true h)
  some_ids (some ids) h = refl

  leaf_reads : leaf_shape formats schema first i ≡ true → At
  unfolding leaf_shape
  leaf_reads h =
      let p = both (is_fixed c || is_string c || is_view c) (bare schema first i) h in
      or_cases (is_fixed c || is_string c) (is_view c) p.0
      (λ h. or_cases (is_fixed c) (is_string c) h
      (λ e. subst ReadsAs (sym (at_fixed formats schema first i e (bare_single p.1))) (e, refl))
      (λ e. subst ReadsAs (sym (at_string formats schema first i e)) e))
      (λ e. subst ReadsAs (sym (at_view formats schema first i e)) e)

  keys_reads : keys_shape formats schema first i ≡ true → At
  unfolding keys_shape
  keys_reads h =
      let p = both (is_integer c && eqb (children schema first i) 0 && eqb d 1) (values_shape formats schema first (suc i)) h in
      let q = both (is_integer c && eqb (children schema first i) 0) (eqb d 1) p.0 in
      let r = both (is_integer c) (eqb (children schema first i) 0) q.0 in
      let one = eqb-true d 1 q.1 in
      subst ReadsAs (sym (at_keys formats schema first i (integer_fixed c r.0) (ne_eqb d 0 (λ e. omega arith)))) (r.0, q.1)

  list_reads : list_shape formats schema first i ≡ true → At
  unfolding list_shape
  list_reads h =
      let p = both ((is_list_view c || is_list c) && eqb (children schema first i) 1) (eqb d 0) h in
      or_cases (is_list_view c) (is_list c) (both (is_list_view c || is_list c) (eqb (children schema first i) 1) p.0).0
      (λ e. subst ReadsAs (sym (at_list formats schema first i e)) e) (λ e. subst ReadsAs (sym (at_lists formats schema first i e)) e)

  union_reads : union_shape formats schema first i ≡ true → At
  unfolding union_shape
  union_reads h =
      let ids = ids_of formats schema first i in
      let p = both (is_union c && child_for_each schema first ids i) (eqb d 0) h in
      let q = both (is_union c) (child_for_each schema first ids i) p.0 in
      go (eqb c 21) refl (range 21 22 c q.0) (some_ids ids q.1) (at_union formats schema first i q.0)
    where
      go : (b : Bool) → eqb c 21 ≡ b → (21 ≤ c) × (c ≤ 22) → ids_of formats schema first i ≡ some (ids_or (ids_of formats schema first i))
          → kind_at formats schema first i ≡ union_kind b (ids_or (ids_of formats schema first i)) → At
      go true e l o k = subst ReadsAs (sym k) (eqb-true c 21 e, o)
      go false e l o k =
          let f : c ≡ 21 → ⊥ = eqb-false c 21 e in
          subst ReadsAs (sym k) (other c l f, o)

  run_reads : run_shape formats schema first i ≡ true → At
  unfolding run_shape ends_shape is_ends
  run_reads h =
      let v = is_ends (code_of formats schema first (suc i)) in
      let p = both (is_run_end c && eqb (children schema first i) 2 && eqb d 0) (v && bare schema first (suc i)) h in
      let q = both (is_run_end c && eqb (children schema first i) 2) (eqb d 0) p.0 in
      let r = both (is_run_end c) (eqb (children schema first i) 2) q.0 in
      subst ReadsAs (sym (at_run formats schema first i r.0)) (r.0, (both v (bare schema first (suc i)) p.1).0)

  -- A NODE OF AN ADMITTED TYPE HAS A CODE OF ITS KIND
  pub reads_at : shape formats schema first i ≡ true → At
  unfolding shape
  reads_at h =
      five formats schema first (leaf_shape formats schema first i) (keys_shape formats schema first i) (list_shape formats schema first i) (union_shape formats schema first i) (run_shape formats schema first i) h
      leaf_reads keys_reads list_reads union_reads run_reads
