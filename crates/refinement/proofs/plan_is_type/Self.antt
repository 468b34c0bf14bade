-- A type tree that passes is of the same type as itself. Assumes nothing.
use mathlib.Core.Path.{◌≡◌, refl, ap, ◌∙◌}
use mathlib.Core.Bool.{Bool, true, false, not, ◌&&◌, ◌||◌, false≢true, or-true}
use mathlib.Core.Option.{Option, none, some}
use mathlib.Core.List.{List, [], ◌∷◌}
use Prim.Native.Nat.{ℕ, suc, ◌≤◌}
use native.Mathlib.Omega.{arith}
use lib.Dec.{eqb}
use borrow.Author.Tests.{eq-eqb, ne_eqb}
use Rattle.schema.specs.formats.Code.{is_integer, is_fixed, is_string, is_view, is_list_view, is_list, is_union, is_run_end}
use Rattle.schema.specs.union_ids.Ids.{same_ids}
use Rattle.schema.specs.Tree.{flag, children, dictionary, bare, child_for_each, is_values, code_of, ids_of, values_shape, ends_shape, leaf_shape, keys_shape, list_shape, union_shape, run_shape, shape, typed, same_flag, same_formats, same_node, same_type}
use Rattle.schema.proofs.Laws.{all_same_lem}
use Rattle.schema.proofs.Known.{typed_shape}
use Rattle.array_data.proofs.type_tree.Ids.{both}
use Rattle.array_data.proofs.type_tree.Shaped.{five}
use Rattle.refinement.proofs.plan_is_type.Codes.{between_low, between_top, low_code, shape_admitted}
use Rattle.columnar.specs.Test.{same}

list_self : (a : List ℕ) → same a a ≡ true
list_self [] = refl
list_self (z ∷ zs) = ap (λ b. b && eqb z z) (list_self zs) ∙ eq-eqb z z refl

leaf_top : (z : ℕ) (f s v : Bool) → is_fixed z ≡ f → is_string z ≡ s → is_view z ≡ v → f || s || v ≡ true → z ≤ 16
leaf_top z true s v a b c h = omega (arith, between_top 1 10 z a)
leaf_top z false true v a b c h = omega (arith, between_top 11 14 z b)
leaf_top z false false true a b c h = omega (arith, between_top 15 16 z c)
leaf_top z false false false a b c h = absurd (false≢true h)

list_top : (z : ℕ) (l o : Bool) → is_list_view z ≡ l → is_list z ≡ o → l || o ≡ true → z ≤ 20
list_top z true o a b h = omega (arith, between_top 17 18 z a)
list_top z false true a b h = omega (arith, between_top 19 20 z b)
list_top z false false a b h = absurd (false≢true h)

module _ (formats schema : List ℕ) (first i : ℕ) where
  abbrev code : ℕ
  code = code_of formats schema first i

  abbrev ids : Option (List ℕ)
  ids = ids_of formats schema first i

  has_ids : shape formats schema first i ≡ true → is_union code ≡ true → child_for_each schema first ids i ≡ true
  unfolding shape leaf_shape keys_shape list_shape union_shape run_shape
  has_ids h u =
      let low = between_low 21 22 code u in
      let top = between_top 21 22 code u in
      five formats schema first
      (leaf_shape formats schema first i)
      (keys_shape formats schema first i)
      (list_shape formats schema first i)
      (union_shape formats schema first i)
      (run_shape formats schema first i)
      h
      (λ e. absurd (omega (arith, leaf_top code (is_fixed code) (is_string code) (is_view code) refl refl refl (both (is_fixed code || is_string code || is_view code) (bare schema first i) e).0)))
      (λ e. let a = (both (is_integer code && eqb (children schema first i) 0 && eqb (dictionary schema first i) 1) (values_shape formats schema first (suc i)) e).0 in
      let b = (both (is_integer code && eqb (children schema first i) 0) (eqb (dictionary schema first i) 1) a).0 in
      absurd (omega (arith, between_top 1 8 code (both (is_integer code) (eqb (children schema first i) 0) b).0)))
      (λ e. let a = (both ((is_list_view code || is_list code) && eqb (children schema first i) 1) (eqb (dictionary schema first i) 0) e).0 in
      absurd (omega (arith, list_top code (is_list_view code) (is_list code) refl refl (both (is_list_view code || is_list code) (eqb (children schema first i) 1) a).0)))
      (λ e. let a = (both (is_union code && child_for_each schema first ids i) (eqb (dictionary schema first i) 0) e).0 in
      (both (is_union code) (child_for_each schema first ids i) a).1)
      (λ e. let a = (both (is_run_end code && eqb (children schema first i) 2 && eqb (dictionary schema first i) 0) (ends_shape formats schema first (suc i)) e).0 in
      let b = (both (is_run_end code && eqb (children schema first i) 2) (eqb (dictionary schema first i) 0) a).0 in
      absurd (omega (arith, between_low 23 23 code (both (is_run_end code) (eqb (children schema first i) 2) b).0)))

  ids_self : (o : Option (List ℕ)) → child_for_each schema first o i ≡ true → same_ids o o ≡ true
  ids_self none h = absurd (false≢true h)
  ids_self (some a) h = list_self a

  union_self : (b : Bool) → is_union code ≡ b → shape formats schema first i ≡ true → not b || same_ids ids ids ≡ true
  union_self true e h = ids_self ids (has_ids h e)
  union_self false e h = refl

  formats_self : shape formats schema first i ≡ true → same_formats formats schema first first i ≡ true
  unfolding same_formats code_of ids_of
  formats_self h =
      let low = low_code code (shape_admitted formats schema first i h) in
      let z = ne_eqb code 0 (λ e. omega arith) in
      ap (λ b. not b && eqb code code && (not (is_union code) || same_ids ids ids)) z
      ∙ ap (λ b. b && (not (is_union code) || same_ids ids ids)) (eq-eqb code code refl)
      ∙ union_self (is_union code) refl h

  flag_self : same_flag schema first first i ≡ true
  unfolding same_flag
  flag_self = ap (λ b. eqb i 0 || is_values schema first i || b) (eq-eqb (flag schema first i) (flag schema first i) refl) ∙ or-true (eqb i 0 || is_values schema first i)

  node_self : shape formats schema first i ≡ true → same_node formats schema first first i ≡ true
  unfolding same_node
  node_self h =
      rw (formats_self h, eq-eqb (children schema first i) (children schema first i) refl, eq-eqb (dictionary schema first i) (dictionary schema first i) refl, flag_self)

-- A TREE IS OF ITS OWN TYPE
pub same_self : (formats schema : List ℕ) (first n : ℕ) → typed formats schema first n ≡ true → same_type formats schema first n first n ≡ true
same_self formats schema first n t = all_same_lem formats schema first n first n refl (λ j l. node_self formats schema first j (typed_shape formats schema first n t j l))
