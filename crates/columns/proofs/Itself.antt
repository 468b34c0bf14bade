-- A column of a type that is admitted is of its own type, so that one source alone meets the grounds of its column. Assumes nothing.
use mathlib.Core.Path.{◌≡◌, refl, sym, ap, ◌∙◌}
use mathlib.Core.Bool.{Bool, true, false, not, cond, ◌&&◌, ◌||◌, or-true, and-true, false≢true}
use mathlib.Core.List.{List, [], ◌∷◌}
use mathlib.Core.Option.{Option, none, some}
use Prim.Native.Nat.{ℕ, ◌+◌, ◌<◌}
use native.Mathlib.Omega.{arith}
use lib.Dec.{leb, eqb}
use borrow.Author.Tests.{leb-true, eq-eqb, ne_eqb}
use Rattle.schema.specs.formats.Code.{between, is_fixed, is_string, is_view, is_list_view, is_list, is_union}
use Rattle.schema.specs.union_ids.Ids.{same_ids}
use Rattle.schema.specs.Tree.{field, flag, children, dictionary, child_for_each, is_values, code_of, ids_of, shape, union_shape, typed, same_flag, same_formats, same_node, same_type}
use Rattle.schema.proofs.Laws.{every_all}
use Rattle.schema.proofs.Known.{typed_shape}
use Rattle.array_data.specs.Tables.{Tables}
use Rattle.array_data.proofs.type_tree.Ids.{both}
use Rattle.source_rules.proofs.Node.{by_shape, union_each}
use Rattle.columns.specs.Grounds.{small_body, within_ceilings, obeys, column_ground, few_sources, all_typed, all_same, all_within, all_obey, sources_ground}
use Rattle.array_data.specs.Sources.{source_count, first_of, nodes_of}
use Rattle.columns.proofs.Grounds.{by_nodes}
use Rattle.columnar.specs.Test.{same, every}

same_self : (l : List ℕ) → same l l ≡ true
same_self [] = refl
same_self (a ∷ l) = rw (same_self l, eq-eqb a a refl)

-- a code of a range that begins above 0
some_code : (a b c : ℕ) → 0 < a → between a b c ≡ true → eqb c 0 ≡ false
some_code a b c l h = let up = leb-true a c (both (leb a c) (leb c b) h).0 in ne_eqb c 0 (λ e. omega arith)

either : {A : Type 0} (a b : Bool) → a || b ≡ true → (a ≡ true → A) → (b ≡ true → A) → A
either true b h f g = f refl
either false b h f g = g h

ids_self : (schema : List ℕ) (first i : ℕ) (o : Option (List ℕ)) → child_for_each schema first o i ≡ true → same_ids o o ≡ true
ids_self schema first i none h = absurd (false≢true h)
ids_self schema first i (some ids) h = same_self ids

if_union : (u w : Bool) → (u ≡ true → w ≡ true) → not u || w ≡ true
if_union true w h = h refl
if_union false w h = refl

module _ (formats schema : List ℕ) (first : ℕ) where
  node_code : (i : ℕ) → shape formats schema first i ≡ true → eqb (code_of formats schema first i) 0 ≡ false
  unfolding union_shape
  node_code i s =
      let c = code_of formats schema first i in
      by_shape formats schema first i s
      (λ h. either (is_fixed c || is_string c) (is_view c) h (λ g. either (is_fixed c) (is_string c) g (some_code 1 10 c (omega arith)) (some_code 11 14 c (omega arith))) (some_code 15 16 c (omega arith)))
      (some_code 1 8 c (omega arith))
      (λ h. either (is_list_view c) (is_list c) h (some_code 17 18 c (omega arith)) (some_code 19 20 c (omega arith)))
      (λ h. some_code 21 22 c (omega arith) (both (is_union c) _ (both (is_union c && child_for_each schema first (ids_of formats schema first i) i) _ h).0).0)
      (some_code 23 23 c (omega arith))

  format_self : (i : ℕ) → shape formats schema first i ≡ true → same_formats formats schema first first i ≡ true
  unfolding same_formats code_of ids_of
  format_self i s =
      rw (
        node_code i s,
        eq-eqb (code_of formats schema first i) (code_of formats schema first i) refl,
        if_union (is_union (code_of formats schema first i)) (same_ids (ids_of formats schema first i) (ids_of formats schema first i)) (λ u. ids_self schema first i (ids_of formats schema first i) (union_each formats schema first i s u)),
      )

  flag_self : (i : ℕ) → same_flag schema first first i ≡ true
  unfolding same_flag
  flag_self i = rw (eq-eqb (flag schema first i) (flag schema first i) refl, or-true)

  node_self : (i : ℕ) → shape formats schema first i ≡ true → same_node formats schema first first i ≡ true
  unfolding same_node
  node_self i s =
      rw (
        format_self i s,
        eq-eqb (children schema first i) (children schema first i) refl,
        eq-eqb (dictionary schema first i) (dictionary schema first i) refl,
        flag_self i,
      )

  pub same_itself : (n : ℕ) → typed formats schema first n ≡ true → same_type formats schema first n first n ≡ true
  unfolding same_type
  same_itself n t = rw (eq-eqb n n refl, every_all (same_node formats schema first first) n (λ j l. node_self j (typed_shape formats schema first n t j l)))

-- where the types are tested, one is its own
skip : (t s : Bool) (a : ℕ) → (t ≡ true → s ≡ true) → cond t (cond s a 11) 10 ≡ cond t a 10
skip true s a h = rw (h refl)
skip false s a h = refl

-- ONE SOURCE ALONE meets the grounds of its column
pub one_source : (formats schema : List ℕ) (x : Tables) (sources : List ℕ) → source_count sources ≡ 1
    → sources_ground formats schema x sources ≡ column_ground formats schema x (first_of sources 0) (nodes_of sources 0)
unfolding column_ground few_sources all_typed all_same all_within all_obey
one_source formats schema x sources e =
    let first = first_of sources 0 in
    let nodes = nodes_of sources 0 in
    by_nodes formats schema x sources
    ∙ rw (e, and-true (small_body x.body))
    (ap (λ k. cond (small_body x.body && within_ceilings formats schema x first nodes) k 9)
    (skip (typed formats schema first nodes) (same_type formats schema first nodes first nodes) (cond (obeys formats schema x first nodes) 0 12) (same_itself formats schema first nodes)))
