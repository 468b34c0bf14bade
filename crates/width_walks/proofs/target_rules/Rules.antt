-- The test of a target is the statement, and what the code meets on its way. Assumes nothing.
use mathlib.Core.Path.{◌≡◌, refl, sym, ap, subst, ◌∙◌}
use mathlib.Core.Bool.{Bool, true, false, not, ◌&&◌, ◌||◌, and-false, false≢true}
use mathlib.Core.Option.{Option, none, some}
use mathlib.Core.List.{List, [], ◌∷◌}
use Prim.Native.Nat.{ℕ, zero, suc, ◌-◌, ◌%◌, ◌<◌}
use native.Mathlib.Omega.{arith}
use lib.Dec.{eqb}
use borrow.Author.Tests.{eqb-true, eq-eqb, ne_eqb, eqb-false}
use Rattle.schema.specs.formats.Code.{between, is_integer, is_fixed, is_string, is_view, is_list_view, is_list, is_union, is_run_end}
use Rattle.schema.specs.union_ids.Ids.{same_ids}
use Rattle.schema.specs.Tree.{flag, children, dictionary, bare, child_for_each, is_values, code_of, ids_of, leaf_shape, keys_shape, list_shape, union_shape, run_shape, values_shape, ends_shape, shape, ceilings, typed, same_flag, same_formats}
use Rattle.schema.proofs.Known.{every_at, typed_shape}
use Rattle.schema.proofs.Laws.{every_all, every_not}
use Rattle.array_data.specs.type_tree.Lent.{type_of}
use Rattle.array_data.proofs.type_tree.Ids.{both}
use Rattle.array_data.proofs.type_tree.Shaped.{five}
use Rattle.anew.specs.widths.Widths.{Widths}
use Rattle.width_walks.specs.target_rules.Target.{is_ends, same_text, other_width, ends_at, like_formats, like_node, is_target, CodeWidths, same_code, strings, list_views, plain_lists, keys, run_ends_lem, NodeWidths, Target}
use Rattle.width_walks.proofs.target_rules.Codes.{range, ends_range}
use Rattle.width_walks.proofs.target_rules.Types.{type_widths}
use Rattle.columnar.specs.Test.{same, every}

-- ---- tests

pub two : {a b : Bool} → a ≡ true → b ≡ true → a && b ≡ true
two {a} {b} e f = ap (λ x. x && b) e ∙ f

pub or_cases : {P : Type 0} (a b : Bool) → a || b ≡ true → (a ≡ true → P) → (b ≡ true → P) → P
or_cases true b h f g = f refl
or_cases false b h f g = g h

or_left : (a b : Bool) → a ≡ true → a || b ≡ true
or_left a b e = ap (λ x. x || b) e

or_right : (a b : Bool) → b ≡ true → a || b ≡ true
or_right true b e = refl
or_right false b e = e

implied : (a b : Bool) → not a || b ≡ true → a ≡ true → b ≡ true
implied true b h e = h
implied false b h e = absurd (false≢true e)

implies : (a b : Bool) → (a ≡ true → b ≡ true) → not a || b ≡ true
implies true b f = f refl
implies false b f = refl

-- ---- codes

module _ (keyed ended : Bool) (c c' : ℕ) where
  abbrev text : Bool
  text = is_string c && is_string c' && eqb (c % 2) (c' % 2)

  abbrev view : Bool
  view = is_list_view c && is_list_view c'

  abbrev list : Bool
  list = is_list c && is_list c'

  abbrev key : Bool
  key = keyed && is_integer c && is_integer c'

  abbrev end : Bool
  end = ended && is_ends c && is_ends c'

  other_cases : {P : Type 0} → other_width keyed ended c c' ≡ true
      → (is_string c ≡ true → is_string c' ≡ true → c % 2 ≡ c' % 2 → P) → (is_list_view c ≡ true → is_list_view c' ≡ true → P) → (is_list c ≡ true → is_list c' ≡ true → P)
      → (keyed ≡ true → is_integer c ≡ true → is_integer c' ≡ true → P) → (ended ≡ true → is_ends c ≡ true → is_ends c' ≡ true → P) → P
  unfolding other_width same_text
  other_cases h s v l k e =
      or_cases (text || view || list || key) end h
      (λ h. or_cases (text || view || list) key h
      (λ h. or_cases (text || view) list h
      (λ h. or_cases text view h
      (λ h. let p = both (is_string c && is_string c') (eqb (c % 2) (c' % 2)) h in
      let q = both (is_string c) (is_string c') p.0 in s q.0 q.1 (eqb-true (c % 2) (c' % 2) p.1))
      (λ h. let q = both (is_list_view c) (is_list_view c') h in v q.0 q.1))
      (λ h. let q = both (is_list c) (is_list c') h in l q.0 q.1))
      (λ h. let p = both (keyed && is_integer c) (is_integer c') h in
      let q = both keyed (is_integer c) p.0 in k q.0 q.1 p.1))
      (λ h. let p = both (ended && is_ends c) (is_ends c') h in
      let q = both ended (is_ends c) p.0 in e q.0 q.1 p.1)

  other_widths : other_width keyed ended c c' ≡ true → CodeWidths keyed ended c c'
  other_widths h = other_cases h strings list_views plain_lists keys run_ends_lem

  -- a union's format has no other width
  other_union : other_width keyed ended c c' ≡ true → is_union c ≡ true → ⊥
  other_union h u =
      other_cases h (λ a b t. omega (arith, (range 21 22 c u).0, (range 11 14 c a).1)) (λ a b. omega (arith, (range 21 22 c u).0, (range 17 18 c a).1))
      (λ a b. omega (arith, (range 21 22 c u).0, (range 19 20 c a).1)) (λ k a b. omega (arith, (range 21 22 c u).0, (range 1 8 c a).1))
      (λ k a b. omega (arith, (range 21 22 c u).0, (ends_range c a).1))

  in_three : text || view || list ≡ true → text || view || list || key ≡ true
  in_three h = or_left (text || view || list) key h

  in_four : text || view || list || key ≡ true → other_width keyed ended c c' ≡ true
  unfolding other_width same_text
  in_four h = or_left (text || view || list || key) end h

  widths_other : CodeWidths keyed ended c c' → (c ≡ c' → ⊥) → other_width keyed ended c c' ≡ true
  unfolding other_width same_text
  widths_other (same_code e) diff = absurd (diff e)
  widths_other (strings a b t) diff = in_four (in_three (or_left (text || view) list (or_left text view (two (two a b) (eq-eqb (c % 2) (c' % 2) t)))))
  widths_other (list_views a b) diff = in_four (in_three (or_left (text || view) list (or_right text view (two a b))))
  widths_other (plain_lists a b) diff = in_four (in_three (or_right (text || view) list (two a b)))
  widths_other (keys k a b) diff = in_four (or_right (text || view || list) key (two (two k a) b))
  widths_other (run_ends_lem k a b) diff = or_right (text || view || list || key) end (two (two k a) b)

same_list_lem : (a b : List ℕ) → same a b ≡ true → a ≡ b
same_list_lem [] [] h = refl
same_list_lem [] (y ∷ ys) h = absurd (false≢true h)
same_list_lem (x ∷ xs) [] h = absurd (false≢true h)
same_list_lem (x ∷ xs) (y ∷ ys) h =
    let p = both (same xs ys) (eqb x y) h in
    ap (λ z. z ∷ xs) (eqb-true x y p.1) ∙ ap (λ zs. y ∷ zs) (same_list_lem xs ys p.0)

list_same : (a : List ℕ) → same a a ≡ true
list_same [] = refl
list_same (x ∷ xs) = two (list_same xs) (eq-eqb x x refl)

same_ids_of : (o o' : Option (List ℕ)) → same_ids o o' ≡ true → o ≡ o'
same_ids_of (some a) (some b) h = ap some (same_list_lem a b h)
same_ids_of (some a) none h = absurd (false≢true h)
same_ids_of none o h = absurd (false≢true h)

-- a union that has a child for each id has ids
ids_same : (schema : List ℕ) (first i : ℕ) (o o' : Option (List ℕ)) → child_for_each schema first o' i ≡ true → o ≡ o' → same_ids o o' ≡ true
ids_same schema first i o none h e = absurd (false≢true h)
ids_same schema first i o (some ids) h e = subst (λ z. same_ids z (some ids) ≡ true) (sym e) (list_same ids)

-- ---- a node of an admitted type

module _ (formats schema : List ℕ) (first i : ℕ) (h : shape formats schema first i ≡ true) where
  abbrev c : ℕ
  c = code_of formats schema first i

  some_code : c ≡ 0 → ⊥
  unfolding shape leaf_shape keys_shape list_shape union_shape run_shape
  some_code z =
      five formats schema first (leaf_shape formats schema first i) (keys_shape formats schema first i) (list_shape formats schema first i) (union_shape formats schema first i) (run_shape formats schema first i) h
      (λ h. or_cases (is_fixed c || is_string c) (is_view c) (both (is_fixed c || is_string c || is_view c) (bare schema first i) h).0
      (λ h. or_cases (is_fixed c) (is_string c) h (no 1 10 (omega arith)) (no 11 14 (omega arith))) (no 15 16 (omega arith)))
      (λ h. no 1 8 (omega arith) (both (is_integer c) (eqb (children schema first i) 0) (both (is_integer c && eqb (children schema first i) 0) (eqb (dictionary schema first i) 1) (both (is_integer c && eqb (children schema first i) 0 && eqb (dictionary schema first i) 1) (values_shape formats schema first (suc i)) h).0).0).0)
      (λ h. or_cases (is_list_view c) (is_list c) (both (is_list_view c || is_list c) (eqb (children schema first i) 1) (both ((is_list_view c || is_list c) && eqb (children schema first i) 1) (eqb (dictionary schema first i) 0) h).0).0 (no 17 18 (omega arith)) (no 19 20 (omega arith)))
      (λ h. no 21 22 (omega arith) (both (is_union c) (child_for_each schema first (ids_of formats schema first i) i) (both (is_union c && child_for_each schema first (ids_of formats schema first i) i) (eqb (dictionary schema first i) 0) h).0).0)
      (λ h. no 23 23 (omega arith) (both (is_run_end c) (eqb (children schema first i) 2) (both (is_run_end c && eqb (children schema first i) 2) (eqb (dictionary schema first i) 0) (both (is_run_end c && eqb (children schema first i) 2 && eqb (dictionary schema first i) 0) (ends_shape formats schema first (suc i)) h).0).0).0)
    where
      no : (a b : ℕ) → 0 < a → between a b c ≡ true → ⊥
      no a b l h = omega (arith, (range a b c h).0)

  pub union_ids : is_union c ≡ true → child_for_each schema first (ids_of formats schema first i) i ≡ true
  unfolding shape leaf_shape keys_shape list_shape union_shape run_shape
  union_ids u =
      five formats schema first (leaf_shape formats schema first i) (keys_shape formats schema first i) (list_shape formats schema first i) (union_shape formats schema first i) (run_shape formats schema first i) h
      (λ h. or_cases (is_fixed c || is_string c) (is_view c) (both (is_fixed c || is_string c || is_view c) (bare schema first i) h).0
      (λ h. or_cases (is_fixed c) (is_string c) h (λ e. no 1 10 e (omega arith)) (λ e. no 11 14 e (omega arith))) (λ e. no 15 16 e (omega arith)))
      (λ h. no 1 8 (both (is_integer c) (eqb (children schema first i) 0) (both (is_integer c && eqb (children schema first i) 0) (eqb (dictionary schema first i) 1) (both (is_integer c && eqb (children schema first i) 0 && eqb (dictionary schema first i) 1) (values_shape formats schema first (suc i)) h).0).0).0 (omega arith))
      (λ h. or_cases (is_list_view c) (is_list c) (both (is_list_view c || is_list c) (eqb (children schema first i) 1) (both ((is_list_view c || is_list c) && eqb (children schema first i) 1) (eqb (dictionary schema first i) 0) h).0).0 (λ e. no 17 18 e (omega arith)) (λ e. no 19 20 e (omega arith)))
      (λ h. (both (is_union c) (child_for_each schema first (ids_of formats schema first i) i) (both (is_union c && child_for_each schema first (ids_of formats schema first i) i) (eqb (dictionary schema first i) 0) h).0).1)
      (λ h. absurd (omega (arith, (range 21 22 c u).1, (range 23 23 c (both (is_run_end c) (eqb (children schema first i) 2) (both (is_run_end c && eqb (children schema first i) 2) (eqb (dictionary schema first i) 0) (both (is_run_end c && eqb (children schema first i) 2 && eqb (dictionary schema first i) 0) (ends_shape formats schema first (suc i)) h).0).0).0).0)))
    where
      no : {A : Type 0} (a b : ℕ) → between a b c ≡ true → b < 21 → A
      no a b h l = absurd (omega (arith, (range a b c h).1, (range 21 22 c u).0))

-- ---- two nodes

module _ (formats schema : List ℕ) (first first' i : ℕ) where
  abbrev here : ℕ
  here = code_of formats schema first i

  abbrev there : ℕ
  there = code_of formats schema first' i

  abbrev At : Type 0
  At = CodeWidths (eqb (dictionary schema first i) 1) (ends_at formats schema first i) here there

  same_format_is : same_formats formats schema first first' i ≡ true
      → (here ≡ there) × (is_union here ≡ true → ids_of formats schema first i ≡ ids_of formats schema first' i)
  unfolding same_formats code_of ids_of
  same_format_is h =
      let c = code_of formats schema first i in
      let c' = code_of formats schema first' i in
      let o = ids_of formats schema first i in
      let o' = ids_of formats schema first' i in
      let p = both (not (eqb c 0) && eqb c c') (not (is_union c) || same_ids o o') h in
      let q = both (not (eqb c 0)) (eqb c c') p.0 in
      (eqb-true c c' q.1, λ u. same_ids_of o o' (implied (is_union c) (same_ids o o') p.1 u))

  is_same_format : shape formats schema first' i ≡ true → here ≡ there → (is_union here ≡ true → ids_of formats schema first i ≡ ids_of formats schema first' i)
      → same_formats formats schema first first' i ≡ true
  unfolding same_formats code_of ids_of
  is_same_format s e u =
      let c = code_of formats schema first i in
      let c' = code_of formats schema first' i in
      let o = ids_of formats schema first i in
      let o' = ids_of formats schema first' i in
      let z : not (eqb c 0) ≡ true = ap not (ne_eqb c 0 (λ q. some_code formats schema first' i s (sym e ∙ q))) in
      two (two z (eq-eqb c c' e)) (implies (is_union c) (same_ids o o') (λ x. ids_same schema first' i o o' (union_ids formats schema first' i s (subst (λ k. is_union k ≡ true) e x)) (u x)))

  formats_are : like_formats formats schema first first' i ≡ true → At × (is_union here ≡ true → ids_of formats schema first i ≡ ids_of formats schema first' i)
  unfolding like_formats
  formats_are h =
      let keyed = eqb (dictionary schema first i) 1 in
      let ended = ends_at formats schema first i in
      or_cases (same_formats formats schema first first' i) (other_width keyed ended here there) h
      (λ h. let p = same_format_is h in (same_code p.0, p.1))
      (λ h. (other_widths keyed ended here there h, λ u. absurd (other_union keyed ended here there h u)))

  are_formats : shape formats schema first' i ≡ true → At → (is_union here ≡ true → ids_of formats schema first i ≡ ids_of formats schema first' i)
      → like_formats formats schema first first' i ≡ true
  unfolding like_formats
  are_formats s a u = go (eqb here there) refl
    where
      go : (b : Bool) → eqb here there ≡ b
          → same_formats formats schema first first' i || other_width (eqb (dictionary schema first i) 1) (ends_at formats schema first i) here there ≡ true
      go true e = or_left (same_formats formats schema first first' i) (other_width (eqb (dictionary schema first i) 1) (ends_at formats schema first i) here there) (is_same_format s (eqb-true here there e) u)
      go false e = or_right (same_formats formats schema first first' i) (other_width (eqb (dictionary schema first i) 1) (ends_at formats schema first i) here there) (widths_other (eqb (dictionary schema first i) 1) (ends_at formats schema first i) here there a (eqb-false here there e))

  flag_is : same_flag schema first first' i ≡ true → (i ≡ 0 → ⊥) → is_values schema first i ≡ false → flag schema first i ≡ flag schema first' i
  unfolding same_flag
  flag_is h z v =
      eqb-true (flag schema first i) (flag schema first' i)
      (or_cases (eqb i 0 || is_values schema first i) (eqb (flag schema first i) (flag schema first' i)) h
      (λ h. or_cases (eqb i 0) (is_values schema first i) h (λ e. absurd (z (eqb-true i 0 e))) (λ e. absurd (false≢true (sym v ∙ e)))) (λ e. e))

  is_flag : ((i ≡ 0 → ⊥) → is_values schema first i ≡ false → flag schema first i ≡ flag schema first' i) → same_flag schema first first' i ≡ true
  unfolding same_flag
  is_flag f = go (eqb i 0) refl (is_values schema first i) refl
    where
      go : (a : Bool) → eqb i 0 ≡ a → (b : Bool) → is_values schema first i ≡ b → a || b || eqb (flag schema first i) (flag schema first' i) ≡ true
      go true e b v = refl
      go false e true v = refl
      go false e false v = eq-eqb (flag schema first i) (flag schema first' i) (f (eqb-false i 0 e) v)

  node_is : like_node formats schema first first' i ≡ true → NodeWidths formats schema first first' i
  unfolding like_node
  node_is h =
      let a = like_formats formats schema first first' i in
      let b = eqb (children schema first i) (children schema first' i) in
      let d = eqb (dictionary schema first i) (dictionary schema first' i) in
      let p = both (a && b && d) (same_flag schema first first' i) h in
      let q = both (a && b) d p.0 in
      let r = both a b q.0 in
      let f = formats_are r.0 in
      record {
        code_widths = f.0;
        same_ids_lem = f.1;
        same_children = eqb-true (children schema first i) (children schema first' i) r.1;
        same_dictionary = eqb-true (dictionary schema first i) (dictionary schema first' i) q.1;
        same_flag_lem = flag_is p.1;
      }

  is_node : shape formats schema first' i ≡ true → NodeWidths formats schema first first' i → like_node formats schema first first' i ≡ true
  unfolding like_node
  is_node s g =
      two
      (two (two (are_formats s g.code_widths g.same_ids_lem) (eq-eqb (children schema first i) (children schema first' i) g.same_children))
      (eq-eqb (dictionary schema first i) (dictionary schema first' i) g.same_dictionary))
      (is_flag g.same_flag_lem)

-- ---- THE TEST IS THE STATEMENT

module _ (formats schema : List ℕ) (first n first' n' : ℕ) where
  abbrev low' : Bool
  low' = ceilings formats schema first' n'

  abbrev typed' : Bool
  typed' = typed formats schema first' n'

  abbrev like : Bool
  like = every (like_node formats schema first first') n

  pub target_is : is_target formats schema first n first' n' ≡ true → Target formats schema first n first' n'
  unfolding is_target
  target_is h =
      let p = both (eqb n n' && low' && typed') like h in
      let q = both (eqb n n' && low') typed' p.0 in
      let r = both (eqb n n') low' q.0 in
      record {
        same_size = eqb-true n n' r.0;
        low = r.1;
        of_type = q.1;
        nodes = λ i l. node_is formats schema first first' i (every_at (like_node formats schema first first') n i p.1 l);
      }

  pub is_target_lem : Target formats schema first n first' n' → is_target formats schema first n first' n' ≡ true
  unfolding is_target
  is_target_lem g =
      two (two (two (eq-eqb n n' g.same_size) g.low) g.of_type)
      (every_all (like_node formats schema first first') n
      (λ i l. is_node formats schema first first' i (typed_shape formats schema first' n' g.of_type i (subst (λ k. i < k) g.same_size l)) (g.nodes i l)))

  -- A TARGET THAT PASSES STANDS FOR A TYPE OF OTHER WIDTHS
  pub target_test : typed formats schema first n ≡ true → ceilings formats schema first n ≡ true → is_target formats schema first n first' n' ≡ true
      → Widths (type_of formats schema first n) (type_of formats schema first' n')
  target_test t c h =
      let g = target_is h in
      subst (λ k. Widths (type_of formats schema first n) (type_of formats schema first' k)) g.same_size
      (type_widths formats schema first first' n g.nodes t c)

  -- ---- what the code meets

  pub other_size : (n ≡ n' → ⊥) → is_target formats schema first n first' n' ≡ false
  unfolding is_target
  other_size h = rw (ne_eqb n n' h)

  pub not_low : ceilings formats schema first' n' ≡ false → is_target formats schema first n first' n' ≡ false
  unfolding is_target
  not_low h = rw (h, and-false)

  pub not_typed : typed formats schema first' n' ≡ false → is_target formats schema first n first' n' ≡ false
  unfolding is_target
  not_typed h = rw (h, and-false)

  pub not_like : (i : ℕ) → i < n → like_node formats schema first first' i ≡ false → is_target formats schema first n first' n' ≡ false
  unfolding is_target
  not_like i l h = rw (every_not (like_node formats schema first first') n i l h, and-false)

  pub all_like : n ≡ n' → ceilings formats schema first' n' ≡ true → typed formats schema first' n' ≡ true
      → ((j : ℕ) → j < n → like_node formats schema first first' j ≡ true) → is_target formats schema first n first' n' ≡ true
  unfolding is_target
  all_like q c t h = rw (eq-eqb n n' q, c, t, every_all (like_node formats schema first first') n h)

pub ends_first : (formats schema : List ℕ) (first i : ℕ) → i ≡ 0 → ends_at formats schema first i ≡ false
unfolding ends_at
ends_first formats schema first zero e = refl
ends_first formats schema first (suc i) e = absurd (omega arith)

pub ends_later : (formats schema : List ℕ) (first i : ℕ) → (i ≡ 0 → ⊥) → ends_at formats schema first i ≡ is_run_end (code_of formats schema first (i - 1))
unfolding ends_at
ends_later formats schema first zero z = absurd (z refl)
ends_later formats schema first (suc i) z = let e : suc i - 1 ≡ i = omega arith in rw e
