-- Laws of type trees. Assumes nothing.
use mathlib.Core.Path.{◌≡◌, refl, ap, sym, ◌∙◌}
use mathlib.Core.Bool.{Bool, true, false, ◌&&◌, ◌||◌, and-false, and-true}
use mathlib.Core.List.{List}
use mathlib.Core.Option.{Option, none, some}
use Prim.Native.Nat.{ℕ, zero, suc, ◌+◌, ◌-◌, ◌≤◌, ◌<◌}
use native.Mathlib.Omega.{arith}
use native.Mathlib.Numerals.{add-one}
use lib.ListN.{length}
use lib.Dec.{leb, ltb, eqb}
use borrow.Author.Tests.{lt-ltb, le-ltb, le-leb, lt-leb, eq-eqb, ne_eqb, eqb-true, eqb-false}
use Rattle.schema.specs.Tree.{field, flag, children, dictionary, below, end_from, child_for_each, is_values, end_of, depth, whole, code_of, ids_of, few_fields, shape, ceilings, typed, same_flag, same_formats, same_node, same_type}
use Rattle.schema.specs.union_ids.Ids.{ids_at, answer_of, same_format}
use Rattle.std.specs.Prelude.{Some, None}
use Rattle.std.specs.declared.option.Option as answer
use Rattle.columnar.specs.Test.{every}
use Rattle.schema.proofs.Counts.{count}
use Rattle.schema.proofs.Due.{due_from, whole_is}

-- ---- every and count

pub every_all : (p : ℕ → Bool) (n : ℕ) → ((j : ℕ) → j < n → p j ≡ true) → every p n ≡ true
every_all p zero h = refl
every_all p (suc n) h = rw (every_all p n (λ j l. h j (omega arith)), h n (omega arith))

every_not_by : (p : ℕ → Bool) (n i : ℕ) (x : Bool) → eqb i n ≡ x → i < suc n → p i ≡ false → (i < n → every p n ≡ false) → every p n && p n ≡ false
every_not_by p n i true e l h ih = let q : p n ≡ false = ap p (sym (eqb-true i n e)) ∙ h in rw (q, and-false)
every_not_by p n i false e l h ih = let d = eqb-false i n e in rw (ih (omega arith))

pub every_not : (p : ℕ → Bool) (n i : ℕ) → i < n → p i ≡ false → every p n ≡ false
every_not p zero i l h = absurd (omega arith)
every_not p (suc n) i l h = every_not_by p n i (eqb i n) refl l h (λ less. every_not p n i less h)

-- ---- what stands below a node

pub below_none : (schema : List ℕ) (first i d : ℕ) → d ≡ dictionary schema first i → d ≡ 0 → below schema first i ≡ children schema first i
unfolding below
below_none schema first i d e z = rw (eq-eqb (dictionary schema first i) 0 (sym e ∙ z)) (omega arith)

pub below_values : (schema : List ℕ) (first i d : ℕ) → d ≡ dictionary schema first i → (d ≡ 0 → ⊥) → below schema first i ≡ children schema first i + 1
unfolding below
below_values schema first i d e z = rw (ne_eqb (dictionary schema first i) 0 (λ q. z (e ∙ q)))

-- ---- where subtrees end

module _ (schema : List ℕ) (first n : ℕ) where
  pub end_step : (due k : ℕ) → k < n → (due ≡ 0 → ⊥) → end_from schema first (n - k) due k ≡ end_from schema first (n - (k + 1)) (due - 1 + below schema first k) (k + 1)
  unfolding end_from
  end_step zero k l d = absurd (d refl)
  end_step (suc p) k l d =
      let e : n - k ≡ suc (n - (k + 1)) = omega arith in
      let e2 : suc p - 1 ≡ p = omega arith in
      rw (e, e2, add-one)

  -- nothing is due: the subtrees end here
  pub end_none : (due k : ℕ) → k < n → due ≡ 0 → end_from schema first (n - k) due k ≡ k
  unfolding end_from
  end_none zero k l d = let e : n - k ≡ suc (n - (k + 1)) = omega arith in rw e
  end_none (suc p) k l d = absurd (omega arith)

  -- no node is left
  pub end_last : (due k : ℕ) → n ≤ k → end_from schema first (n - k) due k ≡ k
  unfolding end_from
  end_last due k l = let e : n - k ≡ 0 = omega arith in rw e

  pub due_last : (due k : ℕ) → n ≤ k → due_from schema first (n - k) due k ≡ due
  unfolding due_from
  due_last due k l = let e : n - k ≡ 0 = omega arith in rw e

  pub due_step : (due k : ℕ) → k < n → (due ≡ 0 → ⊥) → due_from schema first (n - k) due k ≡ due_from schema first (n - (k + 1)) (due - 1 + below schema first k) (k + 1)
  unfolding due_from
  due_step zero k l d = absurd (d refl)
  due_step (suc p) k l d =
      let e : n - k ≡ suc (n - (k + 1)) = omega arith in
      let e2 : suc p - 1 ≡ p = omega arith in
      rw (e, e2, add-one)

  -- ---- whether they are one whole tree

  pub not_none : n ≡ 0 → whole schema first n ≡ false
  not_none e = whole_is schema first n ∙ rw (lt-leb 1 n (omega arith))

  pub not_early : (due k : ℕ) → k < n → due ≡ 0 → end_from schema first (n - k) due k ≡ end_from schema first n 1 0 → whole schema first n ≡ false
  unfolding end_of
  not_early due k l d e =
      let z : n - 0 ≡ n = omega arith in
      let s : end_from schema first n 1 0 ≡ k = sym e ∙ end_none due k l d in
      whole_is schema first n ∙ rw (z, s, ne_eqb k n (λ q. omega arith), and-false)

  pub by_due : (due k : ℕ) → n ≡ k → (n ≡ 0 → ⊥) → end_from schema first (n - k) due k ≡ end_from schema first n 1 0
      → due_from schema first (n - k) due k ≡ due_from schema first n 1 0 → whole schema first n ≡ eqb due 0
  unfolding end_of
  by_due due k q z e d =
      let z0 : n - 0 ≡ n = omega arith in
      let s : end_from schema first n 1 0 ≡ n = sym e ∙ end_last due k (omega arith) ∙ sym q in
      let t : due_from schema first n 1 0 ≡ due = sym d ∙ due_last due k (omega arith) in
      whole_is schema first n ∙ rw (z0, s, t, le-leb 1 n (omega arith), eq-eqb n n refl, and-true)

  -- ---- depth and ceilings

  pub depth_in : (i j d : ℕ) → i < end_of schema first n j → d ≡ suc (count (λ k. ltb i (end_of schema first n k)) j) → d + 1 ≡ suc (count (λ k. ltb i (end_of schema first n k)) (j + 1))
  depth_in i j d l e = rw (add-one j, lt-ltb i (end_of schema first n j) l) (omega arith)

  pub depth_out : (i j d : ℕ) → end_of schema first n j ≤ i → d ≡ suc (count (λ k. ltb i (end_of schema first n k)) j) → d ≡ suc (count (λ k. ltb i (end_of schema first n k)) (j + 1))
  depth_out i j d l e = rw (add-one j, le-ltb i (end_of schema first n j) l) (omega arith)

  pub depth_all : (i j d : ℕ) → j ≡ i → d ≡ suc (count (λ k. ltb i (end_of schema first n k)) j) → d ≡ depth schema first n i
  unfolding depth
  depth_all i j d q e = rw q at e

module _ (formats schema : List ℕ) (first n : ℕ) where
  pub too_many : 32 < n → ceilings formats schema first n ≡ false
  unfolding ceilings
  too_many h = rw (lt-leb n 32 h)

  pub too_wide : (i : ℕ) → i < n → few_fields formats schema first i ≡ false → ceilings formats schema first n ≡ false
  unfolding ceilings
  too_wide i l h = rw (every_not (λ k. few_fields formats schema first k && leb (depth schema first n k) 8) n i l (rw h), and-false)

  pub too_deep : (i : ℕ) → i < n → leb (depth schema first n i) 8 ≡ false → ceilings formats schema first n ≡ false
  unfolding ceilings
  too_deep i l h = rw (every_not (λ k. few_fields formats schema first k && leb (depth schema first n k) 8) n i l (rw (h, and-false)), and-false)

  pub one_low : (i : ℕ) → few_fields formats schema first i ≡ true → leb (depth schema first n i) 8 ≡ true → few_fields formats schema first i && leb (depth schema first n i) 8 ≡ true
  one_low i f d = rw (f, d)

  pub low_enough : n ≤ 32 → ((j : ℕ) → j < n → few_fields formats schema first j && leb (depth schema first n j) 8 ≡ true) → ceilings formats schema first n ≡ true
  unfolding ceilings
  low_enough l h = rw (le-leb n 32 l, every_all (λ k. few_fields formats schema first k && leb (depth schema first n k) 8) n h)

-- ---- the types that are admitted

never : (k : ℕ) → Some k ≡ None → ⊥
never k e = let z : ◌≡◌ {A = ℕ} 0 1 = cc in omega arith

counted : (j k : ℕ) → Some j ≡ Some k → j ≡ k
counted j k e = cc

module _ (schema : List ℕ) (first i : ℕ) where
  none_by : (o : Option (List ℕ)) → answer_of o ≡ None → child_for_each schema first o i ≡ false
  none_by none e = refl
  none_by (some ids) e = absurd (never (length ids) e)

  each_by : (o : Option (List ℕ)) (k n : ℕ) → answer_of o ≡ Some k → n ≡ children schema first i → child_for_each schema first o i ≡ eqb k n
  each_by none k n e q = absurd (never k (sym e))
  each_by (some ids) k n e q = rw (counted _ _ e, q)

  module _ (formats : List ℕ) (at len : ℕ) (r : answer.Option ℕ) (a : at ≡ field schema (first + i) 0) (l : len ≡ field schema (first + i) 1) (e : r ≡ answer_of (ids_at formats at len)) where
    same_ids_lem : ids_of formats schema first i ≡ ids_at formats at len
    unfolding ids_of
    same_ids_lem = ap (λ x. ids_at formats x (field schema (first + i) 1)) (sym a) ∙ ap (ids_at formats at) (sym l)

    pub no_ids : r ≡ None → child_for_each schema first (ids_of formats schema first i) i ≡ false
    no_ids h = none_by (ids_of formats schema first i) (ap answer_of same_ids_lem ∙ sym e ∙ h)

    pub counts : (k n : ℕ) → r ≡ Some k → n ≡ children schema first i → child_for_each schema first (ids_of formats schema first i) i ≡ eqb k n
    counts k n h q = each_by (ids_of formats schema first i) k n (ap answer_of same_ids_lem ∙ sym e ∙ h) q

module _ (formats schema : List ℕ) (first n : ℕ) where
  pub not_whole : whole schema first n ≡ false → typed formats schema first n ≡ false
  unfolding typed
  not_whole h = rw h

  pub one_not : (i : ℕ) → i < n → shape formats schema first i ≡ false → typed formats schema first n ≡ false
  unfolding typed
  one_not i l h = rw (every_not (shape formats schema first) n i l h, and-false)

  pub all_shaped : whole schema first n ≡ true → ((j : ℕ) → j < n → shape formats schema first j ≡ true) → typed formats schema first n ≡ true
  unfolding typed
  all_shaped w h = rw (w, every_all (shape formats schema first) n h)

-- ---- the same type

module _ (schema : List ℕ) (first first' : ℕ) where
  pub flag_root : (i : ℕ) → i ≡ 0 → same_flag schema first first' i ≡ true
  unfolding same_flag
  flag_root i e = rw (eq-eqb i 0 e)

  pub flag_other : (i : ℕ) → (i ≡ 0 → ⊥) → same_flag schema first first' i ≡ eqb (dictionary schema first (i - 1)) 1 || eqb (flag schema first i) (flag schema first' i)
  unfolding same_flag is_values
  flag_other zero z = absurd (z refl)
  flag_other (suc i) z = let e : suc i - 1 ≡ i = omega arith in rw (e, ne_eqb (suc i) 0 z)

pub formats_by : (formats schema : List ℕ) (first first' i at len at' len' : ℕ)
    → at ≡ field schema (first + i) 0 → len ≡ field schema (first + i) 1 → at' ≡ field schema (first' + i) 0 → len' ≡ field schema (first' + i) 1
    → same_format formats at len at' len' ≡ same_formats formats schema first first' i
unfolding same_formats code_of ids_of
formats_by formats schema first first' i at len at' len' a l a' l' =
    ap (λ x. same_format formats x len at' len') a
    ∙ ap (λ x. same_format formats (field schema (first + i) 0) x at' len') l
    ∙ ap (λ x. same_format formats (field schema (first + i) 0) (field schema (first + i) 1) x len') a'
    ∙ ap (λ x. same_format formats (field schema (first + i) 0) (field schema (first + i) 1) (field schema (first' + i) 0) x) l'

module _ (formats schema : List ℕ) (first n first' n' : ℕ) where
  pub sizes_differ : (n ≡ n' → ⊥) → same_type formats schema first n first' n' ≡ false
  unfolding same_type
  sizes_differ h = rw (ne_eqb n n' h)

  pub nodes_differ : (i : ℕ) → i < n → same_node formats schema first first' i ≡ false → same_type formats schema first n first' n' ≡ false
  unfolding same_type
  nodes_differ i l h = rw (every_not (same_node formats schema first first') n i l h, and-false)

  pub all_same_lem : n ≡ n' → ((j : ℕ) → j < n → same_node formats schema first first' j ≡ true) → same_type formats schema first n first' n' ≡ true
  unfolding same_type
  all_same_lem q h = rw (eq-eqb n n' q, every_all (same_node formats schema first first') n h)
