-- A target of one node, by what the node says: with nothing below it, it is a whole tree within the ceilings. Assumes nothing.
use mathlib.Core.Path.{◌≡◌, refl, ap, ◌∙◌}
use mathlib.Core.Bool.{true, false, cond, and-false, or-true}
use mathlib.Core.List.{List}
use Prim.Native.Nat.{ℕ, zero, suc, ◌+◌}
use native.Mathlib.Omega.{arith}
use lib.Dec.{eqb}
use borrow.Author.Tests.{ne_eqb}
use Rattle.schema.specs.formats.Code.{is_fixed}
use Rattle.schema.specs.Tree.{children, dictionary, below, bare, end_from, depth, whole, code_of, few_fields, leaf_shape, shape, ceilings, typed}
use Rattle.coding.specs.Encode.{plain_at}
use Rattle.coding.specs.Expand.{plain_over}

module _ (schema : List ℕ) (target : ℕ) where
  whole_by : (b : ℕ) → below schema target 0 ≡ b → whole schema target 1 ≡ eqb (end_from schema target 1 b 1) 1
  unfolding whole end_from
  whole_by b e = let z : 0 + below schema target 0 ≡ b = omega (arith, e) in ap (λ (p : ℕ). eqb (end_from schema target 1 p 1) 1) z

  none_below : children schema target 0 ≡ 0 → dictionary schema target 0 ≡ 0 → below schema target 0 ≡ 0
  unfolding below
  none_below e d = rw (e, d) refl

  some_below : (k : ℕ) → children schema target 0 ≡ suc k → below schema target 0 ≡ suc (k + cond (eqb (dictionary schema target 0) 0) 0 1)
  unfolding below
  some_below k e = rw e (omega arith)

  ends_here : eqb (end_from schema target 1 0 1) 1 ≡ true
  unfolding end_from
  ends_here = refl

  ends_later : (k : ℕ) → eqb (end_from schema target 1 (suc k) 1) 1 ≡ false
  unfolding end_from
  ends_later k = refl

  is_whole : children schema target 0 ≡ 0 → dictionary schema target 0 ≡ 0 → whole schema target 1 ≡ true
  is_whole e d = whole_by 0 (none_below e d) ∙ ends_here

  not_whole : (k : ℕ) → children schema target 0 ≡ suc k → whole schema target 1 ≡ false
  not_whole k e = whole_by _ (some_below k e) ∙ ends_later _

module _ (formats schema : List ℕ) (first target : ℕ) where
  one_ceilings : children schema target 0 ≡ 0 → ceilings formats schema target 1 ≡ true
  unfolding ceilings few_fields depth
  one_ceilings e = rw (e, or-true) refl

  one_typed : is_fixed (code_of formats schema target 0) ≡ true → children schema target 0 ≡ 0 → dictionary schema target 0 ≡ 0 → typed formats schema target 1 ≡ true
  unfolding typed shape leaf_shape bare
  one_typed f e d = rw (is_whole schema target e d, f, e, d) refl

  -- ---- what each return of the test answers

  has_children : (k : ℕ) → children schema target 0 ≡ suc k → false ≡ plain_over formats schema first target
  unfolding plain_over typed
  has_children k e = rw (not_whole schema target k e, and-false) refl

  not_plain : plain_at formats schema target 0 ≡ false → false ≡ plain_over formats schema first target
  unfolding plain_over
  not_plain e = rw (e, and-false) refl

  pub due_children : (children schema target 0 ≡ 0 → ⊥) → false ≡ plain_over formats schema first target
  due_children h = go (children schema target 0) refl
    where
      go : (n : ℕ) → children schema target 0 ≡ n → false ≡ plain_over formats schema first target
      go zero e = absurd (h e)
      go (suc k) e = has_children k e

  keyed : (dictionary schema target 0 ≡ 0 → ⊥) → plain_at formats schema target 0 ≡ false
  unfolding plain_at
  keyed h = rw (ne_eqb (dictionary schema target 0) 0 h, and-false) refl

  pub due_dictionary : (dictionary schema target 0 ≡ 0 → ⊥) → false ≡ plain_over formats schema first target
  due_dictionary h = not_plain (keyed h)

  unfixed : is_fixed (code_of formats schema target 0) ≡ false → plain_at formats schema target 0 ≡ false
  unfolding plain_at
  unfixed h = rw h refl

  pub due_code : is_fixed (code_of formats schema target 0) ≡ false → false ≡ plain_over formats schema first target
  due_code h = not_plain (unfixed h)

  pub due_same : is_fixed (code_of formats schema target 0) ≡ true → children schema target 0 ≡ 0 → dictionary schema target 0 ≡ 0
      → {u v : ℕ} → u ≡ code_of formats schema target 0 → v ≡ code_of formats schema first 2 → eqb u v ≡ plain_over formats schema first target
  unfolding plain_over plain_at
  due_same f e d eu ev = rw (one_ceilings e, one_typed f e d, f, d, eu, ev) refl
