-- How many subtrees are still due behind a range of nodes, and the test of a whole tree by it. Assumes nothing.
use mathlib.Core.Path.{◌≡◌, refl, ap, sym, ◌∙◌}
use mathlib.Core.Bool.{Bool, true, false, ◌&&◌, and-false}
use mathlib.Core.List.{List}
use Prim.Native.Nat.{ℕ, zero, suc, ◌+◌, ◌-◌}
use native.Mathlib.Omega.{arith}
use lib.Dec.{leb, eqb}
use borrow.Author.Tests.{le-leb, ne_eqb, eqb-true, eqb-false}
use Rattle.schema.specs.Tree.{below, end_from, end_of, whole}

module _ (schema : List ℕ) (first : ℕ) where
  -- from node i on, with p subtrees due and at most f nodes left
  unfoldable pub due_from : ℕ → ℕ → ℕ → ℕ
  due_from zero p i = p
  due_from (suc f) zero i = zero
  due_from (suc f) (suc p) i = due_from f (p + below schema first i) (suc i)

  -- with none due, a node more is not taken
  end_stays : (f p i : ℕ) → due_from f p i ≡ 0 → end_from schema first (suc f) p i ≡ end_from schema first f p i
  unfolding due_from end_from
  end_stays zero zero i h = refl
  end_stays zero (suc p) i h = absurd (omega (arith, h))
  end_stays (suc f) zero i h = refl
  end_stays (suc f) (suc p) i h = end_stays f (p + below schema first i) (suc i) h

  -- .. and with some due it is
  end_grows : (f p i : ℕ) → (due_from f p i ≡ 0 → ⊥) → end_from schema first (suc f) p i ≡ suc (i + f)
  unfolding due_from end_from
  end_grows zero zero i h = absurd (h refl)
  end_grows zero (suc p) i h = omega arith
  end_grows (suc f) zero i h = absurd (h refl)
  end_grows (suc f) (suc p) i h =
      let e = end_grows f (p + below schema first i) (suc i) h in
      omega (arith, e)

  some_due : (n : ℕ) → due_from n 1 0 ≡ 0 → leb 1 n ≡ true
  unfolding due_from
  some_due zero h = absurd (omega (arith, h))
  some_due (suc n) h = le-leb 1 (suc n) (omega arith)

module _ (schema : List ℕ) (first n : ℕ) where
  -- THE TEST OF A WHOLE TREE: there is a node, none is due, and the root's subtree ends with the last
  pub whole_is : whole schema first n ≡ (leb 1 n && eqb (due_from schema first n 1 0) 0 && eqb (end_of schema first n 0) n)
  unfolding whole end_of
  whole_is = go (eqb (due_from schema first n 1 0) 0) refl
    where
      less : n - 0 ≡ n
      less = omega arith

      go : (b : Bool) → eqb (due_from schema first n 1 0) 0 ≡ b → eqb (end_from schema first (suc n) 1 0) n ≡ (leb 1 n && b && eqb (end_from schema first (n - 0) 1 0) n)
      go true e =
          let d = eqb-true (due_from schema first n 1 0) 0 e in
          ap (λ k. eqb k n) (end_stays schema first n 1 0 d ∙ ap (λ m. end_from schema first m 1 0) (sym less))
          ∙ sym (ap (λ b. b && true && eqb (end_from schema first (n - 0) 1 0) n) (some_due schema first n d))
      go false e =
          let d = end_grows schema first n 1 0 (eqb-false (due_from schema first n 1 0) 0 e) in
          ap (λ k. eqb k n) d ∙ ne_eqb (suc (0 + n)) n (λ q. omega (arith, q)) ∙ sym (ap (λ b. b && eqb (end_from schema first (n - 0) 1 0) n) (and-false (leb 1 n)))
