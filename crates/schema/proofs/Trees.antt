-- Whole trees: each node's subtree is complete and ends inside, and the subtrees below a node stand one behind the other. Assumes nothing.
use mathlib.Core.Path.{◌≡◌, refl, ap, sym, ◌∙◌}
use mathlib.Core.Bool.{true, ◌&&◌, and-eq-true_iff}
use mathlib.Core.List.{List}
use Prim.Native.Nat.{ℕ, zero, suc, ◌+◌, ◌-◌, ◌≤◌, ◌<◌}
use native.Mathlib.Omega.{arith}
use native.Mathlib.Numerals.{add-one}
use lib.Dec.{leb, eqb}
use borrow.Author.Tests.{eqb-true}
use Rattle.schema.specs.Tree.{below, end_from, end_of, child_at, whole}
use Rattle.schema.proofs.Due.{due_from, whole_is}
use Rattle.schema.proofs.Laws.{end_step, end_none, due_step}

-- ---- p subtrees, and q behind them

module _ (schema : List ℕ) (first : ℕ) where
  pub end_up : (f p i : ℕ) → i ≤ end_from schema first f p i
  unfolding end_from
  end_up zero p i = omega arith
  end_up (suc f) zero i = omega arith
  end_up (suc f) (suc p) i =
      let h : suc i ≤ end_from schema first f (p + below schema first i) (suc i) = end_up f (p + below schema first i) (suc i) in
      omega arith

  pub end_fit : (f p i : ℕ) → end_from schema first f p i ≤ i + f
  unfolding end_from
  end_fit zero p i = omega arith
  end_fit (suc f) zero i = omega arith
  end_fit (suc f) (suc p) i =
      let h : end_from schema first f (p + below schema first i) (suc i) ≤ suc i + f = end_fit f (p + below schema first i) (suc i) in
      omega arith

  end_zero : (f i : ℕ) → end_from schema first f 0 i ≡ i
  unfolding end_from
  end_zero zero i = refl
  end_zero (suc f) i = refl

  pub end_split : (f p q i : ℕ) → end_from schema first f (p + q) i ≡ end_from schema first (f - (end_from schema first f p i - i)) q (end_from schema first f p i)
  unfolding end_from
  end_split zero p q i = let e : zero ≡ zero - (i - i) = omega arith in ap (λ x. end_from schema first x q i) e
  end_split (suc f) zero q i =
      let z : zero + q ≡ q = omega arith in
      let e : suc f ≡ suc f - (i - i) = omega arith in
      ap (λ x. end_from schema first (suc f) x i) z ∙ ap (λ x. end_from schema first x q i) e
  end_split (suc f) (suc p) q i =
      let b = below schema first i in
      let s : suc p + q ≡ suc (p + q) = omega arith in
      let t : p + q + b ≡ p + b + q = omega arith in
      let e = end_from schema first f (p + b) (suc i) in
      let u : f - (e - suc i) ≡ suc f - (e - i) = omega (arith, end_up f (p + b) (suc i), end_fit f (p + b) (suc i)) in
      ap (λ x. end_from schema first (suc f) x i) s
      ∙ ap (λ x. end_from schema first f x (suc i)) t
      ∙ end_split f (p + b) q (suc i)
      ∙ ap (λ x. end_from schema first x q e) u

  due_more : (f p q i : ℕ) → due_from schema first (suc f) (suc p + q) i ≡ due_from schema first f (p + below schema first i + q) (suc i)
  unfolding due_from
  due_more f p q i =
      let s : suc p + q ≡ suc (p + q) = omega arith in
      let t : p + q + below schema first i ≡ p + below schema first i + q = omega arith in
      ap (λ x. due_from schema first (suc f) x i) s ∙ ap (λ x. due_from schema first f x (suc i)) t

  due_less : (f p q i : ℕ) → due_from schema first f (p + q) i ≡ 0 → due_from schema first f p i ≡ 0
  unfolding due_from
  due_less zero p q i h = omega arith
  due_less (suc f) zero q i h = refl
  due_less (suc f) (suc p) q i h = due_less f (p + below schema first i) q (suc i) (sym (due_more f p q i) ∙ h)

  -- where all are complete and some stand behind the first p, these end before the last node
  end_before : (f p q i : ℕ) → due_from schema first f (p + q) i ≡ 0 → 0 < q → end_from schema first f p i < i + f
  unfolding end_from due_from
  end_before zero p q i h l = absurd (omega arith)
  end_before (suc f) zero q i h l = omega arith
  end_before (suc f) (suc p) q i h l =
      let r : end_from schema first f (p + below schema first i) (suc i) < suc i + f = end_before f (p + below schema first i) q (suc i) (sym (due_more f p q i) ∙ h) l in
      omega arith

-- ---- a tree of n nodes

module _ (schema : List ℕ) (first n : ℕ) where
  pub end_inside : (i : ℕ) → i ≤ n → end_of schema first n i ≤ n
  unfolding end_of
  end_inside i l = omega (arith, end_fit schema first (n - i) 1 i)

  -- a node's subtree begins with it, and then come those below it
  pub end_one : (i : ℕ) → i < n → end_of schema first n i ≡ end_from schema first (n - suc i) (below schema first i) (suc i)
  unfolding end_of
  end_one i l =
      let z : 1 - 1 + below schema first i ≡ below schema first i = omega arith in
      end_step schema first n 1 i l (λ e. omega arith)
      ∙ ap (λ x. end_from schema first (n - (i + 1)) x (i + 1)) z
      ∙ ap (λ x. end_from schema first (n - x) (below schema first i) x) (add-one i)

  due_one : (i : ℕ) → i < n → due_from schema first (n - i) 1 i ≡ due_from schema first (n - suc i) (below schema first i) (suc i)
  due_one i l =
      let z : 1 - 1 + below schema first i ≡ below schema first i = omega arith in
      due_step schema first n 1 i l (λ e. omega arith)
      ∙ ap (λ x. due_from schema first (n - (i + 1)) x (i + 1)) z
      ∙ ap (λ x. due_from schema first (n - x) (below schema first i) x) (add-one i)

  pub end_after : (i : ℕ) → i < n → i < end_of schema first n i
  end_after i l = omega (arith, end_one i l, end_up schema first (n - suc i) (below schema first i) (suc i))

  pub split : (k p q : ℕ) → k ≤ n → end_from schema first (n - k) (p + q) k ≡ end_from schema first (n - end_from schema first (n - k) p k) q (end_from schema first (n - k) p k)
  split k p q l =
      let e = end_from schema first (n - k) p k in
      let u : n - k - (e - k) ≡ n - e = omega (arith, end_up schema first (n - k) p k, end_fit schema first (n - k) p k) in
      end_split schema first (n - k) p q k ∙ ap (λ x. end_from schema first x q e) u

  pub child_is : (i : ℕ) → i < n → (c : ℕ) → child_at schema first n i c ≡ end_from schema first (n - suc i) c (suc i)
  unfolding child_at end_of
  child_is i l zero = sym (end_zero schema first (n - suc i) (suc i))
  child_is i l (suc c) =
      ap (λ x. end_from schema first (n - x) 1 x) (child_is i l c)
      ∙ sym (split (suc i) c 1 (omega arith))
      ∙ ap (λ x. end_from schema first (n - suc i) x (suc i)) (add-one c)

  -- the last subtree below a node ends where the node's ends
  pub children_end : (i : ℕ) → i < n → child_at schema first n i (below schema first i) ≡ end_of schema first n i
  children_end i l = child_is i l (below schema first i) ∙ sym (end_one i l)

  -- ---- a whole tree

  -- some subtrees are due at node k, and the rest of the nodes are just these
  record Reached (k : ℕ) : Type 0 where
    pub left : ℕ
    pub due : due_from schema first (n - k) left k ≡ 0
    pub end : end_from schema first (n - k) left k ≡ n

  some_left : (k : ℕ) → k < n → (r : Reached k) → r.left ≡ 0 → ⊥
  some_left k l r z = omega (arith, end_none schema first n r.left k l z, r.end)

  module _ (w : whole schema first n ≡ true) where
    start : Reached 0
    unfolding end_of
    start =
        let h = (and-eq-true_iff (leb 1 n && eqb (due_from schema first n 1 0) 0) (eqb (end_of schema first n 0) n)).0 (sym (whole_is schema first n) ∙ w) in
        let d = (and-eq-true_iff (leb 1 n) (eqb (due_from schema first n 1 0) 0)).0 h.0 in
        let e : n - 0 ≡ n = omega arith in
        record { left = 1; due = ap (λ x. due_from schema first x 1 0) e ∙ eqb-true _ _ d.1; end = eqb-true _ _ h.1 }

    reached : (k : ℕ) → k ≤ n → Reached k
    reached zero l = start
    reached (suc k) l =
        let r = reached k (omega arith) in
        let z = some_left k (omega arith) r in
        let m = r.left - 1 + below schema first k in
        record {
          left = m;
          due = sym (ap (λ x. due_from schema first (n - x) m x) (add-one k)) ∙ sym (due_step schema first n r.left k (omega arith) z) ∙ r.due;
          end = sym (ap (λ x. end_from schema first (n - x) m x) (add-one k)) ∙ sym (end_step schema first n r.left k (omega arith) z) ∙ r.end;
        }

    -- each node's subtree is complete
    pub complete : (i : ℕ) → i < n → due_from schema first (n - i) 1 i ≡ 0
    complete i l =
        let r = reached i (omega arith) in
        let z = some_left i l r in
        let e : 1 + (r.left - 1) ≡ r.left = omega arith in
        due_less schema first (n - i) 1 (r.left - 1) i (ap (λ x. due_from schema first (n - i) x i) e ∙ r.due)

    -- each of the subtrees below a node begins inside
    pub child_inside : (i c : ℕ) → i < n → c < below schema first i → child_at schema first n i c < n
    child_inside i c l h =
        let e : c + (below schema first i - c) ≡ below schema first i = omega arith in
        let d = ap (λ x. due_from schema first (n - suc i) x (suc i)) e ∙ sym (due_one i l) ∙ complete i l in
        omega (arith, child_is i l c, end_before schema first (n - suc i) c (below schema first i - c) (suc i) d (omega arith))
