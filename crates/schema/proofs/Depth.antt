-- Subtrees are nested, and what stands below a node is one deeper than the node. Assumes nothing.
use mathlib.Core.Path.{◌≡◌, refl, ap, sym, ◌∙◌}
use mathlib.Core.Bool.{Bool, true, false}
use mathlib.Core.List.{List}
use Prim.Native.Nat.{ℕ, zero, suc, ◌+◌, ◌-◌, ◌≤◌, ◌<◌}
use native.Mathlib.Omega.{arith}
use lib.Dec.{ltb, eqb}
use borrow.Author.Tests.{eqb-true, eqb-false, ltb-true, ltb-false, lt-ltb, le-ltb}
use Rattle.schema.specs.Tree.{below, end_from, end_of, child_at, depth, whole}
use Rattle.schema.proofs.Laws.{end_step}
use Rattle.schema.proofs.Trees.{end_up, end_split, end_one, split, child_is, child_inside}
use Rattle.schema.proofs.Counts.{count}

-- ---- counting

count_same : (p q : ℕ → Bool) (n : ℕ) → ((j : ℕ) → j < n → p j ≡ q j) → count p n ≡ count q n
count_same p q zero h = refl
count_same p q (suc n) h = rw (count_same p q n (λ j l. h j (omega arith)), h n (omega arith))

count_out : (p : ℕ → Bool) (k : ℕ) → p k ≡ false → count p (suc k) ≡ count p k
count_out p k h = rw h (omega arith)

count_in_lem : (p : ℕ → Bool) (k : ℕ) → p k ≡ true → count p (suc k) ≡ count p k + 1
count_in_lem p k h = rw h

count_flat : (p : ℕ → Bool) (m d : ℕ) → ((j : ℕ) → m ≤ j → j < m + d → p j ≡ false) → count p (m + d) ≡ count p m
count_flat p m zero h = let e : m + zero ≡ m = omega arith in ap (count p) e
count_flat p m (suc d) h =
    let e : m + suc d ≡ suc (m + d) = omega arith in
    ap (count p) e ∙ count_out p (m + d) (h (m + d) (omega arith) (omega arith)) ∙ count_flat p m d (λ j a b. h j a (omega arith))

-- ---- nesting

module _ (schema : List ℕ) (first : ℕ) where
  end_next : (f p k : ℕ) → end_from schema first (suc f) (suc p) k ≡ end_from schema first f (p + below schema first k) (suc k)
  unfolding end_from
  end_next f p k = refl

  nested_step : (f p k i : ℕ) (x : Bool) → eqb k i ≡ x → k ≤ i
      → (suc k ≤ i → end_from schema first (f - (i - suc k)) 1 i ≤ end_from schema first f (p + below schema first k) (suc k))
      → end_from schema first (suc f - (i - k)) 1 i ≤ end_from schema first (suc f) (suc p) k
  nested_step f p k i true e l ih =
      let a = end_from schema first (suc f) 1 k in
      let q : i ≡ k = sym (eqb-true k i e) in
      let s : 1 + p ≡ suc p = omega arith in
      let u : suc f - (k - k) ≡ suc f = omega arith in
      let same : end_from schema first (suc f - (i - k)) 1 i ≡ a = ap (λ x. end_from schema first (suc f - (x - k)) 1 x) q ∙ ap (λ x. end_from schema first x 1 k) u in
      omega (arith, ap (λ x. end_from schema first (suc f) x k) s, end_split schema first (suc f) 1 p k, end_up schema first (suc f - (a - k)) p a)
  nested_step f p k i false e l ih =
      let d = eqb-false k i e in
      let u : f - (i - suc k) ≡ suc f - (i - k) = omega arith in
      omega (arith, ap (λ x. end_from schema first x 1 i) u, end_next f p k, ih (omega arith))

  nested_by : (f p k i : ℕ) → k ≤ i → i < end_from schema first f p k → end_from schema first (f - (i - k)) 1 i ≤ end_from schema first f p k
  unfolding end_from
  nested_by zero p k i l h = absurd (omega arith)
  nested_by (suc f) zero k i l h = absurd (omega arith)
  nested_by (suc f) (suc p) k i l h = nested_step f p k i (eqb k i) refl l (λ q. nested_by f (p + below schema first k) (suc k) i q h)

module _ (schema : List ℕ) (first n : ℕ) where
  -- a node in another's subtree: its own subtree ends inside
  pub nested : (i j : ℕ) → j ≤ i → i < end_of schema first n j → end_of schema first n i ≤ end_of schema first n j
  unfolding end_of
  nested i j l h =
      let u : n - j - (i - j) ≡ n - i = omega arith in
      omega (arith, ap (λ x. end_from schema first x 1 i) u, nested_by schema first (n - j) 1 j i l h)

  -- the subtrees of the nodes that stand before the next child end before it
  earlier : (i c j : ℕ) → i < n → suc i ≤ j → j < child_at schema first n i c → end_of schema first n j ≤ child_at schema first n i c
  unfolding end_of
  earlier i c j l a h =
      let e = child_is schema first n i l c in
      let u : n - suc i - (j - suc i) ≡ n - j = omega arith in
      omega (arith, ap (λ x. end_from schema first x 1 j) u, nested_by schema first (n - suc i) c (suc i) j a (omega arith))

  end_more : (k q : ℕ) → k < n → (q ≡ 0 → ⊥) → k < end_from schema first (n - k) q k
  end_more k q l z = omega (arith, end_step schema first n q k l z, end_up schema first (n - (k + 1)) (q - 1 + below schema first k) (k + 1))

  same_at_lem : (i m j : ℕ) (x : Bool) → ltb i (end_of schema first n j) ≡ x → j < i → i < m → m < end_of schema first n i → ltb m (end_of schema first n j) ≡ x
  same_at_lem i m j true e a b h = lt-ltb m (end_of schema first n j) (omega (arith, nested i j (omega arith) (ltb-true i (end_of schema first n j) e)))
  same_at_lem i m j false e a b h = le-ltb m (end_of schema first n j) (omega (arith, ltb-false i (end_of schema first n j) e))

  module _ (w : whole schema first n ≡ true) where
    pub child_before : (i c : ℕ) → i < n → c < below schema first i → child_at schema first n i c < end_of schema first n i
    child_before i c l h =
        let e = end_from schema first (n - suc i) c (suc i) in
        let at : child_at schema first n i c ≡ e = child_is schema first n i l c in
        let inside = child_inside schema first n w i c l h in
        let q = below schema first i - c in
        let t : c + q ≡ below schema first i = omega arith in
        omega (arith, end_one schema first n i l, ap (λ x. end_from schema first (n - suc i) x (suc i)) t, split schema first n (suc i) c q (omega arith), end_more e q (omega arith) (λ z. omega arith))

    -- each subtree below a node begins one deeper
    pub child_depth : (i c : ℕ) → i < n → c < below schema first i → depth schema first n (child_at schema first n i c) ≡ suc (depth schema first n i)
    unfolding depth
    child_depth i c l h =
        let m = child_at schema first n i c in
        let p : ℕ → Bool = λ j. ltb m (end_of schema first n j) in
        let up : suc i ≤ m = omega (arith, child_is schema first n i l c, end_up schema first (n - suc i) c (suc i)) in
        let before = child_before i c l h in
        let e : m ≡ suc i + (m - suc i) = omega arith in
        let flat = count_flat p (suc i) (m - suc i) (λ j a b. le-ltb m (end_of schema first n j) (earlier i c j l a (omega arith))) in
        let same = count_same p (λ j. ltb i (end_of schema first n j)) i (λ j a. same_at_lem i m j (ltb i (end_of schema first n j)) refl a up before) in
        omega (arith, ap (count p) e, flat, count_in_lem p i (lt-ltb m (end_of schema first n i) before), same)
