-- What is known where the answers are true. Assumes nothing.
use mathlib.Core.Path.{◌≡◌, refl, ap, ◌∙◌}
use mathlib.Core.Bool.{Bool, true, false, ◌&&◌, and-eq-true_iff}
use mathlib.Core.List.{List}
use Prim.Native.Nat.{ℕ, zero, suc, ◌≤◌, ◌<◌}
use native.Mathlib.Omega.{arith}
use lib.Dec.{leb, eqb}
use borrow.Author.Tests.{eqb-true, eqb-false, leb-true}
use Rattle.schema.specs.Tree.{depth, whole, few_fields, shape, ceilings, typed, same_node, same_type}
use Rattle.columnar.specs.Test.{every}

every_at_by : (p : ℕ → Bool) (n i : ℕ) (x : Bool) → eqb i n ≡ x → i < suc n → p n ≡ true → (i < n → p i ≡ true) → p i ≡ true
every_at_by p n i true e l h ih = ap p (eqb-true i n e) ∙ h
every_at_by p n i false e l h ih = let d = eqb-false i n e in ih (omega arith)

pub every_at : (p : ℕ → Bool) (n i : ℕ) → every p n ≡ true → i < n → p i ≡ true
every_at p zero i e l = absurd (omega arith)
every_at p (suc n) i e l =
    let h = (and-eq-true_iff (every p n) (p n)).0 e in
    every_at_by p n i (eqb i n) refl l h.1 (λ less. every_at p n i h.0 less)

module _ (formats schema : List ℕ) (first n : ℕ) where
  pub typed_whole : typed formats schema first n ≡ true → whole schema first n ≡ true
  unfolding typed
  typed_whole t = ((and-eq-true_iff (whole schema first n) (every (shape formats schema first) n)).0 t).0

  pub typed_shape : typed formats schema first n ≡ true → (i : ℕ) → i < n → shape formats schema first i ≡ true
  unfolding typed
  typed_shape t i l = every_at (shape formats schema first) n i ((and-eq-true_iff (whole schema first n) (every (shape formats schema first) n)).0 t).1 l

  module _ (c : ceilings formats schema first n ≡ true) where
    parts : (n ≤ 32) × ((i : ℕ) → i < n → few_fields formats schema first i && leb (depth schema first n i) 8 ≡ true)
    unfolding ceilings
    parts =
        let p : ℕ → Bool = λ i. few_fields formats schema first i && leb (depth schema first n i) 8 in
        let h = (and-eq-true_iff (leb n 32) (every p n)).0 c in
        (leb-true n 32 h.0, λ i l. every_at p n i h.1 l)

    pub within_nodes : n ≤ 32
    within_nodes = parts.0

    pub within_fields : (i : ℕ) → i < n → few_fields formats schema first i ≡ true
    within_fields i l = ((and-eq-true_iff (few_fields formats schema first i) (leb (depth schema first n i) 8)).0 (parts.1 i l)).0

    pub within_depth : (i : ℕ) → i < n → depth schema first n i ≤ 8
    within_depth i l = leb-true (depth schema first n i) 8 ((and-eq-true_iff (few_fields formats schema first i) (leb (depth schema first n i) 8)).0 (parts.1 i l)).1

module _ (formats schema : List ℕ) (first n first' n' : ℕ) (s : same_type formats schema first n first' n' ≡ true) where
  pub same_size : n ≡ n'
  unfolding same_type
  same_size = eqb-true n n' ((and-eq-true_iff (eqb n n') (every (same_node formats schema first first') n)).0 s).0

  pub same_node_lem : (i : ℕ) → i < n → same_node formats schema first first' i ≡ true
  unfolding same_type
  same_node_lem i l = every_at (same_node formats schema first first') n i ((and-eq-true_iff (eqb n n') (every (same_node formats schema first first') n)).0 s).1 l
