-- The children of a union node: where they begin, and that each has its id. Assumes nothing.
use mathlib.Core.Path.{◌≡◌, refl, ap, sym, subst, ◌∙◌}
use mathlib.Core.Bool.{Bool, true, false, cond}
use mathlib.Core.List.{List, [], ◌∷◌, Memᴰ}
use Prim.Native.Nat.{ℕ, zero, suc, ◌+◌, ◌≤◌, ◌<◌}
use native.Mathlib.Omega.{arith}
use lib.ListN.{length}
use lib.Dec.{ltb, eqb}
use borrow.Author.Tests.{eqb-true, eqb-false, eq-eqb, ne_eqb, ltb-true, ltb-false}
use Rattle.schema.specs.Tree.{below, end_of, child_at, whole, ids_of}
use Rattle.schema.proofs.Trees.{child_inside, end_after}
use Rattle.schema.proofs.Depth.{nested, child_before}
use Rattle.array_data.specs.Typed.{field_of}
use Rattle.array_data.proofs.type_tree.Ids.{cond_yes, cond_no, field_in_lem}
use Rattle.array_data.proofs.type_tree.Lent.{first_child}
use Rattle.array_data.specs.node_words.Words.{id_from, id_below, id_under, child_id}
use Rattle.array_data.proofs.node_words.Laws.{holds, holds_not}
use Rattle.array_data.proofs.Names.{ids_or}

-- a member behind the first
pub behind_first : (c d : ℕ) (ds : List ℕ) → eqb c d ≡ false → Memᴰ c (d ∷ ds) → Memᴰ c ds
behind_first c d ds e (Memᴰ.head h) = absurd (eqb-false c d e h)
behind_first c d ds e (Memᴰ.tail q) = q

module _ (schema : List ℕ) (first n : ℕ) (w : whole schema first n ≡ true) (i : ℕ) (l : i < n) where
  -- children stand one behind the other
  pub rise : (a b : ℕ) → b ≤ below schema first i → a < b → child_at schema first n i a < child_at schema first n i b
  unfolding child_at
  rise a zero h k = absurd (omega arith)
  rise a (suc b) h k = go (eqb a b) refl (λ q. rise a b (omega arith) q)
    where
      up : child_at schema first n i b < end_of schema first n (child_at schema first n i b)
      up = end_after schema first n (child_at schema first n i b) (child_inside schema first n w i b l (omega arith))

      go : (y : Bool) → eqb a b ≡ y → (a < b → child_at schema first n i a < child_at schema first n i b) → child_at schema first n i a < end_of schema first n (child_at schema first n i b)
      go true e ih = subst (λ z. child_at schema first n i z < end_of schema first n (child_at schema first n i b)) (sym (eqb-true a b e)) up
      go false e ih = let d = eqb-false a b e in omega (arith, ih (omega arith), up)

  -- the subtrees between a node and a child of it end before the child
  pub ended : (j p : ℕ) → j ≤ below schema first i → i < p → p < child_at schema first n i j → end_of schema first n p ≤ child_at schema first n i j
  unfolding child_at
  ended zero p h a b = absurd (omega arith)
  ended (suc j) p h a b = go (ltb p (child_at schema first n i j)) refl (λ q. ended j p (omega arith) a q)
    where
      go : (y : Bool) → ltb p (child_at schema first n i j) ≡ y → (p < child_at schema first n i j → end_of schema first n p ≤ child_at schema first n i j)
          → end_of schema first n p ≤ end_of schema first n (child_at schema first n i j)
      go true e ih =
          let up = end_after schema first n (child_at schema first n i j) (child_inside schema first n w i j l (omega arith)) in
          omega (arith, ih (ltb-true p (child_at schema first n i j) e))
      go false e ih = nested schema first n p (child_at schema first n i j) (ltb-false p (child_at schema first n i j) e) b

  -- the node that a child stands in
  module _ (formats : List ℕ) where
    stands : (m q : ℕ) → m < end_of schema first n i → ((p : ℕ) → i < p → p < m → end_of schema first n p ≤ m) → i < q → q ≤ m
        → id_below formats schema first n q m ≡ id_under formats schema first n i m
    stands m zero h f a b = absurd (omega arith)
    stands m (suc p) h f a b = go (eqb p i) refl (λ q. stands m p h f q (omega arith))
      where
        go : (y : Bool) → eqb p i ≡ y → (i < p → id_below formats schema first n p m ≡ id_under formats schema first n i m)
            → id_below formats schema first n (suc p) m ≡ id_under formats schema first n i m
        go true e ih =
            let z = eqb-true p i e in
            holds formats schema first n m p (subst (λ k. m < end_of schema first n k) (sym z) h) ∙ ap (λ k. id_under formats schema first n k m) z
        go false e ih =
            let d = eqb-false p i e in
            holds_not formats schema first n m p (f p (omega arith) (omega arith)) ∙ ih (omega arith)

    id_from_lem : (cs : List ℕ) (a : ℕ) → a + length cs ≤ below schema first i → (c : ℕ) → Memᴰ c cs
        → id_from schema first n cs (child_at schema first n i a) (child_at schema first n i (a + field_of cs c)) ≡ c
    unfolding id_from child_at
    id_from_lem (d ∷ ds) a h c q = go (eqb c d) refl (λ m. id_from_lem ds (suc a) (omega arith) c m)
      where
        go : (y : Bool) → eqb c d ≡ y → (Memᴰ c ds → id_from schema first n ds (child_at schema first n i (suc a)) (child_at schema first n i (suc a + field_of ds c)) ≡ c)
            → cond (eqb (child_at schema first n i a) (child_at schema first n i (a + cond y 0 (suc (field_of ds c))))) d (id_from schema first n ds (end_of schema first n (child_at schema first n i a)) (child_at schema first n i (a + cond y 0 (suc (field_of ds c))))) ≡ c
        go true e ih =
            let z : a ≡ a + 0 = omega arith in
            cond_yes (eqb (child_at schema first n i a) (child_at schema first n i (a + 0))) d _ (eq-eqb _ _ (ap (child_at schema first n i) z)) ∙ sym (eqb-true c d e)
        go false e ih =
            let m = behind_first c d ds e q in
            let k = field_of ds c in
            let s : suc a + k ≡ a + suc k = omega arith in
            let up = rise a (a + suc k) (omega (arith, field_in_lem ds c m)) (omega arith) in
            cond_no (eqb (child_at schema first n i a) (child_at schema first n i (a + suc k))) d _ (ne_eqb (child_at schema first n i a) (child_at schema first n i (a + suc k)) (λ y. omega arith))
            ∙ ap (λ z. id_from schema first n ds (child_at schema first n i (suc a)) (child_at schema first n i z)) (sym s)
            ∙ ih m
    id_from_lem [] a h c q = elim q [ ]

    -- A CHILD HAS ITS ID
    pub child_id_lem : (ids : List ℕ) → ids_or (ids_of formats schema first i) ≡ ids → below schema first i ≡ length ids → (c : ℕ) → Memᴰ c ids
        → child_id formats schema first n (child_at schema first n i (field_of ids c)) ≡ c
    child_id_lem ids e z c q =
        let j = field_of ids c in
        let m = child_at schema first n i j in
        let b : j < below schema first i = omega (arith, field_in_lem ids c q) in
        let o : 0 + j ≡ j = omega arith in
        let up : i < m = above j b in
        stands m m (child_before schema first n w i j l b) (λ p x y. ended j p (omega arith) x y) up (omega arith)
        ∙ ap (λ s. id_from schema first n s (suc i) m) e
        ∙ ap (λ s. id_from schema first n ids s m) (sym (first_child formats schema first n i))
        ∙ ap (λ k. id_from schema first n ids (child_at schema first n i 0) (child_at schema first n i k)) (sym o)
        ∙ id_from_lem ids 0 (omega arith) c q
      where
        above : (j : ℕ) → j < below schema first i → i < child_at schema first n i j
        above zero b = omega (arith, first_child formats schema first n i)
        above (suc j) b = omega (arith, first_child formats schema first n i, rise 0 (suc j) (omega arith) (omega arith))
