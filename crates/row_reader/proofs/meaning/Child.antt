-- The words of a planted tree, and that the child found by its id is the type tree's. Assumes nothing.
use mathlib.Core.Path.{◌≡◌, refl, ap, sym, subst, ◌∙◌}
use mathlib.Core.Bool.{Bool, true, false, cond}
use mathlib.Core.List.Memᴰ
use mathlib.Core.List.{List, [], ◌∷◌, Memᴰ}
use Prim.Native.Nat.{ℕ, zero, suc, ◌+◌, ◌*◌, ◌-◌, ◌/◌, ◌%◌, ◌≤◌, ◌<◌}
use native.Mathlib.Omega.{arith}
use lib.ListN.{length, get_or}
use lib.Dec.{ltb, eqb}
use borrow.Author.Tests.{lt-ltb, eq-eqb, ne_eqb, eqb-true, eqb-false, ltb-true, ltb-false}
use Rattle.std.specs.Prelude.{Some, None}
use Rattle.columnar.specs.Row.{seg}
use Rattle.schema.specs.Tree.{dictionary, below, end_of, child_at, whole, code_of, ids_of}
use Rattle.schema.proofs.Trees.{end_after, child_inside}
use Rattle.schema.proofs.Depth.{nested, child_before}
use Rattle.array_data.specs.Typed.{field_of}
use Rattle.array_data.specs.node_words.Words.{word, id_from, id_below, word_of, planted, id_under, child_id}
use Rattle.array_data.proofs.node_words.Laws.{zeroth, first_word, second_word, third_word, holds, holds_not}
use Rattle.row_reader.specs.Walk.{end_word, child_from, child_of}
use Rattle.array_data.proofs.Names.{ids_or}

-- ---- words

pub seg_at : {A : Type 0} (f : ℕ → A) (z : A) (a n k : ℕ) → k < n → get_or (seg f a n) k z ≡ f (a + k)
seg_at f z a zero k h = absurd (omega arith)
seg_at f z a (suc n) zero h = let e : a + zero ≡ a = omega arith in ap f (sym e)
seg_at f z a (suc n) (suc k) h = let e : suc a + k ≡ a + suc k = omega arith in seg_at f z (suc a) n k (omega arith) ∙ ap f e

module _ (formats schema : List ℕ) (first n : ℕ) where
  abbrev pub words : List ℕ
  words = planted formats schema first n

  pub word_is : (i j : ℕ) → i < 32 → j < 8 → word words i j ≡ word_of formats schema first n i j
  unfolding planted
  word_is i j h l =
      let a : (0 + (8 * i + j)) / 8 ≡ i = omega arith in
      let b : (0 + (8 * i + j)) % 8 ≡ j = omega arith in
      seg_at (λ q. word_of formats schema first n (q / 8) (q % 8)) 0 0 256 (8 * i + j) (omega arith) ∙ rw (a, b)

  module _ (few : n ≤ 32) (i : ℕ) (l : i < n) where
    pub word_code : word words i 0 ≡ code_of formats schema first i
    word_code = word_is i 0 (omega arith) (omega arith) ∙ zeroth formats schema first n i 0 l refl

    pub word_dictionary : word words i 1 ≡ dictionary schema first i
    word_dictionary = word_is i 1 (omega arith) (omega arith) ∙ first_word formats schema first n i 1 l refl

    pub word_end : word words i 2 ≡ end_of schema first n i
    word_end = word_is i 2 (omega arith) (omega arith) ∙ second_word formats schema first n i 2 l refl

    pub word_id : word words i 3 ≡ child_id formats schema first n i
    word_id = word_is i 3 (omega arith) (omega arith) ∙ third_word formats schema first n i 3 l refl

-- ---- the node that a child stands in

module _ (formats schema : List ℕ) (first n : ℕ) (w : whole schema first n ≡ true) (i : ℕ) (l : i < n) where
  abbrev at : ℕ → ℕ
  at k = child_at schema first n i k

  at_zero : at 0 ≡ suc i
  unfolding child_at
  at_zero = refl

  at_suc : (k : ℕ) → at (suc k) ≡ end_of schema first n (at k)
  unfolding child_at
  at_suc k = refl

  rises : (k : ℕ) → k < below schema first i → at k < at (suc k)
  rises k h = omega (arith, at_suc k, end_after schema first n (at k) (child_inside schema first n w i k l h))

  further : (k d : ℕ) → k + d ≤ below schema first i → at k ≤ at (k + d)
  further k zero h = let e : k + zero ≡ k = omega arith in omega (arith, ap at e)
  further k (suc d) h = let e : k + suc d ≡ suc (k + d) = omega arith in omega (arith, ap at e, further k d (omega arith), rises (k + d) (omega arith))

  -- the subtrees between a node and a child of it end before the child
  before : (k q : ℕ) → k ≤ below schema first i → suc i ≤ q → q < at k → end_of schema first n q ≤ at k
  before zero q b a h = absurd (omega (arith, at_zero))
  before (suc k) q b a h = go (ltb q (at k)) refl (before k q (omega arith) a)
    where
      go : (t : Bool) → ltb q (at k) ≡ t → (q < at k → end_of schema first n q ≤ at k) → end_of schema first n q ≤ at (suc k)
      go true e ih = omega (arith, ih (ltb-true q (at k) e), rises k (omega arith))
      go false e ih = omega (arith, at_suc k, nested schema first n q (at k) (ltb-false q (at k) e) (omega (arith, at_suc k)))

  back : (m d : ℕ) → ((q : ℕ) → suc i ≤ q → q < suc i + d → end_of schema first n q ≤ m) → id_below formats schema first n (suc i + d) m ≡ id_below formats schema first n (suc i) m
  back m zero h = let e : suc i + zero ≡ suc i = omega arith in ap (λ p. id_below formats schema first n p m) e
  back m (suc d) h =
      let e : suc i + suc d ≡ suc (suc i + d) = omega arith in
      ap (λ p. id_below formats schema first n p m) e ∙ holds_not formats schema first n m (suc i + d) (h (suc i + d) (omega arith) (omega arith)) ∙ back m d (λ q a b. h q a (omega arith))

  -- a child's id is the one that its union gives it
  child_under : (k : ℕ) → k < below schema first i → child_id formats schema first n (at k) ≡ id_under formats schema first n i (at k)
  child_under k h =
      let m = at k in
      let up : suc i ≤ m = omega (arith, at_zero, further 0 k (omega arith), ap at (let z : 0 + k ≡ k = omega arith in z)) in
      let e : m ≡ suc i + (m - suc i) = omega arith in
      ap (λ p. id_below formats schema first n p m) e
      ∙ back m (m - suc i) (λ q a b. before k q (omega arith) a (omega arith))
      ∙ holds formats schema first n m i (child_before schema first n w i k l h)

  id_from_lem : (ds : List ℕ) (j d : ℕ) → j + d < below schema first i → d < length ds → id_from schema first n ds (at j) (at (j + d)) ≡ get_or ds d 0
  unfolding id_from
  id_from_lem [] j d b h = absurd (omega arith)
  id_from_lem (c ∷ cs) j zero b h =
      let e : j + zero ≡ j = omega arith in
      rw (ap at e, eq-eqb (at j) (at j) refl)
  id_from_lem (c ∷ cs) j (suc d) b h =
      let e : suc j + d ≡ j + suc d = omega arith in
      let other : at j ≡ at (j + suc d) → ⊥ = λ q. omega (arith, rises j (omega arith), further (suc j) d (omega arith), ap at e) in
      rw (ne_eqb (at j) (at (j + suc d)) other) (subst (λ k. id_from schema first n cs (end_of schema first n (at j)) (at k) ≡ get_or cs d 0) e (subst (λ m. id_from schema first n cs m (at (suc j + d)) ≡ get_or cs d 0) (at_suc j) (id_from_lem cs (suc j) d (omega arith) (omega arith))))

  module _ (ids : List ℕ) (are : ids_or (ids_of formats schema first i) ≡ ids) (many : below schema first i ≡ length ids) where
    pub child_id_lem : (k : ℕ) → k < length ids → child_id formats schema first n (at k) ≡ get_or ids k 0
    child_id_lem k h =
        let z : 0 + k ≡ k = omega arith in
        child_under k (omega arith)
        ∙ ap (λ ds. id_from schema first n ds (suc i) (at k)) are
        ∙ subst (λ s. id_from schema first n ids s (at k) ≡ get_or ids k 0) at_zero (subst (λ m. id_from schema first n ids (at 0) (at m) ≡ get_or ids k 0) z (id_from_lem ids 0 k (omega arith) h))

    -- the search by id over the rest of the children
    module _ (few : n ≤ 32) where
      ends_behind : (k : ℕ) → k < length ids → at k < end_word (words formats schema first n) i
      unfolding end_word
      ends_behind k h =
          omega (arith, word_end formats schema first n few i l, child_before schema first n w i k l (omega arith), child_inside schema first n w i k l (omega arith))

      find : (ds : List ℕ) (c f j : ℕ) → Memᴰ c ds → length ds ≤ f → j + length ds ≤ length ids
          → ((k : ℕ) → k < length ds → child_id formats schema first n (at (j + k)) ≡ get_or ds k 0)
          → child_from (words formats schema first n) c (end_word (words formats schema first n) i) f (at j) ≡ Some (at (j + field_of ds c))
      unfolding child_from
      find [] c f j m a b h = absurd (Memᴰ.not-nil m)
      find (d ∷ ds) c zero j m a b h = absurd (omega arith)
      find (d ∷ ds) c (suc f) j m a b h = go (eqb c d) refl m (λ q. find ds c f (suc j) q (omega arith) (omega arith) later)
        where
          in_tree : at j < n
          in_tree = child_inside schema first n w i j l (omega arith)

          later : (k : ℕ) → k < length ds → child_id formats schema first n (at (suc j + k)) ≡ get_or ds k 0
          later k q = let e : j + suc k ≡ suc j + k = omega arith in subst (λ z. child_id formats schema first n (at z) ≡ get_or ds k 0) e (h (suc k) (omega arith))

          id_is : word (words formats schema first n) (at j) 3 ≡ d
          id_is = let e : j + 0 ≡ j = omega arith in word_id formats schema first n few (at j) in_tree ∙ subst (λ z. child_id formats schema first n (at z) ≡ d) e (h 0 (omega arith))

          next_is : word (words formats schema first n) (at j) 2 ≡ at (suc j)
          next_is = word_end formats schema first n few (at j) in_tree ∙ sym (at_suc j)

          Goal : ℕ → Type 0
          Goal k =
              cond (ltb (at j) (end_word (words formats schema first n) i))
              (cond (eqb (word (words formats schema first n) (at j) 3) c) (Some (at j))
              (child_from (words formats schema first n) c (end_word (words formats schema first n) i) f (word (words formats schema first n) (at j) 2)))
              None
              ≡ Some (at (j + k))

          go : (t : Bool) → eqb c d ≡ t → Memᴰ c (d ∷ ds)
              → (Memᴰ c ds → child_from (words formats schema first n) c (end_word (words formats schema first n) i) f (at (suc j)) ≡ Some (at (suc j + field_of ds c)))
              → Goal (cond t 0 (suc (field_of ds c)))
          go true e q ih =
              let z : j + 0 ≡ j = omega arith in
              rw (lt-ltb (at j) (end_word (words formats schema first n) i) (ends_behind j (omega arith)), id_is, eq-eqb d c (sym (eqb-true c d e)), z)
          go false e (Memᴰ.head p) ih = absurd (eqb-false c d e p)
          go false e (Memᴰ.tail p) ih =
              let z : j + suc (field_of ds c) ≡ suc j + field_of ds c = omega arith in
              rw (lt-ltb (at j) (end_word (words formats schema first n) i) (ends_behind j (omega arith)), id_is, ne_eqb d c (λ s. eqb-false c d e (sym s)), next_is, z) (ih p)

      -- THE CHILD found by its id is the one that the type tree has
      pub found_child : (c : ℕ) → Memᴰ c ids → length ids ≤ 16 → child_of (words formats schema first n) i c ≡ Some (child_at schema first n i (field_of ids c))
      found_child c m a =
          let z : 0 + field_of ids c ≡ field_of ids c = omega arith in
          subst (λ s. child_from (words formats schema first n) c (end_word (words formats schema first n) i) 16 s ≡ Some (at (field_of ids c))) at_zero
          (subst (λ k. child_from (words formats schema first n) c (end_word (words formats schema first n) i) 16 (at 0) ≡ Some (at k)) z
          (find ids c 16 0 m a (omega arith) (λ k h. let y : 0 + k ≡ k = omega arith in subst (λ q. child_id formats schema first n (at q) ≡ get_or ids k 0) (sym y) (child_id_lem k h))))
