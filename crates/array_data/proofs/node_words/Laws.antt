-- The words of a type tree as they are found. Assumes nothing.
use mathlib.Core.Path.{◌≡◌, refl, ap, sym, ◌∙◌}
use mathlib.Core.Bool.{Bool, true, false}
use mathlib.Core.List.{List, [], ◌∷◌, ◌++◌}
use mathlib.Core.Option.{Option, none, some}
use Prim.Native.Nat.{ℕ, zero, suc, ◌+◌, ◌/◌, ◌%◌, ◌≤◌, ◌<◌}
use native.Mathlib.Omega.{arith}
use native.Mathlib.Numerals.{add-one}
use lib.ListN.{length, take, drop, get_or, set, replicate, drop_of_length-le, get_or-eq_default}
use lib.Seq.{drop-cons, take_at, take-suc-set, get_or-take, ext_get_or}
use lib.Dec.{ltb}
use borrow.Author.Tests.{lt-ltb, le-ltb, eq-eqb, ne_eqb, ltb-true, ltb-false}
use Rattle.columnar.specs.Row.{seg}
use Rattle.schema.specs.Tree.{field, flag, dictionary, end_of, code_of, ids_of}
use Rattle.schema.specs.union_ids.Ids.{ids_at, answer_of, written}
use Rattle.std.specs.Prelude.{Some, None}
use Rattle.std.specs.declared.option.Option as answer
use Rattle.std.proofs.lemmas.Option.{same_Some}
use Rattle.array_data.specs.node_words.Words.{id_from, id_below, word_of, planted, id_under, child_id}
use Rattle.array_data.proofs.Names.{ids_or, words_of}

-- ---- ids among children

module _ (schema : List ℕ) (first n : ℕ) (ids : List ℕ) where
  pub among_here : (c node i : ℕ) → c < length ids → node ≡ i → id_from schema first n (drop c ids) node i ≡ get_or ids c 0
  unfolding id_from
  among_here c node i l e = rw (drop-cons ids c 0 l, eq-eqb node i e)

  pub among_next : (c node i : ℕ) → c < length ids → (node ≡ i → ⊥)
      → id_from schema first n (drop c ids) node i ≡ id_from schema first n (drop (c + 1) ids) (end_of schema first n node) i
  unfolding id_from
  among_next c node i l e = rw (drop-cons ids c 0 l, ne_eqb node i e, add-one c)

  pub among_end : (c node i : ℕ) → length ids ≤ c → id_from schema first n (drop c ids) node i ≡ 0
  unfolding id_from
  among_end c node i l = rw (drop_of_length-le ids l)

-- ---- the ids of a node's format

module _ (formats schema : List ℕ) (first n p i at len : ℕ) (is_at : at ≡ field schema (first + p) 0) (is-len : len ≡ field schema (first + p) 1) where
  ids_are : ids_of formats schema first p ≡ ids_at formats at len
  unfolding ids_of
  ids_are = rw (is_at, is-len)

  no_id_by : (o : Option (List ℕ)) → answer_of o ≡ None → id_from schema first n (ids_or o) (suc p) i ≡ 0
  unfolding id_from
  no_id_by none e = refl
  no_id_by (some ids) e = absurd (cc)

  pub no_id : (r : answer.Option ℕ) → r ≡ answer_of (ids_at formats at len) → r ≡ None → id_under formats schema first n p i ≡ 0
  no_id r e b = rw ids_are (no_id_by (ids_at formats at len) (sym e ∙ b))

  front_by : (o : Option (List ℕ)) (k : ℕ) (s : List ℕ) → answer_of o ≡ Some k → take k (written o s) ≡ ids_or o
  front_by none k s e = absurd (cc)
  front_by (some ids) k s e = take_at ids (drop (length ids) s) k (same_Some _ _ e)

  pub under : (r : answer.Option ℕ) (k : ℕ) (s ids : List ℕ) → r ≡ answer_of (ids_at formats at len) → r ≡ Some k → ids ≡ written (ids_at formats at len) s
      → id_from schema first n (take k ids) (p + 1) i ≡ id_under formats schema first n p i
  under r k s ids e c w = rw (ids_are, w, front_by (ids_at formats at len) k s (sym e ∙ c), add-one p)

-- ---- the node that holds another

module _ (formats schema : List ℕ) (first n i : ℕ) where
  pub holds : (p : ℕ) → i < end_of schema first n p → id_below formats schema first n (suc p) i ≡ id_under formats schema first n p i
  unfolding id_below
  holds p l = rw (lt-ltb i (end_of schema first n p) l)

  pub holds_not : (p : ℕ) → end_of schema first n p ≤ i → id_below formats schema first n (suc p) i ≡ id_below formats schema first n p i
  unfolding id_below
  holds_not p l = rw (le-ltb i (end_of schema first n p) l)

  pub holds_none : (p : ℕ) → p ≡ 0 → id_below formats schema first n p i ≡ 0
  unfolding id_below
  holds_none p e = rw e

-- ---- the table

module _ (formats schema : List ℕ) (first n i j : ℕ) where
  pub no_node : n ≤ i → word_of formats schema first n i j ≡ 0
  unfolding word_of
  no_node l = rw (le-ltb i n l)

  pub node_word : i < n → word_of formats schema first n i j ≡ get_or (words_of formats schema first n i) j 0
  unfolding word_of
  node_word l = rw (lt-ltb i n l)

  module _ (l : i < n) where
    word_at : (k : ℕ) → j ≡ k → word_of formats schema first n i j ≡ get_or (words_of formats schema first n i) k 0
    word_at k e = node_word l ∙ ap (λ x. get_or (words_of formats schema first n i) x 0) e

    pub zeroth : j ≡ 0 → word_of formats schema first n i j ≡ code_of formats schema first i
    zeroth e = word_at 0 e

    pub first_word : j ≡ 1 → word_of formats schema first n i j ≡ dictionary schema first i
    first_word e = word_at 1 e

    pub second_word : j ≡ 2 → word_of formats schema first n i j ≡ end_of schema first n i
    second_word e = word_at 2 e

    pub third_word : j ≡ 3 → word_of formats schema first n i j ≡ child_id formats schema first n i
    third_word e = word_at 3 e

    pub fourth_word : j ≡ 4 → word_of formats schema first n i j ≡ flag schema first i
    fourth_word e = word_at 4 e

    pub other_word : (j ≡ 0 → ⊥) → (j ≡ 1 → ⊥) → (j ≡ 2 → ⊥) → (j ≡ 3 → ⊥) → (j ≡ 4 → ⊥) → word_of formats schema first n i j ≡ 0
    other_word a b c d e =
        let past : length (words_of formats schema first n i) ≤ j = omega arith in
        node_word l ∙ get_or-eq_default (words_of formats schema first n i) 0 past

pub seg_snoc : {A : Type 0} (f : ℕ → A) (a m : ℕ) → seg f a (suc m) ≡ seg f a m ++ f (a + m) ∷ []
seg_snoc f a zero = let e : a + zero ≡ a = omega arith in rw e
seg_snoc f a (suc m) =
    let e : suc a + m ≡ a + suc m = omega arith in
    ap (λ l. f a ∷ l) (seg_snoc f (suc a) m ∙ ap (λ x. seg f (suc a) m ++ f x ∷ []) e)

pub wrote : (f : ℕ → ℕ) (tree : List ℕ) (q v : ℕ) → q < length tree → take q tree ≡ seg f 0 q → v ≡ f q → take (q + 1) (set tree q v) ≡ seg f 0 (q + 1)
wrote f tree q v l e h =
    rw add-one (take-suc-set tree q v l ∙ (let z : 0 + q ≡ q = omega arith in rw (e, h, seg_snoc f 0 q, z)))

pub zeros_at_lem : (k x : ℕ) → ◌≡◌ {A = ℕ} (get_or (replicate k 0) x 0) 0
zeros_at_lem zero x = refl
zeros_at_lem (suc k) zero = refl
zeros_at_lem (suc k) (suc x) = zeros_at_lem k x

seg_at : (f : ℕ → ℕ) (a k p : ℕ) → p < k → get_or (seg f a k) p 0 ≡ f (a + p)
seg_at f a zero p h = absurd (omega arith)
seg_at f a (suc k) zero h = let e : a ≡ a + zero = omega arith in ap f e
seg_at f a (suc k) (suc p) h = let e : suc a + p ≡ a + suc p = omega arith in seg_at f (suc a) k p (omega arith) ∙ ap f e

seg_front : (f : ℕ → ℕ) (k p : ℕ) → p < k → get_or (seg f 0 k) p 0 ≡ f p
seg_front f k p h = let e : 0 + p ≡ p = omega arith in seg_at f 0 k p h ∙ ap f e

seg_length : (f : ℕ → ℕ) (a k : ℕ) → length (seg f a k) ≡ k
seg_length f a zero = refl
seg_length f a (suc k) = rw (seg_length f (suc a) k)

-- the words of the nodes, and zeros behind them
module _ (formats schema : List ℕ) (first n : ℕ) (tree : List ℕ) (q : ℕ) (h : take q tree ≡ seg (λ x. word_of formats schema first n (x / 8) (x % 8)) 0 q)
    (past : (x : ℕ) → q ≤ x → x < 256 → n ≤ x / 8) (z : (x : ℕ) → q ≤ x → get_or tree x 0 ≡ 0) where
  one_word : (x : ℕ) (b : Bool) → ltb x q ≡ b → x < 256 → get_or tree x 0 ≡ word_of formats schema first n (x / 8) (x % 8)
  one_word x true e l =
      sym (get_or-take q tree x 0 (ltb-true x q e))
      ∙ ap (λ t. get_or t x 0) h
      ∙ seg_front (λ y. word_of formats schema first n (y / 8) (y % 8)) q x (ltb-true x q e)
  one_word x false e l =
      z x (ltb-false x q e) ∙ sym (no_node formats schema first n (x / 8) (x % 8) (past x (ltb-false x q e) l))

  pub all_words : length tree ≡ 256 → tree ≡ planted formats schema first n
  unfolding planted
  all_words l =
      let f : ℕ → ℕ = λ x. word_of formats schema first n (x / 8) (x % 8) in
      ext_get_or 0 tree (seg f 0 256) (l ∙ sym (seg_length f 0 256))
      (λ x k. one_word x (ltb x q) refl (omega arith) ∙ sym (seg_front f 256 x (omega arith)))
