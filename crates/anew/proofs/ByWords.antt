-- A plan by the words of its nodes: its parts are those that the words say, and the plan of a result is the one by its words. Assumes nothing.
use mathlib.Core.Path.{◌≡◌, refl, sym, ap, ap₂, ◌∙◌}
use mathlib.Core.Bool.{Bool, true, false, not, cond, ◌&&◌, ◌||◌}
use mathlib.Core.List.{List}
use Prim.Native.Nat.{ℕ, zero, suc, ◌+◌, ◌*◌, ◌-◌, ◌/◌, ◌%◌, ◌≤◌, ◌<◌, min}
use native.Mathlib.Omega.{arith}
use lib.ListN.{length, get_or, set, replicate, length-set, get_or-replicate}
use lib.Seq.{get_or-set_same, get_or-set_other, ext_get_or}
use lib.Dec.{leb, ltb, eqb}
use borrow.Author.Tests.{eqb-true, eqb-false, ltb-true, ltb-false}
use Rattle.columnar.specs.Test.{every, only_if}
use Rattle.model.proofs.Bits.{length_seg}
use Rattle.array_data.specs.node_words.Words.{word_of, planted}
use Rattle.walk.specs.State.{word, code_of, keeps_of, rows, bytes}
use Rattle.plan.specs.Plan.{filled, flag, with_tree, with_counts, with_parts, with_total}
use Rattle.plan.specs.parts.Parts.{nodes_of, buffer_count, copied, validity_parts, buffer_parts, has_part, parts_before, part_total, part_word, needed_by, size_at, size_of, part_holds, parts_hold}
use Rattle.plan.proofs.Words.{filled_length, filled_other, filled_at}
use Rattle.anew.specs.ResultPlan.{with_nulls, dictionary_word, with_dictionaries, kept_word, typed_anew, plan_anew, words_anew, plan_by}
use Rattle.anew.proofs.PlanWords.{plan_length, source_is, nodes_are, parts_are, kept_is, none_else}

-- ---- two lists with the same words of 32 nodes

abbrev pub Same : List ℕ → List ℕ → Type 0
Same s t = (q : ℕ) → q < 256 → get_or s q 0 ≡ get_or t q 0

every_same : (p q : ℕ → Bool) (n : ℕ) → ((j : ℕ) → j < n → p j ≡ q j) → every p n ≡ every q n
every_same p q zero h = refl
every_same p q (suc n) h = ap₂ ◌&&◌ (every_same p q n (λ j l. h j (omega arith))) (h n (omega arith))

module _ (s t : List ℕ) (same : Same s t) where
  pub same_word : (i j : ℕ) → i < 32 → j < 8 → word s i j ≡ word t i j
  same_word i j l h = same (8 * i + j) (omega arith)

  same_copied : (i : ℕ) → i < 32 → copied s i ≡ copied t i
  unfolding copied
  same_copied zero l = refl
  same_copied (suc i) l = ap₂ (λ (x y : ℕ). eqb x 0 || eqb y 1) (same_word i 1 (omega arith) (omega arith)) (same_word i 7 (omega arith) (omega arith))

  same_validity : (i : ℕ) → i < 32 → validity_parts s i ≡ validity_parts t i
  unfolding validity_parts
  same_validity i l =
      ap₂ (λ (x : Bool) (y : ℕ). cond (x && not (eqb (keeps_of s i) 0) && ltb (y % 256) 21) 1 0) (same_copied i l) (same_word i 0 l (omega arith))
      ∙ ap (λ (x : ℕ). cond (copied t i && not (eqb x 0) && ltb (code_of t i) 21) 1 0) (same_word i 5 l (omega arith))

  same_buffers : (i : ℕ) → i < 32 → buffer_parts s i ≡ buffer_parts t i
  unfolding buffer_parts
  same_buffers i l = ap₂ (λ (x : Bool) (y : ℕ). cond x (buffer_count (y % 256)) 0) (same_copied i l) (same_word i 0 l (omega arith))

  pub same_before : (i : ℕ) → i ≤ 32 → parts_before s i ≡ parts_before t i
  unfolding parts_before
  same_before zero l = refl
  same_before (suc i) l =
      let h = same_before i (omega arith) in
      let v = same_validity i (omega arith) in
      let b = same_buffers i (omega arith) in
      omega (arith, h, v, b)

  same_part : (i : ℕ) → i < 32 → part_word s i ≡ part_word t i
  same_part i l = ap₂ (λ (x y : ℕ). x + y) (same_before i (omega arith)) (same_validity i l)

  same_has : (i b : ℕ) → i < 32 → has_part s i b ≡ has_part t i b
  unfolding has_part
  same_has i zero l = ap (λ (x : ℕ). eqb x 1) (same_validity i l)
  same_has i (suc b) l = ap (ltb b) (same_buffers i l)

  module _ (counters parts : List ℕ) where
    same_holds : (i b : ℕ) → i < 32 → part_holds s counters parts i b ≡ part_holds t counters parts i b
    unfolding part_holds
    same_holds i b l =
        ap₂ (λ (x : Bool) (y : ℕ). only_if x (leb (needed_by (code_of s i) (rows counters i) (bytes counters i) b) (size_at parts (y % 4294967296 + b - 1)))) (same_has i b l) (same_word i 6 l (omega arith))
        ∙ ap (λ (x : ℕ). only_if (has_part t i b) (leb (needed_by (x % 256) (rows counters i) (bytes counters i) b) (size_of t parts i b))) (same_word i 0 l (omega arith))

    pub same_hold : (n : ℕ) → n ≤ 32 → every (λ i. every (λ b. part_holds s counters parts i b) 3) n ≡ every (λ i. every (λ b. part_holds t counters parts i b) 3) n
    same_hold n l = every_same _ _ n (λ i h. every_same _ _ 3 (λ b k. same_holds i b (omega arith)))

-- ---- writes that keep them the same

same_far : (s t : List ℕ) (k v : ℕ) → 256 ≤ k → Same s t → Same s (set t k v)
same_far s t k v h same q l = same q l ∙ sym (get_or-set_other t k q v 0 (λ e. omega arith))

same_set : (s t : List ℕ) (k : ℕ) {u v : ℕ} → k < 256 → 256 ≤ length s → 256 ≤ length t → u ≡ v → Same s t → Same (set s k u) (set t k v)
same_set s t k {u} {v} h a b e same q l = go (eqb q k) refl
  where
    go : (d : Bool) → eqb q k ≡ d → get_or (set s k u) q 0 ≡ get_or (set t k v) q 0
    go true p =
        ap (λ z. get_or (set s k u) z 0) (eqb-true q k p)
        ∙ get_or-set_same s k u 0 (omega arith)
        ∙ e
        ∙ sym (get_or-set_same t k v 0 (omega arith))
        ∙ ap (λ z. get_or (set t k v) z 0) (sym (eqb-true q k p))
    go false p = get_or-set_other s k q u 0 (eqb-false q k p) ∙ same q l ∙ sym (get_or-set_other t k q v 0 (eqb-false q k p))

same_filled : (at : ℕ → ℕ) (value : List ℕ → ℕ → ℕ) (n : ℕ) (s t : List ℕ) → ((k : ℕ) → k < n → at k < 256) → ((a b : List ℕ) (k : ℕ) → k < n → Same a b → value a k ≡ value b k)
    → 256 ≤ length s → 256 ≤ length t → Same s t → Same (filled at value n s) (filled at value n t)
unfolding filled
same_filled at value zero s t low by a b same = same
same_filled at value (suc n) s t low by a b same =
    let h = same_filled at value n s t (λ k l. low k (omega arith)) (λ c d k l. by c d k (omega arith)) a b same in
    same_set (filled at value n s) (filled at value n t) (at n) (low n (omega arith)) (omega (arith, filled_length at value n s)) (omega (arith, filled_length at value n t)) (by (filled at value n s) (filled at value n t) n (omega arith) h) h

-- ---- a plan by words

module _ (words : List ℕ) where
  pub tree_length : length (with_tree words) ≡ 872
  unfolding with_tree
  tree_length = filled_length (λ q. q) (λ s q. get_or words q 0) 256 (replicate 872 0)

  same_tree : Same words (with_tree words)
  unfolding with_tree
  same_tree q l = sym (filled_at (λ k. k) (λ s k. get_or words k 0) (λ a b e. e) 256 (replicate 872 0) q l (omega arith))

  tree_behind : (q : ℕ) → 256 ≤ q → q < 872 → get_or (with_tree words) q 0 ≡ 0
  unfolding with_tree
  tree_behind q l h = filled_other (λ k. k) (λ s k. get_or words k 0) 256 (replicate 872 0) q (λ j a e. omega arith) ∙ get_or-replicate 872 q 0 0 h

  module _ (n keptFrom : ℕ) where
    abbrev total : ℕ
    total = parts_before words n

    abbrev counted : List ℕ
    counted = set (set (with_tree words) 864 1) 865 n

    by_is : plan_by words n keptFrom ≡ set (set counted 866 total) kept_word keptFrom
    unfolding plan_by with_counts
    by_is = refl

    counted_length : length counted ≡ 872
    counted_length = length-set (set (with_tree words) 864 1) 865 n ∙ length-set (with_tree words) 864 1 ∙ tree_length

    pub by_length : length (plan_by words n keptFrom) ≡ 872
    by_length = ap length by_is ∙ length-set (set counted 866 total) kept_word keptFrom ∙ length-set counted 866 total ∙ counted_length

    -- ITS WORDS ARE THOSE
    pub by_same : Same words (plan_by words n keptFrom)
    by_same q l =
        same_far words (set counted 866 total) kept_word keptFrom (omega arith)
        (same_far words counted 866 total (omega arith) (same_far words (set (with_tree words) 864 1) 865 n (omega arith) (same_far words (with_tree words) 864 1 (omega arith) same_tree)))
        q l
        ∙ sym (ap (λ p. get_or p q 0) by_is)

    by_kept : get_or (plan_by words n keptFrom) kept_word 0 ≡ keptFrom
    by_kept = ap (λ p. get_or p kept_word 0) by_is ∙ get_or-set_same (set counted 866 total) kept_word keptFrom 0 (omega (arith, length-set counted 866 total, counted_length))

    by_total : get_or (plan_by words n keptFrom) 866 0 ≡ total
    by_total =
        ap (λ p. get_or p 866 0) by_is
        ∙ get_or-set_other (set counted 866 total) kept_word 866 keptFrom 0 (λ e. omega arith)
        ∙ get_or-set_same counted 866 total 0 (omega (arith, counted_length))

    by_counted : (q : ℕ) → (q ≡ 866 → ⊥) → (q ≡ kept_word → ⊥) → get_or (plan_by words n keptFrom) q 0 ≡ get_or counted q 0
    by_counted q h k =
        ap (λ p. get_or p q 0) by_is
        ∙ get_or-set_other (set counted 866 total) kept_word q keptFrom 0 k
        ∙ get_or-set_other counted 866 q total 0 h

    by_nodes : get_or (plan_by words n keptFrom) 865 0 ≡ n
    by_nodes =
        by_counted 865 (λ e. omega arith) (λ e. omega arith)
        ∙ get_or-set_same (set (with_tree words) 864 1) 865 n 0 (omega (arith, length-set (with_tree words) 864 1, tree_length))

    by_source : get_or (plan_by words n keptFrom) 864 0 ≡ 1
    by_source =
        by_counted 864 (λ e. omega arith) (λ e. omega arith)
        ∙ get_or-set_other (set (with_tree words) 864 1) 865 864 n 0 (λ e. omega arith)
        ∙ get_or-set_same (with_tree words) 864 1 0 (omega (arith, tree_length))

    by_none : (q : ℕ) → 256 ≤ q → q < 872 → (q ≡ 864 → ⊥) → (q ≡ 865 → ⊥) → (q ≡ 866 → ⊥) → (q ≡ kept_word → ⊥) → get_or (plan_by words n keptFrom) q 0 ≡ 0
    by_none q l h a b c d =
        by_counted q c d
        ∙ get_or-set_other (set (with_tree words) 864 1) 865 q n 0 b
        ∙ get_or-set_other (with_tree words) 864 q 1 0 a
        ∙ tree_behind q l h

    -- ---- so its parts are those of the words

    module _ (small : n ≤ 32) where
      by_few : nodes_of (plan_by words n keptFrom) ≡ n
      by_few = omega (arith, by_nodes)

      pub parts_by : part_total (plan_by words n keptFrom) ≡ parts_before words n
      parts_by = ap (parts_before (plan_by words n keptFrom)) by_few ∙ sym (same_before words (plan_by words n keptFrom) by_same n small)

      pub hold_by : (counters parts : List ℕ) → parts_hold (plan_by words n keptFrom) counters parts ≡ every (λ i. every (λ b. part_holds words counters parts i b) 3) n
      unfolding parts_hold
      hold_by counters parts =
          ap (every (λ i. every (λ b. part_holds (plan_by words n keptFrom) counters parts i b) 3)) by_few
          ∙ sym (same_hold words (plan_by words n keptFrom) by_same counters parts n small)

-- ---- the plan of a result

module _ (formats schema : List ℕ) (target n : ℕ) (keep : ℕ → Bool) (joined : Bool) (keptFrom : ℕ) (small : n ≤ 32) where
  abbrev plan : List ℕ
  plan = plan_anew formats schema target n keep joined keptFrom

  abbrev words : List ℕ
  words = words_anew formats schema target n keep joined

  abbrev tree : List ℕ
  tree = planted formats schema target n

  -- the stages
  abbrev nulled : List ℕ → List ℕ
  nulled s = filled (λ i. 8 * i + 5) (λ l i. flag (keep i)) n s

  abbrev worded : List ℕ → List ℕ
  worded s = filled (λ i. 8 * i + 7) (dictionary_word joined) n (nulled s)

  abbrev bare : List ℕ
  bare = set (set (with_tree tree) 864 1) 865 n

  words_are : words ≡ filled (λ i. 8 * i + 6) part_word n (worded tree)
  unfolding words_anew with_parts with_dictionaries with_nulls
  words_are = refl

  plan_is : plan ≡ with_total (filled (λ i. 8 * i + 6) part_word n (set (worded bare) kept_word keptFrom))
  unfolding plan_anew typed_anew with_parts with_dictionaries with_nulls with_counts
  plan_is = refl

  tree_256 : length tree ≡ 256
  unfolding planted
  tree_256 = length_seg (λ q. word_of formats schema target n (q / 8) (q % 8)) 0 256

  worded_length : (s : List ℕ) → length (worded s) ≡ length s
  worded_length s = filled_length (λ i. 8 * i + 7) (dictionary_word joined) n (nulled s) ∙ filled_length (λ i. 8 * i + 5) (λ l i. flag (keep i)) n s

  pub words_length : length words ≡ 256
  words_length = ap length words_are ∙ filled_length (λ i. 8 * i + 6) part_word n (worded tree) ∙ worded_length tree ∙ tree_256

  bare_length : length bare ≡ 872
  bare_length = length-set (set (with_tree tree) 864 1) 865 n ∙ length-set (with_tree tree) 864 1 ∙ tree_length tree

  dictionary_same : (s t : List ℕ) (i : ℕ) → word s i 1 ≡ word t i 1 → dictionary_word joined s i ≡ dictionary_word joined t i
  unfolding dictionary_word
  dictionary_same s t i e = ap (λ d. cond (eqb d 0) 0 (flag joined)) e

  same_worded : Same (worded tree) (worded bare)
  same_worded =
      same_filled (λ i. 8 * i + 7) (dictionary_word joined) n (nulled tree) (nulled bare) (λ k l. omega arith) (λ a b k l e. dictionary_same a b k (same_word a b e k 1 (omega arith) (omega arith)))
      (omega (arith, filled_length (λ i. 8 * i + 5) (λ l i. flag (keep i)) n tree, tree_256)) (omega (arith, filled_length (λ i. 8 * i + 5) (λ l i. flag (keep i)) n bare, bare_length))
      (same_filled (λ i. 8 * i + 5) (λ l i. flag (keep i)) n tree bare (λ k l. omega arith) (λ a b k l e. refl) (omega (arith, tree_256)) (omega (arith, bare_length))
      (same_far tree (set (with_tree tree) 864 1) 865 n (omega arith) (same_far tree (with_tree tree) 864 1 (omega arith) (same_tree tree))))

  same_named : Same words (filled (λ i. 8 * i + 6) part_word n (set (worded bare) kept_word keptFrom))
  same_named q l =
      ap (λ p. get_or p q 0) words_are
      ∙ same_filled (λ i. 8 * i + 6) part_word n (worded tree) (set (worded bare) kept_word keptFrom) (λ k h. omega arith) (λ a b k h e. same_part a b e k (omega arith))
      (omega (arith, worded_length tree, tree_256)) (omega (arith, length-set (worded bare) kept_word keptFrom, worded_length bare, bare_length))
      (same_far (worded tree) (worded bare) kept_word keptFrom (omega arith) same_worded) q l

  same_words : Same words plan
  unfolding with_total
  same_words q l =
      same_far words (filled (λ i. 8 * i + 6) part_word n (set (worded bare) kept_word keptFrom)) 866 _ (omega arith) same_named q l
      ∙ sym (ap (λ p. get_or p q 0) plan_is)

  total_is : parts_before words n ≡ get_or plan 866 0
  total_is =
      same_before words plan same_words n small
      ∙ ap (parts_before plan) (let e = nodes_are formats schema target n keep joined keptFrom small in omega (arith, e))
      ∙ sym (parts_are formats schema target n keep joined keptFrom small)

  behind : (q : ℕ) → 256 ≤ q → q < 872 → get_or (plan_by words n keptFrom) q 0 ≡ get_or plan q 0
  behind q l h = go (eqb q 864) refl (eqb q 865) refl (eqb q 866) refl (eqb q kept_word) refl
    where
      Is : ℕ → Type 0
      Is p = get_or (plan_by words n keptFrom) p 0 ≡ get_or plan p 0

      at : (p : ℕ) → eqb q p ≡ true → Is p → Is q
      at p e f = ap (λ z. get_or (plan_by words n keptFrom) z 0) (eqb-true q p e) ∙ f ∙ ap (λ z. get_or plan z 0) (sym (eqb-true q p e))

      go : (a : Bool) → eqb q 864 ≡ a → (b : Bool) → eqb q 865 ≡ b → (c : Bool) → eqb q 866 ≡ c → (d : Bool) → eqb q kept_word ≡ d → Is q
      go true e b f c g d k = at 864 e (by_source words n keptFrom ∙ sym (source_is formats schema target n keep joined keptFrom small))
      go false e true f c g d k = at 865 f (by_nodes words n keptFrom ∙ sym (nodes_are formats schema target n keep joined keptFrom small))
      go false e false f true g d k = at 866 g (by_total words n keptFrom ∙ total_is)
      go false e false f false g true k = at kept_word k (by_kept words n keptFrom ∙ sym (kept_is formats schema target n keep joined keptFrom small))
      go false e false f false g false k =
          by_none words n keptFrom q l h (eqb-false q 864 e) (eqb-false q 865 f) (eqb-false q 866 g) (eqb-false q kept_word k)
          ∙ sym (none_else formats schema target n keep joined keptFrom small q l h (eqb-false q 864 e) (eqb-false q 865 f) (eqb-false q 866 g) (eqb-false q kept_word k))

  -- THE PLAN OF A RESULT IS THE ONE BY ITS WORDS
  pub plan_by_words : plan_by words n keptFrom ≡ plan
  plan_by_words = ext_get_or 0 (plan_by words n keptFrom) plan (by_length words n keptFrom ∙ sym (plan_length formats schema target n keep joined keptFrom small)) (λ q l. go (ltb q 256) q l refl)
    where
      go : (b : Bool) (q : ℕ) → q < length (plan_by words n keptFrom) → ltb q 256 ≡ b → get_or (plan_by words n keptFrom) q 0 ≡ get_or plan q 0
      go true q l e = sym (by_same words n keptFrom q (ltb-true q 256 e)) ∙ same_words q (ltb-true q 256 e)
      go false q l e = behind q (ltb-false q 256 e) (omega (arith, by_length words n keptFrom))
