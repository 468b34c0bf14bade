-- Each word of a plan, by the plan itself. Assumes nothing.
use mathlib.Core.Path.{◌≡◌, refl, sym, ap, ap₂, ◌∙◌}
use mathlib.Core.Bool.{Bool, true, false, cond}
use mathlib.Core.List.{List}
use Prim.Native.Nat.{ℕ, zero, suc, ◌+◌, ◌*◌, ◌/◌, ◌%◌, ◌≤◌, ◌<◌}
use native.Mathlib.Omega.{arith}
use lib.ListN.{length, get_or, set, replicate, length-set, get_or-replicate}
use lib.Seq.{get_or-set_same, get_or-set_other}
use lib.Dec.{ltb, eqb}
use borrow.Author.Tests.{eqb-true, eqb-false}
use Rattle.columnar.specs.Row.{seg}
use Rattle.array_data.specs.Tables.{Tables}
use Rattle.array_data.specs.node_words.Words.{word_of, planted}
use Rattle.plan.specs.parts.Parts.{part_word, part_total, Numbered}
use Rattle.plan.proofs.parts.Words.{Alike, alike_word, alike_total, numbered}
use Rattle.walk.specs.State.{word, end_of, keeps_of, base_of}
use Rattle.plan.specs.Plan as settles
use Rattle.array_data.specs.Sources as Sources
use Rattle.plan.specs.Plan.{filled, with_tree, holder, parent_of, asked, is_ends, keep_word, with_keeps, joined_word, with_joined, base_word, with_bases, with_counts, with_parts, with_total, laid_out, planned}
use Rattle.array_data.specs.Sources.{source_count, first_of}

-- ---- what a run of writes leaves

module _ (at : ℕ → ℕ) (value : List ℕ → ℕ → ℕ) where
  pub filled_length : (k : ℕ) (plan : List ℕ) → length (filled at value k plan) ≡ length plan
  unfolding filled
  filled_length zero plan = refl
  filled_length (suc k) plan = length-set (filled at value k plan) (at k) _ ∙ filled_length k plan

  -- a word that is not written
  pub filled_other : (k : ℕ) (plan : List ℕ) (p : ℕ) → ((j : ℕ) → j < k → p ≡ at j → ⊥) → get_or (filled at value k plan) p 0 ≡ get_or plan p 0
  unfolding filled
  filled_other zero plan p h = refl
  filled_other (suc k) plan p h =
      get_or-set_other (filled at value k plan) (at k) p _ 0 (h k (omega arith)) ∙ filled_other k plan p (λ j l. h j (omega arith))

  module _ (one : (a b : ℕ) → at a ≡ at b → a ≡ b) where
    -- a word that is written, by the words before it
    pub filled_at : (k : ℕ) (plan : List ℕ) (j : ℕ) → j < k → at j < length plan → get_or (filled at value k plan) (at j) 0 ≡ value (filled at value j plan) j
    unfolding filled
    filled_at zero plan j l h = absurd (omega arith)
    filled_at (suc k) plan j l h = go (eqb j k) refl (λ b. filled_at k plan j b h)
      where
        go : (b : Bool) → eqb j k ≡ b → (j < k → get_or (filled at value k plan) (at j) 0 ≡ value (filled at value j plan) j)
            → get_or (set (filled at value k plan) (at k) (value (filled at value k plan) k)) (at j) 0 ≡ value (filled at value j plan) j
        go true e f =
            let q : j ≡ k = eqb-true j k e in
            let inside : at k < length (filled at value k plan) = omega (arith, ap at q, filled_length k plan) in
            ap (λ a. get_or (set (filled at value k plan) (at k) (value (filled at value k plan) k)) a 0) (ap at q)
            ∙ get_or-set_same (filled at value k plan) (at k) (value (filled at value k plan) k) 0 inside
            ∙ sym (ap (λ a. value (filled at value a plan) a) q)
        go false e f =
            get_or-set_other (filled at value k plan) (at k) (at j) _ 0 (λ q. eqb-false j k e (one j k q)) ∙ f (omega (arith, eqb-false j k e))

    -- a word that is written is left alone afterwards
    pub filled_kept : (k j : ℕ) (plan : List ℕ) → j < k → at j < length plan → get_or (filled at value k plan) (at j) 0 ≡ get_or (filled at value (suc j) plan) (at j) 0
    filled_kept k j plan l h = filled_at k plan j l h ∙ sym (filled_at (suc j) plan j (omega arith) h)

-- ---- what the words of a node go by

-- the states have the same words 0 to 5 at the nodes before node i
abbrev pub SameBefore : List ℕ → List ℕ → ℕ → Type 0
SameBefore s t i = (p j : ℕ) → p < i → j < 6 → word s p j ≡ word t p j

module _ (s t : List ℕ) where
  holder_same : (p i : ℕ) → SameBefore s t p → holder s p i ≡ holder t p i
  unfolding holder
  holder_same zero i h = refl
  holder_same (suc p) i h = rw (h p 2 (omega arith) (omega arith), holder_same p i (λ q j l m. h q j (omega arith) m))

pub cond_le : (b : Bool) (p q k : ℕ) → p ≤ k → q ≤ k → cond b p q ≤ k
cond_le true p q k h l = h
cond_le false p q k h l = l

pub holder_below : (plan : List ℕ) (p i : ℕ) → holder plan (suc p) i ≤ p
unfolding holder
holder_below plan zero i = cond_le (ltb i (end_of plan zero)) zero 0 zero (omega arith) (omega arith)
holder_below plan (suc p) i =
    let h = holder_below plan p i in
    cond_le (ltb i (end_of plan (suc p))) (suc p) (holder plan (suc p) i) (suc p) (omega arith) (omega arith)

module _ (x : Tables) (sources : List ℕ) (m : ℕ) (s t : List ℕ) where
  pub keep_same : (keep : Bool) (i : ℕ) → SameBefore s t i → keep_word x sources m keep s i ≡ keep_word x sources m keep t i
  unfolding keep_word asked is_ends
  keep_same keep zero h = refl
  keep_same keep (suc i) h =
      let p = holder_same s t (suc i) (suc i) h in
      let k : keeps_of s (parent_of t (suc i)) ≡ keeps_of t (parent_of t (suc i)) = h (parent_of t (suc i)) 5 (omega (arith, holder_below t i (suc i))) (omega arith) in
      rw (h i 0 (omega arith) (omega arith), h i 1 (omega arith) (omega arith), p, k)

  module _ (i : ℕ) (code : word s i 0 ≡ word t i 0) (dictionary : word s i 1 ≡ word t i 1) (next : word s (suc i) 0 ≡ word t (suc i) 0) where
    pub joined_same : joined_word x sources m s i ≡ joined_word x sources m t i
    unfolding joined_word
    joined_same = rw (dictionary, next)

    pub base_same : (j : ℕ) → base_word x sources m s j i ≡ base_word x sources m t j i
    unfolding base_word
    base_same j = rw (code, dictionary, next)

-- ---- the plan

module _ (formats schema : List ℕ) (x : Tables) (sources : List ℕ) (keep gaps : Bool) (few : source_count sources ≤ 16) (small : Sources.nodes_of sources 0 ≤ 32) where
  abbrev m : ℕ
  m = source_count sources

  abbrev n : ℕ
  n = Sources.nodes_of sources 0

  abbrev plan : List ℕ
  plan = planned formats schema x sources keep gaps

  -- the stages
  abbrev tree : List ℕ
  tree = planted formats schema (first_of sources 0) n

  abbrev bare : List ℕ
  bare = with_counts m n (with_tree tree)

  abbrev kept : List ℕ
  kept = with_keeps x sources m keep n bare

  abbrev joined : List ℕ
  joined = with_joined x sources m n kept

  abbrev based : List ℕ
  based = with_bases x sources m joined

  abbrev named : List ℕ
  named = with_parts n based

  plan_is : plan ≡ set (set named 866 (part_total named)) 867 (settles.flag gaps)
  unfolding planned laid_out with_total
  plan_is = refl

  -- ---- lengths

  tree_length : length (with_tree tree) ≡ 872
  unfolding with_tree
  tree_length = filled_length (λ q. q) (λ s q. get_or tree q 0) 256 (replicate 872 0)

  bare_length : length bare ≡ 872
  unfolding with_counts
  bare_length = length-set (set (with_tree tree) 864 m) 865 n ∙ length-set (with_tree tree) 864 m ∙ tree_length

  kept_length : length kept ≡ 872
  unfolding with_keeps
  kept_length = filled_length (λ i. 8 * i + 5) (keep_word x sources m keep) n bare ∙ bare_length

  joined_length : length joined ≡ 872
  unfolding with_joined
  joined_length = filled_length (λ i. 8 * i + 7) (joined_word x sources m) n kept ∙ kept_length

  based_length : length based ≡ 872
  unfolding with_bases
  based_length = filled_length (λ q. 352 + q) (λ words q. base_word x sources m words (q / 32) (q % 32)) (32 * m) joined ∙ joined_length

  named_length : length named ≡ 872
  unfolding with_parts
  named_length = filled_length (λ i. 8 * i + 6) part_word n based ∙ based_length

  pub plan_length : length plan ≡ 872
  plan_length = ap length plan_is ∙ length-set (set named 866 (part_total named)) 867 (settles.flag gaps) ∙ length-set named 866 (part_total named) ∙ named_length

  -- ---- words that a stage leaves

  after_parts : (p : ℕ) → (p ≡ 866 → ⊥) → (p ≡ 867 → ⊥) → get_or plan p 0 ≡ get_or named p 0
  after_parts p h g =
      ap (λ l. get_or l p 0) plan_is
      ∙ get_or-set_other (set named 866 (part_total named)) 867 p (settles.flag gaps) 0 g
      ∙ get_or-set_other named 866 p (part_total named) 0 h

  after_bases : (p : ℕ) → ((i : ℕ) → i < n → p ≡ 8 * i + 6 → ⊥) → get_or named p 0 ≡ get_or based p 0
  unfolding with_parts
  after_bases p h = filled_other (λ i. 8 * i + 6) part_word n based p h

  after_joined : (p : ℕ) → ((q : ℕ) → q < 32 * m → p ≡ 352 + q → ⊥) → get_or based p 0 ≡ get_or joined p 0
  unfolding with_bases
  after_joined p h = filled_other (λ q. 352 + q) (λ words q. base_word x sources m words (q / 32) (q % 32)) (32 * m) joined p h

  after_keeps : (p : ℕ) → ((i : ℕ) → i < n → p ≡ 8 * i + 7 → ⊥) → get_or joined p 0 ≡ get_or kept p 0
  unfolding with_joined
  after_keeps p h = filled_other (λ i. 8 * i + 7) (joined_word x sources m) n kept p h

  after_tree : (p : ℕ) → ((i : ℕ) → i < n → p ≡ 8 * i + 5 → ⊥) → get_or kept p 0 ≡ get_or bare p 0
  unfolding with_keeps
  after_tree p h = filled_other (λ i. 8 * i + 5) (keep_word x sources m keep) n bare p h

  -- words 0 to 5 and the counters stand when it is settled who keeps nulls
  late : (k j : ℕ) → k < 44 → j < 6 → word plan k j ≡ word kept k j
  late k j l h =
      after_parts (8 * k + j) (λ e. omega arith) (λ e. omega arith)
      ∙ after_bases (8 * k + j) (λ i a e. omega arith)
      ∙ after_joined (8 * k + j) (λ q a e. omega arith)
      ∙ after_keeps (8 * k + j) (λ i a e. omega arith)

  -- ---- the type tree

  bare_word : (p : ℕ) → p < 864 → get_or bare p 0 ≡ get_or (with_tree tree) p 0
  unfolding with_counts
  bare_word p h =
      get_or-set_other (set (with_tree tree) 864 m) 865 p n 0 (λ e. omega arith) ∙ get_or-set_other (with_tree tree) 864 p m 0 (λ e. omega arith)

  tree_word : (p : ℕ) → p < 256 → get_or (with_tree tree) p 0 ≡ get_or tree p 0
  unfolding with_tree
  tree_word p h = filled_at (λ q. q) (λ s q. get_or tree q 0) (λ a b e. e) 256 (replicate 872 0) p h (omega arith)

  seg_at : (f : ℕ → ℕ) (a k p : ℕ) → p < k → get_or (seg f a k) p 0 ≡ f (a + p)
  seg_at f a zero p h = absurd (omega arith)
  seg_at f a (suc k) zero h = let e : a ≡ a + zero = omega arith in ap f e
  seg_at f a (suc k) (suc p) h = let e : suc a + p ≡ a + suc p = omega arith in seg_at f (suc a) k p (omega arith) ∙ ap f e

  -- WORDS 0 TO 4 are those of the type tree of source 0
  pub word_is : (i j : ℕ) → i < 32 → j < 5 → word plan i j ≡ word_of formats schema (first_of sources 0) n i j
  unfolding planted
  word_is i j l h =
      let e : (0 + (8 * i + j)) / 8 ≡ i = omega arith in
      let r : (0 + (8 * i + j)) % 8 ≡ j = omega arith in
      late i j (omega arith) (omega arith)
      ∙ after_tree (8 * i + j) (λ k a q. omega arith)
      ∙ bare_word (8 * i + j) (omega arith)
      ∙ tree_word (8 * i + j) (omega arith)
      ∙ seg_at (λ q. word_of formats schema (first_of sources 0) n (q / 8) (q % 8)) 0 256 (8 * i + j) (omega arith)
      ∙ ap₂ (word_of formats schema (first_of sources 0) n) e r

  -- NO NODE HAS ROWS, nulls or bytes
  pub counters_none : (p : ℕ) → 256 ≤ p → p < 352 → get_or plan p 0 ≡ 0
  unfolding with_tree
  counters_none p l h =
      after_parts p (λ e. omega arith) (λ e. omega arith)
      ∙ after_bases p (λ i a e. omega arith)
      ∙ after_joined p (λ q a e. omega arith)
      ∙ after_keeps p (λ i a e. omega arith)
      ∙ after_tree p (λ i a e. omega arith)
      ∙ bare_word p (omega arith)
      ∙ filled_other (λ q. q) (λ s q. get_or tree q 0) 256 (replicate 872 0) p (λ j a e. omega arith)
      ∙ get_or-replicate 872 p 0 0 (omega arith)

  -- ---- nulls

  abbrev kept_up_to : ℕ → List ℕ
  kept_up_to i = filled (λ k. 8 * k + 5) (keep_word x sources m keep) i bare

  five_at : (i j : ℕ) → j < i → i ≤ 32 → word (kept_up_to i) j 5 ≡ keep_word x sources m keep (kept_up_to j) j
  five_at i j l h =
      filled_at (λ k. 8 * k + 5) (keep_word x sources m keep) (λ a b e. omega arith) i bare j l (omega (arith, bare_length))

  kept_is : kept ≡ kept_up_to n
  unfolding with_keeps
  kept_is = refl

  -- the nodes before node i stand as they do at the end when node i's word is found
  kept_before : (i : ℕ) → i < n → SameBefore (kept_up_to i) plan i
  kept_before i l p j a h = go (eqb j 5) refl
    where
      go : (b : Bool) → eqb j 5 ≡ b → word (kept_up_to i) p j ≡ word plan p j
      go true e =
          let q : j ≡ 5 = eqb-true j 5 e in
          ap (word (kept_up_to i) p) q ∙ five_at i p a (omega arith) ∙ sym (five_at n p (omega arith) small) ∙ sym (ap (λ s. word s p 5) kept_is)
          ∙ sym (late p 5 (omega arith) (omega arith)) ∙ sym (ap (word plan p) q)
      go false e =
          let d = eqb-false j 5 e in
          filled_other (λ k. 8 * k + 5) (keep_word x sources m keep) i bare (8 * p + j) (λ k b f. d (omega arith))
          ∙ sym (after_tree (8 * p + j) (λ k b f. d (omega arith)))
          ∙ sym (late p j (omega arith) h)

  -- WORD 5: whether node i keeps nulls
  pub keep_is : (i : ℕ) → i < n → keeps_of plan i ≡ keep_word x sources m keep plan i
  keep_is i l =
      late i 5 (omega arith) (omega arith) ∙ ap (λ s. word s i 5) kept_is ∙ five_at n i l small ∙ keep_same x sources m (kept_up_to i) plan keep i (kept_before i l)

  -- ---- dictionaries

  abbrev joined_up_to : ℕ → List ℕ
  joined_up_to i = filled (λ k. 8 * k + 7) (joined_word x sources m) i kept

  joined_before : (i k j : ℕ) → k < 44 → j < 6 → word (joined_up_to i) k j ≡ word plan k j
  joined_before i k j l h =
      filled_other (λ a. 8 * a + 7) (joined_word x sources m) i kept (8 * k + j) (λ a b e. omega arith) ∙ sym (late k j l h)

  joined_at : (i : ℕ) → i < n → word joined i 7 ≡ joined_word x sources m (joined_up_to i) i
  unfolding with_joined
  joined_at i l = filled_at (λ k. 8 * k + 7) (joined_word x sources m) (λ a b e. omega arith) n kept i l (omega (arith, kept_length))

  -- WORD 7: whether node i's dictionaries are joined
  pub joined_is : (i : ℕ) → i < n → word plan i 7 ≡ joined_word x sources m plan i
  joined_is i l =
      after_parts (8 * i + 7) (λ e. omega arith) (λ e. omega arith)
      ∙ after_bases (8 * i + 7) (λ k a e. omega arith)
      ∙ after_joined (8 * i + 7) (λ q a e. omega arith)
      ∙ joined_at i l
      ∙ joined_same x sources m (joined_up_to i) plan i (joined_before i i 0 (omega arith) (omega arith)) (joined_before i i 1 (omega arith) (omega arith))
      (joined_before i (suc i) 0 (omega arith) (omega arith))

  -- ---- bases

  abbrev based_up_to : ℕ → List ℕ
  based_up_to q = filled (λ k. 352 + k) (λ words k. base_word x sources m words (k / 32) (k % 32)) q joined

  based_before : (q k j : ℕ) → k < 44 → j < 6 → word (based_up_to q) k j ≡ word plan k j
  based_before q k j l h =
      filled_other (λ a. 352 + a) (λ words a. base_word x sources m words (a / 32) (a % 32)) q joined (8 * k + j) (λ a b e. omega arith)
      ∙ after_keeps (8 * k + j) (λ i a e. omega arith)
      ∙ sym (late k j l h)

  based_at : (q : ℕ) → q < 32 * m → get_or based (352 + q) 0 ≡ base_word x sources m (based_up_to q) (q / 32) (q % 32)
  unfolding with_bases
  based_at q l =
      filled_at (λ k. 352 + k) (λ words k. base_word x sources m words (k / 32) (k % 32)) (λ a b e. omega arith) (32 * m) joined q l (omega (arith, joined_length))

  -- THE BASE of source s at node i
  pub base_is : (s i : ℕ) → s < m → i < 32 → base_of plan s i ≡ base_word x sources m plan s i
  base_is s i l h =
      let q = 32 * s + i in
      let a : (32 * s + i) / 32 ≡ s = omega arith in
      let b : (32 * s + i) % 32 ≡ i = omega arith in
      after_parts (352 + q) (λ e. omega arith) (λ e. omega arith)
      ∙ after_bases (352 + q) (λ k c e. omega arith)
      ∙ based_at q (omega arith)
      ∙ ap₂ (base_word x sources m (based_up_to q)) a b
      ∙ base_same x sources m (based_up_to q) plan i (based_before q i 0 (omega arith) (omega arith)) (based_before q i 1 (omega arith) (omega arith))
      (based_before q (suc i) 0 (omega arith) (omega arith)) s

  -- ---- parts

  abbrev named_up_to : ℕ → List ℕ
  named_up_to i = filled (λ k. 8 * k + 6) part_word i based

  still : (i p : ℕ) → i ≤ n → ((k : ℕ) → k < 32 → p ≡ 8 * k + 6 → ⊥) → (p ≡ 866 → ⊥) → (p ≡ 867 → ⊥) → get_or (named_up_to i) p 0 ≡ get_or plan p 0
  still i p l h g f =
      filled_other (λ k. 8 * k + 6) part_word i based p (λ k a. h k (omega arith))
      ∙ sym (after_bases p (λ k a. h k (omega arith)))
      ∙ sym (after_parts p g f)

  named_alike : (i : ℕ) → i ≤ n → Alike (named_up_to i) plan
  named_alike i l =
      record {
        nodes = still i 865 l (λ k a e. omega arith) (λ e. omega arith) (λ e. omega arith);
        code = λ k. still i (8 * k + 0) l (λ a b e. omega arith) (λ e. omega arith) (λ e. omega arith);
        dictionary = λ k. still i (8 * k + 1) l (λ a b e. omega arith) (λ e. omega arith) (λ e. omega arith);
        keeps = λ k. still i (8 * k + 5) l (λ a b e. omega arith) (λ e. omega arith) (λ e. omega arith);
        joined = λ k. still i (8 * k + 7) l (λ a b e. omega arith) (λ e. omega arith) (λ e. omega arith);
      }

  named_is : named ≡ named_up_to n
  unfolding with_parts
  named_is = refl

  -- WORD 6: the part of node i's first buffer
  pub part_is : (i : ℕ) → i < n → word plan i 6 ≡ part_word plan i
  part_is i l =
      after_parts (8 * i + 6) (λ e. omega arith) (λ e. omega arith)
      ∙ ap (λ s. word s i 6) named_is
      ∙ filled_at (λ k. 8 * k + 6) part_word (λ a b e. omega arith) n based i l (omega (arith, based_length))
      ∙ alike_word (named_up_to i) plan (named_alike i (omega arith)) i

  -- ---- how many there are

  pub parts_are : get_or plan 866 0 ≡ part_total plan
  parts_are =
      ap (λ l. get_or l 866 0) plan_is
      ∙ get_or-set_other (set named 866 (part_total named)) 867 866 (settles.flag gaps) 0 (λ e. omega arith)
      ∙ get_or-set_same named 866 (part_total named) 0 (omega (arith, named_length))
      ∙ ap part_total named_is
      ∙ alike_total (named_up_to n) plan (named_alike n (omega arith))

  counters_from : (p : ℕ) → 864 ≤ p → p < 866 → get_or plan p 0 ≡ get_or bare p 0
  counters_from p l h =
      after_parts p (λ e. omega arith) (λ e. omega arith)
      ∙ after_bases p (λ i a e. omega arith)
      ∙ after_joined p (λ q a e. omega arith)
      ∙ after_keeps p (λ i a e. omega arith)
      ∙ after_tree p (λ i a e. omega arith)

  pub sources_are : get_or plan 864 0 ≡ m
  unfolding with_counts
  sources_are =
      counters_from 864 (omega arith) (omega arith)
      ∙ get_or-set_other (set (with_tree tree) 864 m) 865 864 n 0 (λ e. omega arith)
      ∙ get_or-set_same (with_tree tree) 864 m 0 (omega (arith, tree_length))

  pub nodes_are : get_or plan 865 0 ≡ n
  unfolding with_counts
  nodes_are =
      counters_from 865 (omega arith) (omega arith)
      ∙ get_or-set_same (set (with_tree tree) 864 m) 865 n 0 (omega (arith, length-set (with_tree tree) 864 m, tree_length))

  -- WORD 867: the choice
  pub choice_is : get_or plan 867 0 ≡ settles.flag gaps
  choice_is =
      ap (λ l. get_or l 867 0) plan_is
      ∙ get_or-set_same (set named 866 (part_total named)) 867 (settles.flag gaps) 0 (omega (arith, length-set named 866 (part_total named), named_length))

  -- THE PARTS ARE NUMBERED in tree order
  pub numbered_is : Numbered plan
  numbered_is = numbered plan (λ i l. part_is i (omega (arith, nodes_are)))
