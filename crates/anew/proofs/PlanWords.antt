-- Each word of the plan of a result, by the plan itself. Assumes nothing.
use mathlib.Core.Path.{◌≡◌, refl, sym, ap, ap₂, ◌∙◌}
use mathlib.Core.Bool.{Bool, true, false, cond}
use mathlib.Core.List.{List}
use Prim.Native.Nat.{ℕ, zero, suc, ◌+◌, ◌*◌, ◌/◌, ◌%◌, ◌≤◌, ◌<◌}
use native.Mathlib.Omega.{arith}
use lib.ListN.{length, get_or, set, replicate, length-set, get_or-replicate}
use lib.Seq.{get_or-set_same, get_or-set_other}
use lib.Dec.{eqb}
use Rattle.model.proofs.Bits.{get_d_seg}
use Rattle.array_data.specs.node_words.Words.{word_of, planted}
use Rattle.plan.specs.parts.Parts.{part_word, part_total, Numbered}
use Rattle.plan.proofs.parts.Words.{Alike, alike_word, alike_total, numbered}
use Rattle.walk.specs.State.{word, dictionary_of, keeps_of, base_of}
use Rattle.refinement.specs.plan_is_type.Planted.{Planted}
use Rattle.plan.specs.Plan.{filled, flag, with_tree, with_counts, with_parts, with_total}
use Rattle.plan.proofs.Words.{filled_length, filled_other, filled_at}
use Rattle.anew.specs.ResultPlan.{with_nulls, dictionary_word, with_dictionaries, kept_word, typed_anew, plan_anew}

module _ (formats schema : List ℕ) (target n : ℕ) (keep : ℕ → Bool) (joined : Bool) (keptFrom : ℕ) (small : n ≤ 32) where
  abbrev plan : List ℕ
  plan = plan_anew formats schema target n keep joined keptFrom

  -- the stages
  abbrev tree : List ℕ
  tree = planted formats schema target n

  abbrev bare : List ℕ
  bare = with_counts 1 n (with_tree tree)

  abbrev nulled : List ℕ
  nulled = with_nulls keep n bare

  abbrev worded : List ℕ
  worded = with_dictionaries joined n nulled

  abbrev whole : List ℕ
  whole = set worded kept_word keptFrom

  abbrev named : List ℕ
  named = with_parts n whole

  plan_is : plan ≡ set named 866 (part_total named)
  unfolding plan_anew typed_anew with_total
  plan_is = refl

  -- ---- lengths

  tree_length : length (with_tree tree) ≡ 872
  unfolding with_tree
  tree_length = filled_length (λ q. q) (λ s q. get_or tree q 0) 256 (replicate 872 0)

  bare_length : length bare ≡ 872
  unfolding with_counts
  bare_length = length-set (set (with_tree tree) 864 1) 865 n ∙ length-set (with_tree tree) 864 1 ∙ tree_length

  nulled_length : length nulled ≡ 872
  unfolding with_nulls
  nulled_length = filled_length (λ i. 8 * i + 5) (λ s i. flag (keep i)) n bare ∙ bare_length

  worded_length : length worded ≡ 872
  unfolding with_dictionaries
  worded_length = filled_length (λ i. 8 * i + 7) (dictionary_word joined) n nulled ∙ nulled_length

  whole_length : length whole ≡ 872
  whole_length = length-set worded kept_word keptFrom ∙ worded_length

  named_length : length named ≡ 872
  unfolding with_parts
  named_length = filled_length (λ i. 8 * i + 6) part_word n whole ∙ whole_length

  pub plan_length : length plan ≡ 872
  plan_length = ap length plan_is ∙ length-set named 866 (part_total named) ∙ named_length

  -- ---- words that a stage leaves

  after_parts : (p : ℕ) → (p ≡ 866 → ⊥) → get_or plan p 0 ≡ get_or named p 0
  after_parts p h = ap (λ l. get_or l p 0) plan_is ∙ get_or-set_other named 866 p (part_total named) 0 h

  after_kept : (p : ℕ) → ((i : ℕ) → i < n → p ≡ 8 * i + 6 → ⊥) → get_or named p 0 ≡ get_or whole p 0
  unfolding with_parts
  after_kept p h = filled_other (λ i. 8 * i + 6) part_word n whole p h

  after_dictionaries : (p : ℕ) → (p ≡ kept_word → ⊥) → get_or whole p 0 ≡ get_or worded p 0
  after_dictionaries p h = get_or-set_other worded kept_word p keptFrom 0 h

  after_nulls : (p : ℕ) → ((i : ℕ) → i < n → p ≡ 8 * i + 7 → ⊥) → get_or worded p 0 ≡ get_or nulled p 0
  unfolding with_dictionaries
  after_nulls p h = filled_other (λ i. 8 * i + 7) (dictionary_word joined) n nulled p h

  after_tree : (p : ℕ) → ((i : ℕ) → i < n → p ≡ 8 * i + 5 → ⊥) → get_or nulled p 0 ≡ get_or bare p 0
  unfolding with_nulls
  after_tree p h = filled_other (λ i. 8 * i + 5) (λ s i. flag (keep i)) n bare p h

  -- words 0 to 5 stand when it is settled who keeps nulls
  late : (k j : ℕ) → k < 32 → j < 6 → word plan k j ≡ word nulled k j
  late k j l h =
      after_parts (8 * k + j) (λ e. omega arith)
      ∙ after_kept (8 * k + j) (λ i a e. omega arith)
      ∙ after_dictionaries (8 * k + j) (λ e. omega arith)
      ∙ after_nulls (8 * k + j) (λ i a e. omega arith)

  -- ---- the type tree

  bare_word : (p : ℕ) → p < 864 → get_or bare p 0 ≡ get_or (with_tree tree) p 0
  unfolding with_counts
  bare_word p h = get_or-set_other (set (with_tree tree) 864 1) 865 p n 0 (λ e. omega arith) ∙ get_or-set_other (with_tree tree) 864 p 1 0 (λ e. omega arith)

  tree_word : (p : ℕ) → p < 256 → get_or (with_tree tree) p 0 ≡ get_or tree p 0
  unfolding with_tree
  tree_word p h = filled_at (λ q. q) (λ s q. get_or tree q 0) (λ a b e. e) 256 (replicate 872 0) p h (omega arith)

  -- WORDS 0 TO 4 are those of the type tree of the target
  pub anew_planted : Planted plan formats schema target n
  unfolding planted
  anew_planted i j l h =
      let e : (0 + (8 * i + j)) / 8 ≡ i = omega arith in
      let r : (0 + (8 * i + j)) % 8 ≡ j = omega arith in
      late i j l (omega arith)
      ∙ after_tree (8 * i + j) (λ k a q. omega arith)
      ∙ bare_word (8 * i + j) (omega arith)
      ∙ tree_word (8 * i + j) (omega arith)
      ∙ get_d_seg (λ q. word_of formats schema target n (q / 8) (q % 8)) 0 256 (8 * i + j) 0 (omega arith)
      ∙ ap₂ (word_of formats schema target n) e r

  -- WORD 5: "a node keeping nulls exactly where the node it comes from has one"
  pub keeps_is : (i : ℕ) → i < n → keeps_of plan i ≡ flag (keep i)
  unfolding with_nulls
  keeps_is i l =
      late i 5 (omega arith) (omega arith)
      ∙ filled_at (λ k. 8 * k + 5) (λ s k. flag (keep k)) (λ a b e. omega arith) n bare i l (omega (arith, bare_length))

  -- ---- dictionaries

  abbrev worded_up_to : ℕ → List ℕ
  worded_up_to i = filled (λ k. 8 * k + 7) (dictionary_word joined) i nulled

  dictionary_before : (i k : ℕ) → k < 32 → dictionary_of (worded_up_to i) k ≡ dictionary_of plan k
  dictionary_before i k l = filled_other (λ a. 8 * a + 7) (dictionary_word joined) i nulled (8 * k + 1) (λ a b e. omega arith) ∙ sym (late k 1 l (omega arith))

  dictionary_same : (s t : List ℕ) (i : ℕ) → dictionary_of s i ≡ dictionary_of t i → dictionary_word joined s i ≡ dictionary_word joined t i
  unfolding dictionary_word
  dictionary_same s t i e = ap (λ d. cond (eqb d 0) 0 (flag joined)) e

  -- WORD 7: whether node i's dictionary is in parts
  pub joined_is : (i : ℕ) → i < n → word plan i 7 ≡ cond (eqb (dictionary_of plan i) 0) 0 (flag joined)
  unfolding with_dictionaries dictionary_word
  joined_is i l =
      after_parts (8 * i + 7) (λ e. omega arith)
      ∙ after_kept (8 * i + 7) (λ k a e. omega arith)
      ∙ after_dictionaries (8 * i + 7) (λ e. omega arith)
      ∙ filled_at (λ k. 8 * k + 7) (dictionary_word joined) (λ a b e. omega arith) n nulled i l (omega (arith, nulled_length))
      ∙ dictionary_same (worded_up_to i) plan i (dictionary_before i i (omega arith))

  -- the words behind those of the nodes are 0, but for the numbers of the whole
  pub none_else : (p : ℕ) → 256 ≤ p → p < 872 → (p ≡ 864 → ⊥) → (p ≡ 865 → ⊥) → (p ≡ 866 → ⊥) → (p ≡ kept_word → ⊥) → get_or plan p 0 ≡ 0
  unfolding with_tree with_counts
  none_else p l h a b d k =
      after_parts p d
      ∙ after_kept p (λ i m e. omega arith)
      ∙ after_dictionaries p k
      ∙ after_nulls p (λ i m e. omega arith)
      ∙ after_tree p (λ i m e. omega arith)
      ∙ get_or-set_other (set (with_tree tree) 864 1) 865 p n 0 b
      ∙ get_or-set_other (with_tree tree) 864 p 1 0 a
      ∙ filled_other (λ q. q) (λ s q. get_or tree q 0) 256 (replicate 872 0) p (λ j m e. omega arith)
      ∙ get_or-replicate 872 p 0 0 h

  -- ---- bases

  -- what is added to keys and buffer numbers is 0
  pub base_none : (i : ℕ) → i < 32 → base_of plan 0 i ≡ 0
  base_none i l = none_else (352 + (32 * 0 + i)) (omega arith) (omega arith) (λ e. omega arith) (λ e. omega arith) (λ e. omega arith) (λ e. omega arith)

  -- ---- parts

  abbrev named_up_to : ℕ → List ℕ
  named_up_to i = filled (λ k. 8 * k + 6) part_word i whole

  still : (i p : ℕ) → i ≤ n → ((k : ℕ) → k < 32 → p ≡ 8 * k + 6 → ⊥) → (p ≡ 866 → ⊥) → get_or (named_up_to i) p 0 ≡ get_or plan p 0
  still i p l h g =
      filled_other (λ k. 8 * k + 6) part_word i whole p (λ k a. h k (omega arith))
      ∙ sym (after_kept p (λ k a. h k (omega arith)))
      ∙ sym (after_parts p g)

  named_alike : (i : ℕ) → i ≤ n → Alike (named_up_to i) plan
  named_alike i l =
      record {
        nodes = still i 865 l (λ k a e. omega arith) (λ e. omega arith);
        code = λ k. still i (8 * k + 0) l (λ a b e. omega arith) (λ e. omega arith);
        dictionary = λ k. still i (8 * k + 1) l (λ a b e. omega arith) (λ e. omega arith);
        keeps = λ k. still i (8 * k + 5) l (λ a b e. omega arith) (λ e. omega arith);
        joined = λ k. still i (8 * k + 7) l (λ a b e. omega arith) (λ e. omega arith);
      }

  named_is : named ≡ named_up_to n
  unfolding with_parts
  named_is = refl

  -- WORD 6: the part of node i's first buffer
  pub part_is : (i : ℕ) → i < n → word plan i 6 ≡ part_word plan i
  part_is i l =
      after_parts (8 * i + 6) (λ e. omega arith)
      ∙ ap (λ s. word s i 6) named_is
      ∙ filled_at (λ k. 8 * k + 6) part_word (λ a b e. omega arith) n whole i l (omega (arith, whole_length))
      ∙ alike_word (named_up_to i) plan (named_alike i (omega arith)) i

  -- ---- how many there are

  pub parts_are : get_or plan 866 0 ≡ part_total plan
  parts_are =
      ap (λ l. get_or l 866 0) plan_is
      ∙ get_or-set_same named 866 (part_total named) 0 (omega (arith, named_length))
      ∙ ap part_total named_is
      ∙ alike_total (named_up_to n) plan (named_alike n (omega arith))

  counters_from : (p : ℕ) → 864 ≤ p → p < 868 → (p ≡ 866 → ⊥) → get_or plan p 0 ≡ get_or bare p 0
  counters_from p l h g =
      after_parts p g
      ∙ after_kept p (λ i a e. omega arith)
      ∙ after_dictionaries p (λ e. omega arith)
      ∙ after_nulls p (λ i a e. omega arith)
      ∙ after_tree p (λ i a e. omega arith)

  -- one source
  pub source_is : get_or plan 864 0 ≡ 1
  unfolding with_counts
  source_is =
      counters_from 864 (omega arith) (omega arith) (λ e. omega arith)
      ∙ get_or-set_other (set (with_tree tree) 864 1) 865 864 n 0 (λ e. omega arith)
      ∙ get_or-set_same (with_tree tree) 864 1 0 (omega (arith, tree_length))

  pub nodes_are : get_or plan 865 0 ≡ n
  unfolding with_counts
  nodes_are =
      counters_from 865 (omega arith) (omega arith) (λ e. omega arith)
      ∙ get_or-set_same (set (with_tree tree) 864 1) 865 n 0 (omega (arith, length-set (with_tree tree) 864 1, tree_length))

  -- a call that writes anew adds no run for a gap: the choice is off
  pub no_choice : get_or plan 867 0 ≡ 0
  no_choice = none_else 867 (omega arith) (omega arith) (λ e. omega arith) (λ e. omega arith) (λ e. omega arith) (λ e. omega arith)

  -- from which node on all are kept
  pub kept_is : get_or plan kept_word 0 ≡ keptFrom
  kept_is =
      after_parts kept_word (λ e. omega arith)
      ∙ after_kept kept_word (λ i a e. omega arith)
      ∙ get_or-set_same worded kept_word keptFrom 0 (omega (arith, worded_length))

  -- THE PARTS ARE NUMBERED in tree order
  pub numbered_is : Numbered plan
  numbered_is = numbered plan (λ i l. part_is i (omega (arith, nodes_are)))
