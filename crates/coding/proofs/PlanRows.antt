-- The plan of a result of plain rows is the one that stands word for word. Assumes nothing.
use mathlib.Core.Path.{◌≡◌, refl, sym, ap, ◌∙◌}
use mathlib.Core.Bool.{Bool, true, false, not, cond, ◌&&◌}
use mathlib.Core.List.{List, [], ◌∷◌}
use Prim.Native.Nat.{ℕ, zero, suc, ◌+◌, ◌/◌, ◌%◌, ◌≤◌, ◌<◌}
use native.Mathlib.Decide.{dec_lt}
use native.Mathlib.Nat.{zero-add}
use native.Mathlib.Omega.{arith}
use lib.ListN.{length, get_or, set, replicate, length-set, get_or-replicate}
use lib.Seq.{get_or-set_other, ext_get_or}
use lib.Dec.{ltb, eqb}
use borrow.Author.Tests.{eqb-true, le-ltb}
use Rattle.model.proofs.Bits.{get_d_seg}
use Rattle.schema.specs.formats.Code.{is_fixed}
use Rattle.schema.specs.Tree as trees
use Rattle.array_data.specs.node_words.Words.{word_of, planted, id_below}
use Rattle.plan.specs.Plan.{filled, flag, with_tree, with_counts, with_parts, with_total}
use Rattle.plan.specs.parts.Parts.{copied, validity_parts, buffer_parts, buffer_count, parts_before, part_word, part_total}
use Rattle.plan.proofs.Words.{filled_length, filled_other, filled_at}
use Rattle.anew.specs.ResultPlan.{with_nulls, dictionary_word, with_dictionaries, typed_anew, plan_anew}
use Rattle.coding.specs.Planned.{row_plan_of}
use Rattle.coding.proofs.Codes.{code_low, one_buffer}

-- a word that stands already
pub set_none : (l : List ℕ) (p v : ℕ) → get_or l p 0 ≡ v → p < length l → set l p v ≡ l
set_none [] p v e h = absurd (omega arith)
set_none (x ∷ l) zero v e h = ap (λ z. z ∷ l) (sym e)
set_none (x ∷ l) (suc p) v e h = ap (λ z. x ∷ z) (set_none l p v e (omega arith))

module _ (formats schema : List ℕ) (target : ℕ) where
  abbrev tree : List ℕ
  tree = planted formats schema target 1

  abbrev code : ℕ
  code = trees.code_of formats schema target 0

  abbrev nullable : ℕ
  nullable = trees.flag schema target 0

  -- ---- the type tree

  tree_length : length (with_tree tree) ≡ 872
  unfolding with_tree
  tree_length = filled_length (λ q. q) (λ s q. get_or tree q 0) 256 (replicate 872 0)

  tree_at : (p : ℕ) → p < 256 → get_or (with_tree tree) p 0 ≡ word_of formats schema target 1 (p / 8) (p % 8)
  unfolding with_tree planted
  tree_at p h =
      filled_at (λ q. q) (λ s q. get_or tree q 0) (λ a b e. e) 256 (replicate 872 0) p h (omega arith)
      ∙ get_d_seg (λ q. word_of formats schema target 1 (q / 8) (q % 8)) 0 256 p 0 (omega arith)
      ∙ ap (λ z. word_of formats schema target 1 (z / 8) (z % 8)) (zero-add p)

  past : (i j : ℕ) → 1 ≤ i → word_of formats schema target 1 i j ≡ 0
  unfolding word_of
  past i j l = rw (le-ltb i 1 l)

  tree_short : (p : ℕ) → 8 ≤ p → p < 872 → get_or (with_tree tree) p 0 ≡ 0
  unfolding with_tree
  tree_short p l h = go (dec_lt p 256)
    where
      go : Dec (p < 256) → get_or (with_tree tree) p 0 ≡ 0
      go (yes y) = tree_at p y ∙ past (p / 8) (p % 8) (omega arith)
      go (no y) = filled_other (λ q. q) (λ s q. get_or tree q 0) 256 (replicate 872 0) p (λ j a e. omega arith) ∙ get_or-replicate 872 p 0 0 h

  abbrev row_tree : List ℕ
  row_tree = set (set (set (replicate 872 0) 0 code) 2 1) 4 nullable

  row_length : length row_tree ≡ 872
  row_length = length-set (set (set (replicate 872 0) 0 code) 2 1) 4 nullable ∙ length-set (set (replicate 872 0) 0 code) 2 1 ∙ length-set (replicate 872 0) 0 code

  row_short : (p : ℕ) → 8 ≤ p → p < 872 → get_or row_tree p 0 ≡ 0
  row_short p l h =
      get_or-set_other (set (set (replicate 872 0) 0 code) 2 1) 4 p nullable 0 (λ e. omega arith)
      ∙ get_or-set_other (set (replicate 872 0) 0 code) 2 p 1 0 (λ e. omega arith)
      ∙ get_or-set_other (replicate 872 0) 0 p code 0 (λ e. omega arith)
      ∙ get_or-replicate 872 p 0 0 h

  module _ (keep : ℕ → Bool) (alone : eqb (trees.dictionary schema target 0) 0 ≡ true) (fixed : is_fixed code ≡ true) where
    tree_same : (p : ℕ) → p < 872 → get_or (with_tree tree) p 0 ≡ get_or row_tree p 0
    unfolding word_of trees.end_of trees.end_from id_below
    tree_same zero h = tree_at 0 (omega arith)
    tree_same (suc zero) h = tree_at 1 (omega arith) ∙ eqb-true (trees.dictionary schema target 0) 0 alone
    tree_same (suc (suc zero)) h = tree_at 2 (omega arith)
    tree_same (suc (suc (suc zero))) h = tree_at 3 (omega arith)
    tree_same (suc (suc (suc (suc zero)))) h = tree_at 4 (omega arith)
    tree_same (suc (suc (suc (suc (suc zero))))) h = tree_at 5 (omega arith)
    tree_same (suc (suc (suc (suc (suc (suc zero)))))) h = tree_at 6 (omega arith)
    tree_same (suc (suc (suc (suc (suc (suc (suc zero))))))) h = tree_at 7 (omega arith)
    tree_same (suc (suc (suc (suc (suc (suc (suc (suc p)))))))) h =
        let q = suc (suc (suc (suc (suc (suc (suc (suc p))))))) in
        tree_short q (omega arith) h ∙ sym (row_short q (omega arith) h)

    tree_is : with_tree tree ≡ row_tree
    tree_is = ext_get_or 0 (with_tree tree) row_tree (tree_length ∙ sym row_length) (λ p h. tree_same p (omega (arith, tree_length)))

    -- ---- the other words, one kind after the other

    abbrev k : ℕ
    k = flag (keep 0)

    abbrev nulled : List ℕ → List ℕ
    nulled w = set (set (set w 864 1) 865 1) 5 k

    abbrev worded : List ℕ → List ℕ
    worded w = set (set (nulled w) 7 (dictionary_word true (nulled w) 0)) 868 0

    abbrev named : List ℕ → List ℕ
    named l = set l 6 (part_word l 0)

    abbrev counted : List ℕ → List ℕ
    counted l = set l 866 (part_total l)

    staged : plan_anew formats schema target 1 keep true 0 ≡ counted (named (worded (with_tree tree)))
    unfolding plan_anew typed_anew with_total with_parts with_dictionaries with_nulls with_counts filled
    staged = refl

    nulled_length : length (nulled row_tree) ≡ 872
    nulled_length = length-set (set (set row_tree 864 1) 865 1) 5 k ∙ length-set (set row_tree 864 1) 865 1 ∙ length-set row_tree 864 1 ∙ row_length

    no_dictionary : dictionary_word true (nulled row_tree) 0 ≡ 0
    unfolding dictionary_word
    no_dictionary = refl

    worded_is : worded row_tree ≡ nulled row_tree
    worded_is =
        ap (λ v. set (set (nulled row_tree) 7 v) 868 0) no_dictionary
        ∙ ap (λ l. set l 868 0) (set_none (nulled row_tree) 7 0 refl (omega (arith, nulled_length)))
        ∙ set_none (nulled row_tree) 868 0 refl (omega (arith, nulled_length))

    named_is : part_word (nulled row_tree) 0 ≡ k
    unfolding parts_before validity_parts copied
    named_is = go (keep 0)
      where
        go : (b : Bool) → 0 + cond (true && not (eqb (flag b) 0) && ltb (code % 256) 21) 1 0 ≡ flag b
        go true = rw (code_low code fixed) refl
        go false = refl

    counted_is : part_total (set (nulled row_tree) 6 k) ≡ 1 + k
    unfolding parts_before validity_parts buffer_parts copied
    counted_is = go (keep 0)
      where
        go : (b : Bool) → 0 + (cond (true && not (eqb (flag b) 0) && ltb (code % 256) 21) 1 0 + buffer_count (code % 256)) ≡ 1 + flag b
        go true = rw (code_low code fixed, one_buffer code fixed) refl
        go false = rw (one_buffer code fixed) refl

    -- THE PLAN OF PLAIN ROWS
    pub plan_rows : plan_anew formats schema target 1 keep true 0 ≡ row_plan_of code nullable (flag (keep 0))
    plan_rows =
        staged
        ∙ ap (λ w. counted (named (worded w))) tree_is
        ∙ ap (λ l. counted (named l)) worded_is
        ∙ ap (λ v. counted (set (nulled row_tree) 6 v)) named_is
        ∙ ap (λ v. set (set (nulled row_tree) 6 k) 866 v) counted_is
