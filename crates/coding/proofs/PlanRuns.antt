-- The plan of a result of runs is the one that stands word for word. Assumes nothing.
use mathlib.Core.Path.{◌≡◌, refl, sym, ap, ◌∙◌}
use mathlib.Core.Bool.{Bool, true, false, not, cond, ◌&&◌, ◌||◌, false≢true}
use mathlib.Core.Option.{none}
use mathlib.Core.List.{List}
use Prim.Native.Nat.{ℕ, zero, suc, ◌+◌, ◌/◌, ◌%◌, ◌≤◌, ◌<◌}
use native.Mathlib.Decide.{dec_lt}
use native.Mathlib.Nat.{zero-add}
use native.Mathlib.Omega.{arith}
use lib.ListN.{length, get_or, set, replicate, length-set, get_or-replicate}
use lib.Seq.{get_or-set_other, ext_get_or}
use lib.Dec.{leb, ltb, eqb}
use borrow.Author.Tests.{eqb-true, leb-true, le-ltb}
use Rattle.model.proofs.Bits.{get_d_seg}
use Rattle.schema.specs.formats.Code.{is_fixed, is_union, is_run_end}
use Rattle.schema.specs.Tree as trees
use Rattle.schema.proofs.union_ids.Read.{ids_other}
use Rattle.array_data.specs.node_words.Words.{id_from, id_below, word_of, planted, id_under}
use Rattle.array_data.proofs.lent_tables.Laws.{and_left, and_right}
use Rattle.plan.specs.Plan.{filled, flag, with_tree, with_counts, with_parts, with_total}
use Rattle.plan.specs.parts.Parts.{copied, validity_parts, buffer_parts, buffer_count, parts_before, part_word, part_total}
use Rattle.plan.proofs.Words.{filled_length, filled_other, filled_at}
use Rattle.anew.specs.ResultPlan.{with_nulls, dictionary_word, with_dictionaries, typed_anew, plan_anew}
use Rattle.coding.specs.Planned.{run_plan}
use Rattle.coding.proofs.Codes.{code_low, one_buffer}
use Rattle.coding.proofs.PlanRows.{set_none}
use Rattle.array_data.proofs.Names.{ids_or}

-- what the type says of its three nodes
pub record RunNodes (formats schema : List ℕ) (target : ℕ) : Type 0 where
  pub root_code : trees.code_of formats schema target 0 ≡ 23
  pub root_below : trees.below schema target 0 ≡ 2
  pub root_alone : trees.dictionary schema target 0 ≡ 0
  pub ends_below : trees.below schema target 1 ≡ 0
  pub ends_alone : trees.dictionary schema target 1 ≡ 0
  pub ends_fixed : is_fixed (trees.code_of formats schema target 1) ≡ true
  pub values_alone : trees.dictionary schema target 2 ≡ 0
  pub values_fixed : is_fixed (trees.code_of formats schema target 2) ≡ true

run_code : (c : ℕ) → is_run_end c ≡ true → c ≡ 23
run_code c h = let l = leb-true 23 c (and_left (leb 23 c) (leb c 23) h) in let m = leb-true c 23 (and_right (leb 23 c) (leb c 23) h) in omega arith

run_shape_lem : (formats schema : List ℕ) (target : ℕ) → trees.code_of formats schema target 0 ≡ 23 → trees.shape formats schema target 0 ≡ true → trees.run_shape formats schema target 0 ≡ true
unfolding trees.shape trees.leaf_shape trees.keys_shape trees.list_shape trees.union_shape trees.run_shape
run_shape_lem formats schema target e h = rw e (rw e at h)

ends_code : (c : ℕ) → eqb c 3 || eqb c 5 || eqb c 7 ≡ true → is_fixed c ≡ true
ends_code c = go (eqb c 3) refl (eqb c 5) refl (eqb c 7) refl
  where
    go : (a : Bool) → eqb c 3 ≡ a → (b : Bool) → eqb c 5 ≡ b → (d : Bool) → eqb c 7 ≡ d → a || b || d ≡ true → is_fixed c ≡ true
    go true p b q d r h = ap is_fixed (eqb-true c 3 p)
    go false p true q d r h = ap is_fixed (eqb-true c 5 q)
    go false p false q true r h = ap is_fixed (eqb-true c 7 r)
    go false p false q false r h = absurd (false≢true h)

pub run_nodes : (formats schema : List ℕ) (target : ℕ) → is_run_end (trees.code_of formats schema target 0) ≡ true → trees.shape formats schema target 0 ≡ true → is_fixed (trees.code_of formats schema target 2) ≡ true → eqb (trees.dictionary schema target 2) 0 ≡ true → RunNodes formats schema target
unfolding trees.run_shape trees.ends_shape trees.bare trees.below
run_nodes formats schema target r s f d =
    let e = run_code (trees.code_of formats schema target 0) r in
    let h = run_shape_lem formats schema target e s in
    let a = is_run_end (trees.code_of formats schema target 0) in
    let b = eqb (trees.children schema target 0) 2 in
    let c = eqb (trees.dictionary schema target 0) 0 in
    let p = trees.ends_shape formats schema target 1 in
    let q = and_right (a && b && c) p h in
    let c1 = trees.code_of formats schema target 1 in
    let u = eqb c1 3 || eqb c1 5 || eqb c1 7 in
    let v = eqb (trees.children schema target 1) 0 in
    let w = eqb (trees.dictionary schema target 1) 0 in
    let z = and_right u (v && w) q in
    let two : trees.children schema target 0 ≡ 2 = eqb-true (trees.children schema target 0) 2 (and_right a b (and_left (a && b) c (and_left (a && b && c) p h))) in
    let alone : eqb (trees.dictionary schema target 0) 0 ≡ true = and_right (a && b) c (and_left (a && b && c) p h) in
    let none_below : trees.children schema target 1 ≡ 0 = eqb-true (trees.children schema target 1) 0 (and_left v w z) in
    let ends-only : eqb (trees.dictionary schema target 1) 0 ≡ true = and_right v w z in
    record {
      root_code = e;
      root_below = rw (two, alone) refl;
      root_alone = eqb-true (trees.dictionary schema target 0) 0 alone;
      ends_below = rw (none_below, ends-only) refl;
      ends_alone = eqb-true (trees.dictionary schema target 1) 0 ends-only;
      ends_fixed = ends_code c1 (and_left u (v && w) q);
      values_alone = eqb-true (trees.dictionary schema target 2) 0 d;
      values_fixed = f;
    }

module _ (formats schema : List ℕ) (target : ℕ) (nodes : RunNodes formats schema target) where
  abbrev tree : List ℕ
  tree = planted formats schema target 3

  abbrev c1 : ℕ
  c1 = trees.code_of formats schema target 1

  abbrev c2 : ℕ
  c2 = trees.code_of formats schema target 2

  abbrev f0 : ℕ
  f0 = trees.flag schema target 0

  abbrev f1 : ℕ
  f1 = trees.flag schema target 1

  abbrev f2 : ℕ
  f2 = trees.flag schema target 2

  -- ---- the type tree

  tree_length : length (with_tree tree) ≡ 872
  unfolding with_tree
  tree_length = filled_length (λ q. q) (λ s q. get_or tree q 0) 256 (replicate 872 0)

  tree_at : (p : ℕ) → p < 256 → get_or (with_tree tree) p 0 ≡ word_of formats schema target 3 (p / 8) (p % 8)
  unfolding with_tree planted
  tree_at p h =
      filled_at (λ q. q) (λ s q. get_or tree q 0) (λ a b e. e) 256 (replicate 872 0) p h (omega arith)
      ∙ get_d_seg (λ q. word_of formats schema target 3 (q / 8) (q % 8)) 0 256 p 0 (omega arith)
      ∙ ap (λ z. word_of formats schema target 3 (z / 8) (z % 8)) (zero-add p)

  past : (i j : ℕ) → 3 ≤ i → word_of formats schema target 3 i j ≡ 0
  unfolding word_of
  past i j l = rw (le-ltb i 3 l)

  tree_short : (p : ℕ) → 24 ≤ p → p < 872 → get_or (with_tree tree) p 0 ≡ 0
  unfolding with_tree
  tree_short p l h = go (dec_lt p 256)
    where
      go : Dec (p < 256) → get_or (with_tree tree) p 0 ≡ 0
      go (yes y) = tree_at p y ∙ past (p / 8) (p % 8) (omega arith)
      go (no y) = filled_other (λ q. q) (λ s q. get_or tree q 0) 256 (replicate 872 0) p (λ j a e. omega arith) ∙ get_or-replicate 872 p 0 0 h

  abbrev run_tree : List ℕ
  run_tree = set (set (set (set (set (set (set (set (set (replicate 872 0) 0 23) 2 3) 4 f0) 8 c1) 10 2) 12 f1) 16 c2) 18 3) 20 f2

  run_length : length run_tree ≡ 872
  run_length = length-set (set (set (set (set (set (set (set (set (replicate 872 0) 0 23) 2 3) 4 f0) 8 c1) 10 2) 12 f1) 16 c2) 18 3) 20 f2 ∙ length-set (set (set (set (set (set (set (set (replicate 872 0) 0 23) 2 3) 4 f0) 8 c1) 10 2) 12 f1) 16 c2) 18 3 ∙ length-set (set (set (set (set (set (set (replicate 872 0) 0 23) 2 3) 4 f0) 8 c1) 10 2) 12 f1) 16 c2 ∙ length-set (set (set (set (set (set (replicate 872 0) 0 23) 2 3) 4 f0) 8 c1) 10 2) 12 f1 ∙ length-set (set (set (set (set (replicate 872 0) 0 23) 2 3) 4 f0) 8 c1) 10 2 ∙ length-set (set (set (set (replicate 872 0) 0 23) 2 3) 4 f0) 8 c1 ∙ length-set (set (set (replicate 872 0) 0 23) 2 3) 4 f0 ∙ length-set {A = ℕ} (set (replicate 872 0) 0 23) 2 3 ∙ length-set {A = ℕ} (replicate 872 0) 0 23

  run_short : (p : ℕ) → 24 ≤ p → p < 872 → get_or run_tree p 0 ≡ 0
  run_short p l h =
      get_or-set_other (set (set (set (set (set (set (set (set (replicate 872 0) 0 23) 2 3) 4 f0) 8 c1) 10 2) 12 f1) 16 c2) 18 3) 20 p f2 0 (λ e. omega arith)
      ∙ get_or-set_other (set (set (set (set (set (set (set (replicate 872 0) 0 23) 2 3) 4 f0) 8 c1) 10 2) 12 f1) 16 c2) 18 p 3 0 (λ e. omega arith)
      ∙ get_or-set_other (set (set (set (set (set (set (replicate 872 0) 0 23) 2 3) 4 f0) 8 c1) 10 2) 12 f1) 16 p c2 0 (λ e. omega arith)
      ∙ get_or-set_other (set (set (set (set (set (replicate 872 0) 0 23) 2 3) 4 f0) 8 c1) 10 2) 12 p f1 0 (λ e. omega arith)
      ∙ get_or-set_other (set (set (set (set (replicate 872 0) 0 23) 2 3) 4 f0) 8 c1) 10 p 2 0 (λ e. omega arith)
      ∙ get_or-set_other (set (set (set (replicate 872 0) 0 23) 2 3) 4 f0) 8 p c1 0 (λ e. omega arith)
      ∙ get_or-set_other (set (set (replicate 872 0) 0 23) 2 3) 4 p f0 0 (λ e. omega arith)
      ∙ get_or-set_other (set (replicate 872 0) 0 23) 2 p 3 0 (λ e. omega arith)
      ∙ get_or-set_other (replicate 872 0) 0 p 23 0 (λ e. omega arith)
      ∙ get_or-replicate 872 p 0 0 h

  end_root : trees.end_of schema target 3 0 ≡ 3
  unfolding trees.end_of trees.end_from
  end_root = ap (λ z. trees.end_from schema target 2 (0 + z) 1) nodes.root_below ∙ ap (λ z. trees.end_from schema target 1 (1 + z) 2) nodes.ends_below

  end_ends : trees.end_of schema target 3 1 ≡ 2
  unfolding trees.end_of trees.end_from
  end_ends = ap (λ z. trees.end_from schema target 1 (0 + z) 2) nodes.ends_below

  -- a run-end node has no ids
  no_ids : trees.ids_of formats schema target 0 ≡ none
  unfolding trees.ids_of trees.code_of
  no_ids = ids_other formats _ _ (ap is_union nodes.root_code)

  id_none : (i : ℕ) → id_under formats schema target 3 0 i ≡ 0
  unfolding id_from
  id_none i = ap (λ o. id_from schema target 3 (ids_or o) 1 i) no_ids

  either : (b : Bool) (x : ℕ) → x ≡ 0 → cond b x 0 ≡ 0
  either true x e = e
  either false x e = refl

  id_ends : id_below formats schema target 3 1 1 ≡ 0
  unfolding id_below
  id_ends = either (ltb 1 (trees.end_of schema target 3 0)) _ (id_none 1)

  id_values : id_below formats schema target 3 2 2 ≡ 0
  unfolding id_below
  id_values = ap (λ e. cond (ltb 2 e) (id_under formats schema target 3 1 2) (id_below formats schema target 3 1 2)) end_ends ∙ either (ltb 2 (trees.end_of schema target 3 0)) _ (id_none 2)

  tree_same : (p : ℕ) → p < 872 → get_or (with_tree tree) p 0 ≡ get_or run_tree p 0
  unfolding word_of trees.end_of trees.end_from id_below
  tree_same zero h = tree_at 0 (omega arith) ∙ nodes.root_code
  tree_same (suc zero) h = tree_at 1 (omega arith) ∙ nodes.root_alone
  tree_same (suc (suc zero)) h = tree_at 2 (omega arith) ∙ end_root
  tree_same (suc (suc (suc zero))) h = tree_at 3 (omega arith)
  tree_same (suc (suc (suc (suc zero)))) h = tree_at 4 (omega arith)
  tree_same (suc (suc (suc (suc (suc zero))))) h = tree_at 5 (omega arith)
  tree_same (suc (suc (suc (suc (suc (suc zero)))))) h = tree_at 6 (omega arith)
  tree_same (suc (suc (suc (suc (suc (suc (suc zero))))))) h = tree_at 7 (omega arith)
  tree_same (suc (suc (suc (suc (suc (suc (suc (suc zero)))))))) h = tree_at 8 (omega arith)
  tree_same (suc (suc (suc (suc (suc (suc (suc (suc (suc zero))))))))) h = tree_at 9 (omega arith) ∙ nodes.ends_alone
  tree_same (suc (suc (suc (suc (suc (suc (suc (suc (suc (suc zero)))))))))) h = tree_at 10 (omega arith) ∙ end_ends
  tree_same (suc (suc (suc (suc (suc (suc (suc (suc (suc (suc (suc zero))))))))))) h = tree_at 11 (omega arith) ∙ id_ends
  tree_same (suc (suc (suc (suc (suc (suc (suc (suc (suc (suc (suc (suc zero)))))))))))) h = tree_at 12 (omega arith)
  tree_same (suc (suc (suc (suc (suc (suc (suc (suc (suc (suc (suc (suc (suc zero))))))))))))) h = tree_at 13 (omega arith)
  tree_same (suc (suc (suc (suc (suc (suc (suc (suc (suc (suc (suc (suc (suc (suc zero)))))))))))))) h = tree_at 14 (omega arith)
  tree_same (suc (suc (suc (suc (suc (suc (suc (suc (suc (suc (suc (suc (suc (suc (suc zero))))))))))))))) h = tree_at 15 (omega arith)
  tree_same (suc (suc (suc (suc (suc (suc (suc (suc (suc (suc (suc (suc (suc (suc (suc (suc zero)))))))))))))))) h = tree_at 16 (omega arith)
  tree_same (suc (suc (suc (suc (suc (suc (suc (suc (suc (suc (suc (suc (suc (suc (suc (suc (suc zero))))))))))))))))) h = tree_at 17 (omega arith) ∙ nodes.values_alone
  tree_same (suc (suc (suc (suc (suc (suc (suc (suc (suc (suc (suc (suc (suc (suc (suc (suc (suc (suc zero)))))))))))))))))) h = tree_at 18 (omega arith)
  tree_same (suc (suc (suc (suc (suc (suc (suc (suc (suc (suc (suc (suc (suc (suc (suc (suc (suc (suc (suc zero))))))))))))))))))) h = tree_at 19 (omega arith) ∙ id_values
  tree_same (suc (suc (suc (suc (suc (suc (suc (suc (suc (suc (suc (suc (suc (suc (suc (suc (suc (suc (suc (suc zero)))))))))))))))))))) h = tree_at 20 (omega arith)
  tree_same (suc (suc (suc (suc (suc (suc (suc (suc (suc (suc (suc (suc (suc (suc (suc (suc (suc (suc (suc (suc (suc zero))))))))))))))))))))) h = tree_at 21 (omega arith)
  tree_same (suc (suc (suc (suc (suc (suc (suc (suc (suc (suc (suc (suc (suc (suc (suc (suc (suc (suc (suc (suc (suc (suc zero)))))))))))))))))))))) h = tree_at 22 (omega arith)
  tree_same (suc (suc (suc (suc (suc (suc (suc (suc (suc (suc (suc (suc (suc (suc (suc (suc (suc (suc (suc (suc (suc (suc (suc zero))))))))))))))))))))))) h = tree_at 23 (omega arith)
  tree_same (suc (suc (suc (suc (suc (suc (suc (suc (suc (suc (suc (suc (suc (suc (suc (suc (suc (suc (suc (suc (suc (suc (suc (suc p)))))))))))))))))))))))) h =
      let q = (suc (suc (suc (suc (suc (suc (suc (suc (suc (suc (suc (suc (suc (suc (suc (suc (suc (suc (suc (suc (suc (suc (suc (suc p)))))))))))))))))))))))) in
      tree_short q (omega arith) h ∙ sym (run_short q (omega arith) h)

  tree_is : with_tree tree ≡ run_tree
  tree_is = ext_get_or 0 (with_tree tree) run_tree (tree_length ∙ sym run_length) (λ p h. tree_same p (omega (arith, tree_length)))

  -- ---- the other words, one kind after the other

  module _ (keep : ℕ → Bool) (root_none : keep 0 ≡ false) (ends-none : keep 1 ≡ false) where
    abbrev k : ℕ
    k = flag (keep 2)

    abbrev sized : List ℕ
    sized = set (set run_tree 864 1) 865 3

    abbrev nulled : List ℕ → ℕ → ℕ → List ℕ
    nulled w a b = set (set (set (set (set w 864 1) 865 3) 5 a) 13 b) 21 k

    abbrev worded : List ℕ → List ℕ
    worded l = set l 7 (dictionary_word true l 0)

    abbrev worded_2 : List ℕ → List ℕ
    worded_2 l = set l 15 (dictionary_word true l 1)

    abbrev worded_3 : List ℕ → List ℕ
    worded_3 l = set (set l 23 (dictionary_word true l 2)) 868 0

    abbrev named : List ℕ → List ℕ
    named l = set l 6 (part_word l 0)

    abbrev named_2 : List ℕ → List ℕ
    named_2 l = set l 14 (part_word l 1)

    abbrev named_3 : List ℕ → List ℕ
    named_3 l = set l 22 (part_word l 2)

    abbrev counted : List ℕ → List ℕ
    counted l = set l 866 (part_total l)

    abbrev rest : List ℕ → List ℕ
    rest l = counted (named_3 (named_2 (named (worded_3 (worded_2 (worded l))))))

    staged : plan_anew formats schema target 3 keep true 0 ≡ rest (nulled (with_tree tree) (flag (keep 0)) (flag (keep 1)))
    unfolding plan_anew typed_anew with_total with_parts with_dictionaries with_nulls with_counts filled
    staged = refl

    sized_length : length sized ≡ 872
    sized_length = length-set (set run_tree 864 1) 865 3 ∙ length-set run_tree 864 1 ∙ run_length

    -- runs and run ends keep no nulls
    abbrev kept : List ℕ
    kept = set sized 21 k

    kept_length : length kept ≡ 872
    kept_length = length-set sized 21 k ∙ sized_length

    kept_is : nulled (with_tree tree) (flag (keep 0)) (flag (keep 1)) ≡ kept
    kept_is =
        ap (λ w. nulled w (flag (keep 0)) (flag (keep 1))) tree_is
        ∙ ap (λ z. nulled run_tree (flag z) (flag (keep 1))) root_none
        ∙ ap (λ z. nulled run_tree 0 (flag z)) ends-none
        ∙ ap (λ l. set (set l 13 0) 21 k) (set_none sized 5 0 refl (omega (arith, sized_length)))
        ∙ ap (λ l. set l 21 k) (set_none sized 13 0 refl (omega (arith, sized_length)))

    -- a word that is 0 already
    still : (p v : ℕ) → v ≡ 0 → get_or kept p 0 ≡ 0 → p < 872 → set kept p v ≡ kept
    still p v e g l = ap (set kept p) e ∙ set_none kept p 0 g (omega (arith, kept_length))

    word_1 : dictionary_word true kept 0 ≡ 0
    unfolding dictionary_word
    word_1 = refl

    word_2 : dictionary_word true kept 1 ≡ 0
    unfolding dictionary_word
    word_2 = refl

    word_3 : dictionary_word true kept 2 ≡ 0
    unfolding dictionary_word
    word_3 = refl

    part_1 : part_word kept 0 ≡ 0
    unfolding parts_before validity_parts buffer_parts copied
    part_1 = refl

    part_2 : part_word kept 1 ≡ 0
    unfolding parts_before validity_parts buffer_parts copied
    part_2 = refl

    part_3 : part_word kept 2 ≡ 1 + k
    unfolding parts_before validity_parts buffer_parts copied
    part_3 = go (keep 2)
      where
        go : (b : Bool) → 0 + (0 + 0) + (0 + buffer_count (c1 % 256)) + cond (true && not (eqb (flag b) 0) && ltb (c2 % 256) 21) 1 0 ≡ 1 + flag b
        go true = rw (one_buffer c1 nodes.ends_fixed, code_low c2 nodes.values_fixed) refl
        go false = rw (one_buffer c1 nodes.ends_fixed) refl

    all : part_total (set kept 22 (1 + k)) ≡ 2 + k
    unfolding parts_before validity_parts buffer_parts copied
    all = go (keep 2)
      where
        go : (b : Bool) → 0 + (0 + 0) + (0 + buffer_count (c1 % 256)) + (cond (true && not (eqb (flag b) 0) && ltb (c2 % 256) 21) 1 0 + buffer_count (c2 % 256)) ≡ 2 + flag b
        go true = rw (one_buffer c1 nodes.ends_fixed, one_buffer c2 nodes.values_fixed, code_low c2 nodes.values_fixed) refl
        go false = rw (one_buffer c1 nodes.ends_fixed, one_buffer c2 nodes.values_fixed) refl

    -- THE PLAN OF RUNS
    pub plan_runs : plan_anew formats schema target 3 keep true 0 ≡ run_plan c1 c2 f0 f1 f2 (flag (keep 2))
    plan_runs =
        staged
        ∙ ap rest kept_is
        ∙ ap (λ l. counted (named_3 (named_2 (named (worded_3 (worded_2 l)))))) (still 7 _ word_1 refl (omega arith))
        ∙ ap (λ l. counted (named_3 (named_2 (named (worded_3 l))))) (still 15 _ word_2 refl (omega arith))
        ∙ ap (λ l. counted (named_3 (named_2 (named (set l 868 0))))) (still 23 _ word_3 refl (omega arith))
        ∙ ap (λ l. counted (named_3 (named_2 (named l)))) (still 868 0 refl refl (omega arith))
        ∙ ap (λ l. counted (named_3 (named_2 l))) (still 6 _ part_1 refl (omega arith))
        ∙ ap (λ l. counted (named_3 l)) (still 14 _ part_2 refl (omega arith))
        ∙ ap (λ v. counted (set kept 22 v)) part_3
        ∙ ap (set (set kept 22 (1 + k)) 866) all
