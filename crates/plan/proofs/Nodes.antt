-- A plan over a type tree that passes: the node above a child, who keeps nulls, and what is added to keys and buffer numbers,
-- as the model of the opening has it (model/specs/Transform.antt, `start`). Assumes nothing.
use mathlib.Core.Path.{◌≡◌, refl, sym, ap, ◌∙◌}
use mathlib.Core.Bool.{Bool, true, false, not, ◌&&◌}
use mathlib.Core.List.{List, [], ◌∷◌}
use Prim.Native.Nat.{ℕ, zero, suc, ◌+◌, ◌-◌, ◌≤◌, ◌<◌}
use native.Mathlib.Omega.{arith}
use lib.ListN.{length, take, drop}
use lib.Dec.{leb, ltb, eqb}
use borrow.Author.Tests.{eqb-true, eqb-false, ltb-true, ltb-false, leb-true, ne_eqb}
use Rattle.columnar.specs.Types.{Number, Plain, fixed, string, Ty, t_view}
use Rattle.columnar.specs.Plain.{PlainBody}
use Rattle.columnar.specs.Dictionary.{Dictionary}
use Rattle.schema.specs.formats.Code.{Rule, is, begins, table, look, code_at, is_string, is_view, is_run_end}
use Rattle.schema.specs.formats.Code as formatCode
use Rattle.model.specs.Opening.{keeps, shared, start_of_keys}
use Rattle.model.specs.Primitive.{buffers_before}
use Rattle.schema.specs.Tree as schemaTree
use Rattle.schema.specs.Tree.{dictionary, below, child_at, typed, whole, shape}
use Rattle.schema.proofs.Laws.{below_values}
use Rattle.schema.proofs.Trees.{end_up, end_inside, end_after, child_inside}
use Rattle.schema.proofs.Depth.{nested, child_before}
use Rattle.schema.proofs.Known.{typed_whole, typed_shape}
use Rattle.array_data.specs.Tables.{Tables}
use Rattle.array_data.specs.NodeKinds.{run_end_node, kind_at}
use Rattle.array_data.specs.Typed.{Tree, tables_from, body_of}
use Rattle.array_data.proofs.type_tree.Shaped.{Shaped, of_plain_lem, of_view, of_list, of_lists_lem, of_sparse, of_dense, of_run_lem, of_dictionary, shaped, at_run}
use Rattle.array_data.proofs.type_tree.Lent.{first_child, second_child}
use Rattle.array_data.specs.lent_tables.Lent.{tables}
use Rattle.array_data.proofs.lent_tables.Laws.{and_left, and_right}
use Rattle.plan.specs.dictionaries.Sources.{array_at, of_strings, capped}
use Rattle.plan.proofs.dictionaries.Typed.{column_at, dictionary_at, keeps_typed, shared_typed, start_typed}
use Rattle.array_data.proofs.node_words.Laws.{zeroth, first_word, second_word}
use Rattle.walk.specs.State.{word, code_of, dictionary_of, end_of, keeps_of, base_of}
use Rattle.plan.specs.Plan.{flag, holder, parent_of, asked, is_ends, keep_word, planned}
use Rattle.array_data.specs.Sources.{source_count, first_of, nodes_of}
use Rattle.plan.proofs.Laws.{holds, holds_not}
use Rattle.plan.proofs.Codes.{is_false, no_dictionary, run_not_fixed, view_not_fixed}
use Rattle.plan.proofs.Words.{cond_le, word_is, keep_is, joined_is, base_is}
use Rattle.columnar.specs.Test.{same}
use Rattle.plan.proofs.Bases.{view_word, keys_word, keys_joined, Named, buffers_typed}

-- ---- a code is a byte

abbrev small_rules : ℕ → List Rule → Bool
small_rules k [] = true
small_rules k (is s c ∷ rules) = leb c k && small_rules k rules
small_rules k (begins s c ∷ rules) = leb c k && small_rules k rules

look_small : (k : ℕ) (rules : List Rule) (t : List ℕ) → small_rules k rules ≡ true → look rules t ≤ k
look_small k [] t h = omega arith
look_small k (is s c ∷ rules) t h =
    cond_le (same t s) c (look rules t) k (leb-true c k (and_left (leb c k) (small_rules k rules) h)) (look_small k rules t (and_right (leb c k) (small_rules k rules) h))
look_small k (begins s c ∷ rules) t h =
    cond_le (same (take (length s) t) s) c (look rules t) k (leb-true c k (and_left (leb c k) (small_rules k rules) h)) (look_small k rules t (and_right (leb c k) (small_rules k rules) h))

pub code_small : (s : List ℕ) (at len : ℕ) → code_at s at len ≤ 23
unfolding formatCode.code_of
code_small s at len =
    cond_le (leb (at + len) (length s)) (formatCode.code_of (take len (drop at s))) 0 23 (look_small 23 table (take len (drop at s)) refl) (omega arith)

-- ---- a whole tree: what stands before a child

module _ (schema : List ℕ) (first n : ℕ) where
  end_at_least : (k : ℕ) → k ≤ schemaTree.end_of schema first n k
  unfolding schemaTree.end_of
  end_at_least k = end_up schema first (n - k) 1 k

  child_next : (i c : ℕ) → child_at schema first n i (suc c) ≡ schemaTree.end_of schema first n (child_at schema first n i c)
  unfolding child_at
  child_next i c = refl

  child_up : (i c : ℕ) → suc i ≤ child_at schema first n i c
  unfolding child_at
  child_up i zero = omega arith
  child_up i (suc c) = omega (arith, child_up i c, end_at_least (child_at schema first n i c))

  -- the subtrees of the nodes between a node and its child end before the child
  earlier : (i c j : ℕ) → suc i ≤ j → j < child_at schema first n i c → schemaTree.end_of schema first n j ≤ child_at schema first n i c
  unfolding child_at
  earlier i zero j a h = absurd (omega arith)
  earlier i (suc c) j a h = go (ltb j (child_at schema first n i c)) refl (earlier i c j a)
    where
      k : ℕ
      k = child_at schema first n i c

      go : (b : Bool) → ltb j k ≡ b → (j < k → schemaTree.end_of schema first n j ≤ k) → schemaTree.end_of schema first n j ≤ schemaTree.end_of schema first n k
      go true e f = omega (arith, f (ltb-true j k e), end_at_least k)
      go false e f = nested schema first n j k (ltb-false j k e) h

  module _ (w : whole schema first n ≡ true) where
    -- the node before a child that is not the first has nothing below it
    leaf_before : (i c k : ℕ) → i < n → suc c < below schema first i → suc k ≡ child_at schema first n i (suc c) → below schema first k ≡ 0
    leaf_before i c k l h e = go (eqb (below schema first k) 0) refl
      where
        at : ℕ
        at = child_at schema first n i c

        go : (b : Bool) → eqb (below schema first k) 0 ≡ b → below schema first k ≡ 0
        go true q = eqb-true (below schema first k) 0 q
        go false q =
            let inside = child_inside schema first n w i (suc c) l h in
            let start = child_inside schema first n w i c l (omega arith) in
            let some = eqb-false (below schema first k) 0 q in
            let end = end_after schema first n at start in
            let next = child_next i c in
            let shut = nested schema first n k at (omega arith) (omega arith) in
            let more = child_before schema first n w k 0 (omega arith) (omega arith) in
            let here = first_child [] schema first n k in
            absurd (omega arith)

-- ---- what stands below a run-end node

module _ (formats schema : List ℕ) (first : ℕ) where
  run_kind_lem : (i v : ℕ) → kind_at formats schema first i ≡ run_end_node v → Shaped formats schema first i → (below schema first i ≡ 2) × (below schema first (suc i) ≡ 0)
  run_kind_lem i v r (of_plain_lem (fixed m) e z d) = let q : ◌≡◌ {A = ℕ} 0 1 = cc in absurd (omega arith)
  run_kind_lem i v r (of_plain_lem (string u) e z d) = let q : ◌≡◌ {A = ℕ} 0 1 = cc in absurd (omega arith)
  run_kind_lem i v r (of_view e z) = let q : ◌≡◌ {A = ℕ} 0 1 = cc in absurd (omega arith)
  run_kind_lem i v r (of_list u e z d) = let q : ◌≡◌ {A = ℕ} 0 1 = cc in absurd (omega arith)
  run_kind_lem i v r (of_lists_lem u e z d) = let q : ◌≡◌ {A = ℕ} 0 1 = cc in absurd (omega arith)
  run_kind_lem i v r (of_sparse ids e z d o) = let q : ◌≡◌ {A = ℕ} 0 1 = cc in absurd (omega arith)
  run_kind_lem i v r (of_dense ids e z d o) = let q : ◌≡◌ {A = ℕ} 0 1 = cc in absurd (omega arith)
  run_kind_lem i v r (of_run_lem m e z e1 z1 d) = (z, z1)
  run_kind_lem i v r (of_dictionary m p e z e1 z1 g d) = let q : ◌≡◌ {A = ℕ} 0 1 = cc in absurd (omega arith)

  run_below : (i : ℕ) → shape formats schema first i ≡ true → is_run_end (schemaTree.code_of formats schema first i) ≡ true
      → (below schema first i ≡ 2) × (below schema first (suc i) ≡ 0)
  run_below i s r = run_kind_lem i _ (at_run formats schema first i r) (shaped formats schema first i s)

  run_single : (i : ℕ) → shape formats schema first i ≡ true → is_run_end (schemaTree.code_of formats schema first i) ≡ true → dictionary schema first i ≡ 0
  run_single i s r = no_dictionary formats schema first i s (run_not_fixed (schemaTree.code_of formats schema first i) r)

  -- a node with nothing below it is no run-end node and has no dictionary
  leaf_no_run : (i : ℕ) → shape formats schema first i ≡ true → below schema first i ≡ 0 → is_run_end (schemaTree.code_of formats schema first i) ≡ false
  leaf_no_run i s z = go (is_run_end (schemaTree.code_of formats schema first i)) refl
    where
      go : (b : Bool) → is_run_end (schemaTree.code_of formats schema first i) ≡ b → b ≡ false
      go true e = absurd (omega (arith, (run_below i s e).0))
      go false e = refl

  leaf_single : (i : ℕ) → below schema first i ≡ 0 → dictionary schema first i ≡ 0
  leaf_single i z = go (eqb (dictionary schema first i) 0) refl
    where
      go : (b : Bool) → eqb (dictionary schema first i) 0 ≡ b → dictionary schema first i ≡ 0
      go true e = eqb-true _ 0 e
      go false e = absurd (omega (arith, below_values schema first i _ refl (eqb-false _ 0 e)))

-- ---- the node above, and whether a node keeps nulls

holder_is : (plan : List ℕ) (k i p : ℕ) → i < p → k < end_of plan i → ((j : ℕ) → i < j → j < p → end_of plan j ≤ k) → holder plan p k ≡ i
holder_is plan k i zero l h f = absurd (omega arith)
holder_is plan k i (suc p) l h f = go (eqb i p) refl (λ b. holder_is plan k i p b h (λ j c d. f j c (omega arith)))
  where
    go : (b : Bool) → eqb i p ≡ b → (i < p → holder plan p k ≡ i) → holder plan (suc p) k ≡ i
    go true e g =
        let q : p ≡ i = sym (eqb-true i p e) in
        holds plan k p (omega (arith, ap (end_of plan) q)) ∙ q
    go false e g =
        let d = eqb-false i p e in
        holds_not plan k p (f p (omega arith) (omega arith)) ∙ g (omega arith)

module _ (x : Tables) (sources : List ℕ) (m : ℕ) (keep : Bool) (plan : List ℕ) where
  root_word : keep_word x sources m keep plan 0 ≡ flag (keeps keep m (array_at x sources 0))
  unfolding keep_word asked is_ends
  root_word = refl

  module _ (k j : ℕ) (q : k ≡ suc j) where
    ends_word : is_run_end (code_of plan j) ≡ true → keep_word x sources m keep plan k ≡ 0
    unfolding keep_word is_ends
    ends_word r = rw (q, r)

    values_word : is_run_end (code_of plan j) ≡ false → (dictionary_of plan j ≡ 0 → ⊥) → keep_word x sources m keep plan k ≡ flag (keeps false m (array_at x sources k))
    unfolding keep_word is_ends asked
    values_word r d = rw (q, r, ne_eqb (dictionary_of plan j) 0 d)

    child_word : (i : ℕ) → is_run_end (code_of plan j) ≡ false → dictionary_of plan j ≡ 0 → parent_of plan k ≡ i
        → keep_word x sources m keep plan k ≡ flag (keeps (not (eqb (keeps_of plan i) 0)) m (array_at x sources k))
    unfolding keep_word is_ends asked
    child_word i r d p =
        let e : parent_of plan (suc j) ≡ i = sym (ap (parent_of plan) q) ∙ p in
        rw (q, r, d, e)

-- ---- THE PLANNED STATE OF A TREE THAT PASSES

module _ (formats schema : List ℕ) (y : Tables) (sources : List ℕ) (keep gaps : Bool) (few : source_count sources ≤ 16) (small : nodes_of sources 0 ≤ 32)
    (t : typed formats schema (first_of sources 0) (nodes_of sources 0) ≡ true) where
  abbrev m : ℕ
  m = source_count sources

  abbrev n : ℕ
  n = nodes_of sources 0

  abbrev first : ℕ
  first = first_of sources 0

  abbrev x : Tables
  x = tables y.lengths y.places y.body

  abbrev plan : List ℕ
  plan = planned formats schema x sources keep gaps

  -- whether node i keeps nulls
  abbrev pub kept_at : ℕ → Bool
  kept_at i = not (eqb (keeps_of plan i) 0)

  byte : (i : ℕ) → schemaTree.code_of formats schema first i ≤ 23
  unfolding schemaTree.code_of
  byte i = code_small formats _ _

  pub code_is : (i : ℕ) → i < n → code_of plan i ≡ schemaTree.code_of formats schema first i
  code_is i l =
      let e = word_is formats schema x sources keep gaps few small i 0 (omega arith) (omega arith) ∙ zeroth formats schema first n i 0 l refl in
      omega (arith, e, byte i)

  pub dictionary_is : (i : ℕ) → i < n → dictionary_of plan i ≡ dictionary schema first i
  dictionary_is i l = word_is formats schema x sources keep gaps few small i 1 (omega arith) (omega arith) ∙ first_word formats schema first n i 1 l refl

  pub end_is : (i : ℕ) → i < n → end_of plan i ≡ schemaTree.end_of schema first n i
  end_is i l =
      let e = word_is formats schema x sources keep gaps few small i 2 (omega arith) (omega arith) ∙ second_word formats schema first n i 2 l refl in
      omega (arith, e, end_inside schema first n i (omega arith))

  abbrev child : ℕ → ℕ → ℕ
  child i c = child_at schema first n i c

  w : whole schema first n ≡ true
  w = typed_whole formats schema first n t

  -- THE NODE ABOVE a child
  pub parent_is : (i c : ℕ) → i < n → c < below schema first i → parent_of plan (child i c) ≡ i
  parent_is i c l h =
      let within = child_inside schema first n w i c l h in
      holder_is plan (child i c) i (child i c) (omega (arith, child_up schema first n i c)) (omega (arith, end_is i l, child_before schema first n w i c l h))
      (λ j a b. omega (arith, end_is j (omega arith), earlier schema first n i c j a b))

  -- the node before a child is no run-end node and has no dictionary, unless it is the node above
  before_run : (i c k : ℕ) → i < n → c < below schema first i → suc k ≡ child i c → (c ≡ 0 → is_run_end (code_of plan i) ≡ false) → is_run_end (code_of plan k) ≡ false
  before_run i zero k l h e r =
      let q : k ≡ i = omega (arith, first_child formats schema first n i) in
      ap (λ a. is_run_end (code_of plan a)) q ∙ r refl
  before_run i (suc c) k l h e r =
      let low : k < n = omega (arith, child_inside schema first n w i (suc c) l h) in
      ap is_run_end (code_is k low) ∙ leaf_no_run formats schema first k (typed_shape formats schema first n t k low) (leaf_before schema first n w i c k l h e)

  before_single : (i c k : ℕ) → i < n → c < below schema first i → suc k ≡ child i c → dictionary_of plan i ≡ 0 → dictionary_of plan k ≡ 0
  before_single i zero k l h e d =
      let q : k ≡ i = omega (arith, first_child formats schema first n i) in
      ap (dictionary_of plan) q ∙ d
  before_single i (suc c) k l h e d =
      let low : k < n = omega (arith, child_inside schema first n w i (suc c) l h) in
      dictionary_is k low ∙ leaf_single formats schema first k (leaf_before schema first n w i c k l h e)

  keeps_child : (i c : ℕ) → i < n → c < below schema first i → dictionary_of plan i ≡ 0 → (c ≡ 0 → is_run_end (code_of plan i) ≡ false)
      → keeps_of plan (child i c) ≡ flag (keeps (kept_at i) m (array_at x sources (child i c)))
  keeps_child i c l h d r =
      let k = child i c - 1 in
      let e : suc k ≡ child i c = omega (arith, child_up schema first n i c) in
      keep_is formats schema x sources keep gaps few small (child i c) (child_inside schema first n w i c l h)
      ∙ child_word x sources m keep plan (child i c) k (sym e) i (before_run i c k l h e r) (before_single i c k l h e d) (parent_is i c l h)

  -- a node with a dictionary has values behind it, and is no run-end node
  values_inside : (i : ℕ) → i < n → (dictionary_of plan i ≡ 0 → ⊥) → suc i < n
  values_inside i l d =
      let some = below_values schema first i _ refl (λ e. d (dictionary_is i l ∙ e)) in
      omega (arith, first_child formats schema first n i, child_inside schema first n w i 0 l (omega arith))

  keys_no_run : (i : ℕ) → i < n → (dictionary_of plan i ≡ 0 → ⊥) → is_run_end (code_of plan i) ≡ false
  keys_no_run i l d =
      is_false (is_run_end (code_of plan i))
      (λ e. d (dictionary_is i l ∙ run_single formats schema first i (typed_shape formats schema first n t i l) (sym (ap is_run_end (code_is i l)) ∙ e)))

  keys_no_view : (i : ℕ) → i < n → (dictionary_of plan i ≡ 0 → ⊥) → is_view (code_of plan i) ≡ false
  keys_no_view i l d =
      is_false (is_view (code_of plan i))
      (λ e.
      d
      (dictionary_is i l
      ∙ no_dictionary formats schema first i (typed_shape formats schema first n t i l)
      (view_not_fixed (schemaTree.code_of formats schema first i) (sym (ap is_view (code_is i l)) ∙ e))))

  -- ---- word 5, where u is the type of the node's columns

  module _ (tree : Tree) (u : Ty) where
    -- "if the caller says so or any source has a null at that node"
    pub root_keeps : 0 < n → keeps_of plan 0 ≡ flag (keeps keep m (column_at tree y sources u 0))
    root_keeps l =
        keep_is formats schema x sources keep gaps few small 0 l ∙ root_word x sources m keep plan ∙ sym (ap flag (keeps_typed tree y sources keep u 0 m))

    -- "this passes to union, list-view .. children"
    pub child_keeps : (i c : ℕ) → i < n → c < below schema first i → dictionary_of plan i ≡ 0 → is_run_end (code_of plan i) ≡ false
        → keeps_of plan (child i c) ≡ flag (keeps (kept_at i) m (column_at tree y sources u (child i c)))
    child_keeps i c l h d r = keeps_child i c l h d (λ z. r) ∙ sym (ap flag (keeps_typed tree y sources (kept_at i) u (child i c) m))

    -- ".. and run-value children"
    pub run_values_keep : (i : ℕ) → i < n → is_run_end (code_of plan i) ≡ true
        → keeps_of plan (suc (suc i)) ≡ flag (keeps (kept_at i) m (column_at tree y sources u (suc (suc i))))
    run_values_keep i l r =
        let s = typed_shape formats schema first n t i l in
        let run : is_run_end (schemaTree.code_of formats schema first i) ≡ true = sym (ap is_run_end (code_is i l)) ∙ r in
        let two = run_below formats schema first i s run in
        let next : suc i < n = omega (arith, first_child formats schema first n i, child_inside schema first n w i 0 l (omega arith)) in
        let single : dictionary_of plan i ≡ 0 = dictionary_is i l ∙ run_single formats schema first i s run in
        let e = second_child formats schema first n i next two.1 in
        sym (ap (keeps_of plan) e) ∙ keeps_child i 1 l (omega arith) single (λ z. absurd (omega arith))
        ∙ ap (λ k. flag (keeps (kept_at i) m (array_at x sources k))) e ∙ sym (ap flag (keeps_typed tree y sources (kept_at i) u (suc (suc i)) m))

    -- "not to .. dictionaries"
    pub values_keep : (i : ℕ) → i < n → (dictionary_of plan i ≡ 0 → ⊥) → keeps_of plan (suc i) ≡ flag (keeps false m (column_at tree y sources u (suc i)))
    values_keep i l d =
        keep_is formats schema x sources keep gaps few small (suc i) (values_inside i l d)
        ∙ values_word x sources m keep plan (suc i) i refl (keys_no_run i l d) d
        ∙ sym (ap flag (keeps_typed tree y sources false u (suc i) m))

  -- "not to run ends"
  pub ends_keep : (i : ℕ) → i < n → is_run_end (code_of plan i) ≡ true → keeps_of plan (suc i) ≡ 0
  ends_keep i l r =
      let run : is_run_end (schemaTree.code_of formats schema first i) ≡ true = sym (ap is_run_end (code_is i l)) ∙ r in
      let two = run_below formats schema first i (typed_shape formats schema first n t i l) run in
      let next : suc i < n = omega (arith, first_child formats schema first n i, child_inside schema first n w i 0 l (omega arith)) in
      keep_is formats schema x sources keep gaps few small (suc i) next ∙ ends_word x sources m keep plan (suc i) i refl r

  -- ---- bases, and word 7

  module _ (tree : Tree) where
    -- "A view's buffer index rises by the number of data buffers in earlier sources"
    pub view_base : (s i : ℕ) → s < m → i < 32 → is_view (code_of plan i) ≡ true → Named tree y sources i s
        → base_of plan s i ≡ length (buffers_before (λ j. body_of tree (tables_from y (first_of sources j)) t_view i) s)
    view_base s i l h v g = base_is formats schema x sources keep gaps few small s i l h ∙ view_word x sources m plan s i v ∙ buffers_typed tree y sources i s g

    module _ (k : Number) (p : Plain) (i : ℕ) (l : i < n) (d : dictionary_of plan i ≡ 0 → ⊥) (q : is_string (code_of plan (suc i)) ≡ of_strings p) where
      abbrev dictionaries : ℕ → Dictionary (PlainBody p)
      dictionaries = dictionary_at tree y sources k p i

      -- "Only if all neighbouring sources share is source 0's dictionary kept; else all are joined"
      pub dictionary_joined : word plan i 7 ≡ flag (not (shared m dictionaries))
      dictionary_joined =
          joined_is formats schema x sources keep gaps few small i l ∙ keys_joined x sources m plan i (of_strings p) d q
          ∙ sym (ap (λ b. flag (not b)) (shared_typed tree y sources k p i m))

      -- "start is 0 if shared, else the entries of earlier sources"
      pub dictionary_base : (s : ℕ) → s < m → base_of plan s i ≡ capped (start_of_keys m dictionaries s)
      dictionary_base s h =
          base_is formats schema x sources keep gaps few small s i h (omega arith) ∙ keys_word x sources m plan s i (of_strings p) (keys_no_view i l d) d q
          ∙ sym (ap capped (start_typed tree y sources k p i m s))
