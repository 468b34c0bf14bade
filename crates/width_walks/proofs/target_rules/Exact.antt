-- A target passes exactly where it stands for a type of other widths and is alike in what types do not show. Assumes nothing.
use mathlib.Core.Path.{◌≡◌, refl, sym, ap, ap₂, subst, ◌∙◌}
use mathlib.Core.Bool.{Bool, true, cond}
use mathlib.Core.Logic.{◌⊎◌, inl, inr}
use mathlib.Core.List.Memᴰ
use mathlib.Core.List.{List, [], ◌∷◌, Memᴰ}
use Prim.Native.Nat.{ℕ, zero, suc, ◌+◌, ◌-◌, ◌%◌, ◌≤◌, ◌<◌}
use native.Mathlib.Omega.{arith}
use lib.Dec.{eqb}
use Rattle.columnar.specs.Types.{Plain, Ty}
use Rattle.columnar.proofs.Test.{member_agrees}
use Rattle.schema.specs.formats.Code.{between, is_union}
use Rattle.schema.specs.Tree.{dictionary, below, end_from, end_of, code_of, ids_of, ceilings, typed}
use Rattle.schema.proofs.Trees.{end_inside}
use Rattle.schema.proofs.Known.{typed_shape}
use Rattle.array_data.specs.Tables.{Tables}
use Rattle.array_data.specs.NodeKinds.{NodeKind}
use Rattle.array_data.specs.Typed.{Tree, child_node, node_of, field_of, all_of, MeansPlain, Means, nodes, kind_in, subtree_end}
use Rattle.array_data.specs.type_tree.Lent.{tree_of, type_of}
use Rattle.array_data.proofs.type_tree.Lent.{means}
use Rattle.array_data.proofs.type_tree.Covered.{covered}
use Rattle.anew.specs.widths.Widths.{PlainWidths, s_fixed, s_string, Widths, s_plain, s_view, s_list_view, s_list, s_sparse, s_dense, s_run_end, s_dictionary}
use Rattle.width_walks.specs.target_rules.Target.{ends_at, is_target, CodeWidths, same_code, strings, list_views, plain_lists, keys, run_ends_lem, NodeWidths, SameLetters, Alike}
use Rattle.width_walks.proofs.target_rules.Codes.{range, ends_range}
use Rattle.width_walks.proofs.target_rules.Inverse.{same_number, ReadsAs, reads_at}
use Rattle.width_walks.proofs.target_rules.Rules.{target_is, is_target_lem, target_test}

-- a member of one list after another is one of some list's
all_out : (f : ℕ → List ℕ) (ids : List ℕ) (j : ℕ) (Q : Type 0) → ((c : ℕ) → Memᴰ c ids → Memᴰ j (f c) → Q) → Memᴰ j (all_of f ids) → Q
all_out f [] j Q h q = absurd (Memᴰ.not-nil q)
all_out f (c ∷ cs) j Q h q = go (Memᴰ.append_cases (f c) q) (all_out f cs j Q (λ d m. h d (Memᴰ.tail m)))
  where
    go : Memᴰ j (f c) ⊎ Memᴰ j (all_of f cs) → (Memᴰ j (all_of f cs) → Q) → Q
    go (inl m) k = h c (Memᴰ.head refl) m
    go (inr m) k = k m

module _ (formats schema : List ℕ) (first first' n : ℕ) (g : Alike formats schema first n first' n) (t : typed formats schema first n ≡ true) where
  abbrev here : Tree
  here = tree_of formats schema first n

  abbrev there : Tree
  there = tree_of formats schema first' n

  abbrev code : ℕ → ℕ
  code i = code_of formats schema first i

  abbrev code' : ℕ → ℕ
  code' i = code_of formats schema first' i

  -- what is owed of a node
  abbrev Good : ℕ → Type 0
  Good i =
      CodeWidths (eqb (dictionary schema first i) 1) (ends_at formats schema first i) (code i) (code' i)
      × (is_union (code i) ≡ true → ids_of formats schema first i ≡ ids_of formats schema first' i)

  read : (i : ℕ) {k : NodeKind} → i < n → kind_in here i ≡ k → ReadsAs formats schema first i k
  read i l e = subst (ReadsAs formats schema first i) e (reads_at formats schema first i (typed_shape formats schema first n t i l))

  read' : (i : ℕ) {k : NodeKind} → i < n → kind_in there i ≡ k → ReadsAs formats schema first' i k
  read' i l e = subst (ReadsAs formats schema first' i) e (reads_at formats schema first' i (typed_shape formats schema first' n g.of_type i l))

  no_union : {A : Type 0} (a b c : ℕ) → between a b c ≡ true → b < 21 → is_union c ≡ true → A
  no_union a b c h l u = absurd (omega (arith, (range a b c h).1, (range 21 22 c u).0))

  -- ---- one node

  good_plain : {p p' : Plain} → PlainWidths p p' → (i : ℕ) → MeansPlain here p i → MeansPlain there p' i → Good i
  good_plain (s_fixed m) i h h' =
      let a = read i h.0 h.1 in
      let b = read' i h'.0 h'.1 in
      (same_code (same_number (code i) (code' i) m a.0 a.1 b.0 b.1), no_union 1 10 (code i) a.0 (omega arith))
  good_plain (s_string w w') i h h' =
      let a = read i h.0 h.1 in
      let b = read' i h'.0 h'.1 in
      (strings a b ((g.letters i h.0).texts a b), no_union 11 14 (code i) a (omega arith))

  -- ---- places

  ends_same : (f p i : ℕ) → i + f ≤ n → end_from schema first f p i ≡ end_from schema first' f p i
  unfolding end_from below
  ends_same zero p i l = refl
  ends_same (suc f) zero i l = refl
  ends_same (suc f) (suc p) i l =
      ap₂ (λ c d. end_from schema first f (p + (c + cond (eqb d 0) 0 1)) (suc i)) (g.same_children i (omega arith)) (g.same_dictionary i (omega arith))
      ∙ ends_same f (p + below schema first' i) (suc i) (omega arith)

  end_same : (i : ℕ) → i ≤ n → end_of schema first n i ≡ end_of schema first' n i
  unfolding end_of
  end_same i l = ends_same (n - i) 1 i (omega arith)

  child_both : (i j : ℕ) → i < n → (child_node here i j ≡ child_node there i j) × (child_node here i j ≤ n)
  child_both i zero l = (refl, omega arith)
  child_both i (suc j) l =
      let p = child_both i j l in
      (end_same (child_node here i j) p.1 ∙ ap (subtree_end there) p.0, end_inside schema first n (child_node here i j) p.1)

  -- ---- all nodes of a type

  module _ (x : Tables) where
    exact_at : {u u' : Ty} (d : Widths u u') (i : ℕ) → Means here u i → Means there u' i → (j : ℕ) → Memᴰ j (nodes here x u i) → Good j
    unfolding ends_at
    exact_at (s_plain p p' d) i m m' j (Memᴰ.head e) = subst Good (sym e) (good_plain d i m m')
    exact_at (s_plain p p' d) i m m' j (Memᴰ.tail q) = absurd (Memᴰ.not-nil q)
    exact_at s_view i m m' j (Memᴰ.head e) =
        let a = read i m.0 m.1 in
        let b = read' i m'.0 m'.1 in
        subst Good (sym e) (same_code ((g.letters i m.0).views a b), no_union 15 16 (code i) a (omega arith))
    exact_at s_view i m m' j (Memᴰ.tail q) = absurd (Memᴰ.not-nil q)
    exact_at (s_list_view w w' u u' d) i m m' j (Memᴰ.head e) =
        let a = read i m.0.0 m.0.1 in
        subst Good (sym e) (list_views a (read' i m'.0.0 m'.0.1), no_union 17 18 (code i) a (omega arith))
    exact_at (s_list_view w w' u u' d) i m m' j (Memᴰ.tail q) = exact_at d (suc i) m.1 m'.1 j q
    exact_at (s_list w w' u u' d) i m m' j (Memᴰ.head e) =
        let a = read i m.0.0 m.0.1 in
        subst Good (sym e) (plain_lists a (read' i m'.0.0 m'.0.1), no_union 19 20 (code i) a (omega arith))
    exact_at (s_list w w' u u' d) i m m' j (Memᴰ.tail q) = exact_at d (suc i) m.1 m'.1 j q
    exact_at (s_sparse ids nullable nullable' f f' o d) i m m' j (Memᴰ.head e) =
        let a = read i m.0.0 m.0.1 in
        let b = read' i m'.0.0 m'.0.1 in
        subst Good (sym e) (same_code (a.0 ∙ sym b.0), λ u. a.1 ∙ sym b.1)
    exact_at (s_sparse ids nullable nullable' f f' o d) i m m' j (Memᴰ.tail q) =
        all_out (λ c. nodes here x (f c) (node_of here i ids c)) ids j (Good j)
        (λ c k r. exact_at (d c ((member_agrees c ids).complete k)) (node_of here i ids c) (m.1 c k).1
        (subst (Means there (f' c)) (sym (child_both i (field_of ids c) m.0.0).0) (m'.1 c k).1) j r)
        q
    exact_at (s_dense ids nullable nullable' f f' o d) i m m' j (Memᴰ.head e) =
        let a = read i m.0.0 m.0.1 in
        let b = read' i m'.0.0 m'.0.1 in
        subst Good (sym e) (same_code (a.0 ∙ sym b.0), λ u. a.1 ∙ sym b.1)
    exact_at (s_dense ids nullable nullable' f f' o d) i m m' j (Memᴰ.tail q) =
        all_out (λ c. nodes here x (f c) (node_of here i ids c)) ids j (Good j)
        (λ c k r. exact_at (d c ((member_agrees c ids).complete k)) (node_of here i ids c) (m.1 c k).1
        (subst (Means there (f' c)) (sym (child_both i (field_of ids c) m.0.0).0) (m'.1 c k).1) j r)
        q
    exact_at (s_run_end w w' u u' d) i m m' j (Memᴰ.head e) =
        let a = read i m.0.0 m.0.1 in
        let b = read' i m'.0.0 m'.0.1 in
        let r = range 23 23 (code i) a.0 in
        let r' = range 23 23 (code' i) b.0 in
        subst Good (sym e) (same_code (omega arith), λ u. absurd (omega (arith, (range 21 22 (code i) u).1)))
    exact_at (s_run_end w w' u u' d) i m m' j (Memᴰ.tail (Memᴰ.head e)) =
        let a = read i m.0.0 m.0.1 in
        let b = read' i m'.0.0 m'.0.1 in
        subst Good (sym e) (run_ends_lem a.0 a.1 b.1, λ u. absurd (omega (arith, (ends_range (code (suc i)) a.1).1, (range 21 22 (code (suc i)) u).0)))
    exact_at (s_run_end w w' u u' d) i m m' j (Memᴰ.tail (Memᴰ.tail q)) = exact_at d (suc (suc i)) m.2 m'.2 j q
    exact_at (s_dictionary k k' p p' z z' d) i m m' j (Memᴰ.head e) =
        let a = read i m.0.0 m.0.1 in
        let b = read' i m'.0.0 m'.0.1 in
        subst Good (sym e) (keys a.1 a.0 b.0, no_union 1 8 (code i) a.0 (omega arith))
    exact_at (s_dictionary k k' p p' z z' d) i m m' j (Memᴰ.tail (Memᴰ.head e)) = subst Good (sym e) (good_plain d (suc i) m.1 m'.1)
    exact_at (s_dictionary k k' p p' z z' d) i m m' j (Memᴰ.tail (Memᴰ.tail q)) = absurd (Memᴰ.not-nil q)

  pub nodes_exact : Tables → ceilings formats schema first n ≡ true → Widths (type_of formats schema first n) (type_of formats schema first' n)
      → (i : ℕ) → i < n → NodeWidths formats schema first first' i
  nodes_exact x c d i l =
      let q = exact_at x d 0 (means formats schema first n t c) (means formats schema first' n g.of_type g.low) i (covered formats schema first n x t c i l) in
      record {
        code_widths = q.0;
        same_ids_lem = q.1;
        same_children = g.same_children i l;
        same_dictionary = g.same_dictionary i l;
        same_flag_lem = g.same_flag_lem i l;
      }

no_tables : Tables
no_tables = record { lengths = []; places = []; buffers = []; body = [] }

module _ (formats schema : List ℕ) (first n first' n' : ℕ) (t : typed formats schema first n ≡ true) (c : ceilings formats schema first n ≡ true) where
  -- A TARGET OF OTHER WIDTHS PASSES where it is alike in the rest
  pub exact : Alike formats schema first n first' n' → Widths (type_of formats schema first n) (type_of formats schema first' n')
      → is_target formats schema first n first' n' ≡ true
  exact g d = go n' g.same_size g d
    where
      go : (m : ℕ) → n ≡ m → Alike formats schema first n first' m → Widths (type_of formats schema first n) (type_of formats schema first' m)
          → is_target formats schema first n first' m ≡ true
      go m e g d =
          subst (λ k. Alike formats schema first n first' k → Widths (type_of formats schema first n) (type_of formats schema first' k) → is_target formats schema first n first' k ≡ true) e
          (λ g d. is_target_lem formats schema first n first' n
          (record { same_size = refl; low = g.low; of_type = g.of_type; nodes = nodes_exact formats schema first first' n g t no_tables c d }))
          g d

  letters_of : {k e : Bool} {a b : ℕ} → CodeWidths k e a b → SameLetters a b
  letters_of (same_code h) = record { texts = λ s s'. ap (λ x. x % 2) h; views = λ v v'. h }
  letters_of {a = a} (strings h h' q) = record { texts = λ s s'. q; views = λ v v'. absurd (omega (arith, (range 11 14 a h).1, (range 15 16 a v).0)) }
  letters_of {a = a} (list_views h h') =
      record { texts = λ s s'. absurd (omega (arith, (range 17 18 a h).0, (range 11 14 a s).1)); views = λ v v'. absurd (omega (arith, (range 17 18 a h).0, (range 15 16 a v).1)) }
  letters_of {a = a} (plain_lists h h') =
      record { texts = λ s s'. absurd (omega (arith, (range 19 20 a h).0, (range 11 14 a s).1)); views = λ v v'. absurd (omega (arith, (range 19 20 a h).0, (range 15 16 a v).1)) }
  letters_of {a = a} (keys k h h') =
      record { texts = λ s s'. absurd (omega (arith, (range 1 8 a h).1, (range 11 14 a s).0)); views = λ v v'. absurd (omega (arith, (range 1 8 a h).1, (range 15 16 a v).0)) }
  letters_of {a = a} (run_ends_lem k h h') =
      record { texts = λ s s'. absurd (omega (arith, (ends_range a h).1, (range 11 14 a s).0)); views = λ v v'. absurd (omega (arith, (ends_range a h).1, (range 15 16 a v).0)) }

  -- .. AND ONE THAT PASSES IS BOTH
  pub passes : is_target formats schema first n first' n' ≡ true → Alike formats schema first n first' n' × Widths (type_of formats schema first n) (type_of formats schema first' n')
  passes h =
      let g = target_is formats schema first n first' n' h in (
        record {
          same_size = g.same_size;
          low = g.low;
          of_type = g.of_type;
          same_children = λ i l. (g.nodes i l).same_children;
          same_dictionary = λ i l. (g.nodes i l).same_dictionary;
          same_flag_lem = λ i l. (g.nodes i l).same_flag_lem;
          letters = λ i l. letters_of (g.nodes i l).code_widths;
        },
        target_test formats schema first n first' n' t c h,
      )
