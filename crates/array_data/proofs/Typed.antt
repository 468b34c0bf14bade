-- Every node obeys its rule exactly where the column that the tables describe obeys the source rules. Assumes nothing.
use mathlib.Core.Path.{◌≡◌, refl, sym, subst}
use mathlib.Core.Logic.{◌⊎◌, inl, inr}
use mathlib.Core.Bool.{Bool, true, false, ◌&&◌}
use mathlib.Core.List.Memᴰ
use mathlib.Core.List.{List, [], ◌∷◌, Memᴰ}
use Prim.Native.Nat.{ℕ, suc, ◌+◌, ◌*◌, ◌<◌}
use lib.ListN.{length, get_or}
use lib.Dec.{T, leb, ltb, eqb}
use Rattle.columnar.specs.Types.{Number, width, half, limit, Plain, fixed, string, Ty, t_plain, t_view, t_list_view, t_list, t_sparse, t_dense, t_run_end, t_dictionary}
use Rattle.columnar.specs.Reading.{Source}
use Rattle.columnar.specs.Test.{every, each, member, only_if, mask_test, array_test, plain_test, view_test, entry_test, offsets_rule, ends_test, test}
use Rattle.columnar.specs.RunEnd.{start_of, end_of}
use Rattle.columnar.specs.Array.{item, ok}
use Rattle.columnar.proofs.Test.{test_sound, every_out, every_in}
use Rattle.array_data.specs.Tables.{Tables, length_of, offset_of, valid_of, first_buffer, second_buffer, data_buffers, array_with, held, valid_in}
use Rattle.array_data.specs.Rules.{one_in, two_in, buffers_in}
use Rattle.array_data.proofs.type_tree.ByKind.{placed_as, placed_out}
use Rattle.array_data.specs.NodeKinds.{NodeKind, fixed_node, string_node, view_node, list_view_node, list_node, sparse_node, dense_node, run_end_node, dictionary_node}
use Rattle.array_data.specs.Typed.{Tree, node_of, all_of, Is, MeansPlain, MeansEnds, Means, plain_body, body_of, column_of, kind_rule, node_rule, source_rule, placed, nodes}

and_in : (a b : Bool) → T a → T b → T (a && b)
and_in true b p q = q
and_in false b p q = p

and_one : (a b : Bool) → T (a && b) → T a
and_one true b p = tt
and_one false b p = p

and_two : (a b : Bool) → T (a && b) → T b
and_two true b p = p
and_two false b p = absurd p

each_in : (p : ℕ → Bool) (ids : List ℕ) → ((c : ℕ) → Memᴰ c ids → T (p c)) → T (each p ids)
each_in p [] h = tt
each_in p (c ∷ cs) h = and_in (p c) (each p cs) (h c (Memᴰ.head refl)) (each_in p cs (λ d q. h d (Memᴰ.tail q)))

-- a test whose last part was taken for granted
lastly : (m s g k : Bool) → T (m && (s && g)) → T k → T (m && (s && k))
lastly true true g k p q = q
lastly true false g k p q = p
lastly false s g k p q = p

-- .. and taken for granted again
firstly : (m s g k : Bool) → T (m && (s && k)) → T g → T (m && (s && g))
firstly true true g k p q = q
firstly true false g k p q = p
firstly false s g k p q = p

kid_of : (m s k : Bool) → T (m && (s && k)) → T k
kid_of true true k p = p
kid_of true false k p = absurd p
kid_of false s k p = absurd p

first_of_three : (a b c : Bool) → T (a && b && c) → T a
first_of_three a b c p = and_one a b (and_one (a && b) c p)

rows_of : (m s k : Bool) → T (m && (s && k)) → T s
rows_of true true k p = tt
rows_of true false k p = p
rows_of false s k p = absurd p

each_out : (p : ℕ → Bool) (ids : List ℕ) → T (each p ids) → (c : ℕ) → Memᴰ c ids → T (p c)
each_out p (d ∷ ds) h c (Memᴰ.head e) = subst (λ z. T (p z)) (sym e) (and_one (p d) (each p ds) h)
each_out p (d ∷ ds) h c (Memᴰ.tail q) = each_out p ds (and_two (p d) (each p ds) h) c q
each_out p [] h c x'' = elim x'' [ ]

true_each : (ids : List ℕ) → T (each (λ c. true) ids)
true_each [] = tt
true_each (c ∷ cs) = true_each cs

-- a member of one list after another is one of some list's
all_out : (f : ℕ → List ℕ) (ids : List ℕ) (j : ℕ) (Q : Type 0) → ((c : ℕ) → Memᴰ c ids → Memᴰ j (f c) → Q) → Memᴰ j (all_of f ids) → Q
all_out f [] j Q h q = absurd (Memᴰ.not-nil q)
all_out f (c ∷ cs) j Q h q = go (Memᴰ.append_cases (f c) q) (all_out f cs j Q (λ d m. h d (Memᴰ.tail m)))
  where
    go : Memᴰ j (f c) ⊎ Memᴰ j (all_of f cs) → (Memᴰ j (all_of f cs) → Q) → Q
    go (inl m) k = h c (Memᴰ.head refl) m
    go (inr m) k = k m

-- ---- the parts of each kind's test: the validity, the rows, the children
module _ (t : Tree) (x : Tables) where
  abbrev mask : Bool → ℕ → Bool
  mask may i = mask_test may (valid_of x i) (offset_of x i + length_of x i)

  abbrev list_rows : ℕ → Ty → ℕ → Bool
  list_rows w u i =
      let b = body_of t x (t_list_view w u) i in
      leb ((offset_of x i + length_of x i) * w) (length b.offsets)
      && leb ((offset_of x i + length_of x i) * w) (length b.sizes)
      && every (λ j. entry_test w b (offset_of x i + j)) (length_of x i)

  abbrev stretch_rows : ℕ → ℕ → Bool
  stretch_rows w i = offsets_rule w (first_buffer x i) (length_of x (suc i)) (offset_of x i) (length_of x i)

  abbrev sparse_rows : List ℕ → ℕ → Bool
  sparse_rows ids i =
      leb (offset_of x i + length_of x i) (length (first_buffer x i))
      && every (λ j. member (get_or (first_buffer x i) (offset_of x i + j) 0) ids) (length_of x i)
      && each (λ c. leb (offset_of x i + length_of x i) (length_of x (node_of t i ids c))) ids

  abbrev dense_rows : List ℕ → ℕ → Bool
  dense_rows ids i =
      leb (offset_of x i + length_of x i) (length (first_buffer x i))
      && leb ((offset_of x i + length_of x i) * 4) (length (second_buffer x i))
      && every (λ j. member (get_or (first_buffer x i) (offset_of x i + j) 0) ids) (length_of x i)
      && every (λ j. ltb (item 4 (second_buffer x i) (offset_of x i + j)) (half 4)) (length_of x i)
      && every (λ j. ltb (item 4 (second_buffer x i) (offset_of x i + j)) (length_of x (node_of t i ids (get_or (first_buffer x i) (offset_of x i + j) 0)))) (length_of x i)

  abbrev kids_test : List ℕ → (ℕ → Ty) → ℕ → Bool
  kids_test ids f i = each (λ c. test (f c) (column_of t x (f c) (node_of t i ids c))) ids

  abbrev run_rows : ℕ → ℕ → Bool
  run_rows w i =
      let e = array_with x (first_buffer x (suc i)) (suc i) in
      ends_test w e && leb (offset_of x i + length_of x i) (start_of (end_of w e) e.len) && eqb (length_of x (suc (suc i))) e.len

  abbrev key_rows : Number → ℕ → Bool
  key_rows k i =
      leb ((offset_of x i + length_of x i) * width k) (length (first_buffer x i))
      && every (λ j. only_if (ok (valid_of x i) (offset_of x i + j)) (ltb (item (width k) (first_buffer x i) (offset_of x i + j)) (limit k))) (length_of x i)
      && every (λ j. only_if (ok (valid_of x i) (offset_of x i + j)) (ltb (item (width k) (first_buffer x i) (offset_of x i + j)) (length_of x (suc i)))) (length_of x i)

  abbrev plain_here : Plain → ℕ → Bool
  plain_here p i = array_test true (plain_test p) (array_with x (plain_body t x p i) i)

  abbrev view_here : ℕ → Bool
  view_here i = array_test true view_test (array_with x (record { views = first_buffer x i; buffers = data_buffers x i }) i)

  ends_hold : (w i : ℕ) → T (ends_test w (array_with x (first_buffer x i) i)) → T (mask true i && leb ((offset_of x i + length_of x i) * w) (length (first_buffer x i)))
  ends_hold w i e =
      let a = array_with x (first_buffer x i) i in
      let n = length_of x i in
      let l = mask true i && leb ((offset_of x i + length_of x i) * w) (length (first_buffer x i)) in
      let b = every (λ k. ok (valid_of x i) (offset_of x i + k)) n in
      let c = every (λ k. ltb (end_of w a k) (half w)) n in
      and_one l b (and_one (l && b) c (and_one (l && b && c) (every (λ k. ltb (start_of (end_of w a) k) (end_of w a k)) n) e))

-- ---- where every node obeys
module _ (t : Tree) (x : Tables) (all : T (source_rule t x)) where
  -- the rule of a node whose kind is known
  rule_at : (k : NodeKind) (i : ℕ) → Is t i k → T (kind_rule t x k i)
  rule_at k i h = subst (λ k. T (kind_rule t x k i)) h.1 (every_out (node_rule t x) t.count all i h.0)

  plain_sound : (p : Plain) (i : ℕ) → MeansPlain t p i → T (plain_here t x p i)
  plain_sound (fixed n) i h = and_two (one_in x i) (plain_here t x (fixed n) i) (rule_at (fixed_node n) i h)
  plain_sound (string w) i h = and_two (two_in x i) (plain_here t x (string w) i) (rule_at (string_node w) i h)

  -- THE COLUMN OBEYS where every node does
  pub column_sound : (u : Ty) (i : ℕ) → Means t u i → T (test u (column_of t x u i))
  column_sound (t_plain p) i h = plain_sound p i h
  column_sound t_view i h = and_two (one_in x i && buffers_in x i) (view_here t x i) (rule_at view_node i h)
  column_sound (t_list_view w u) i h =
      lastly (mask t x true i) (list_rows t x w u i) true (test u (column_of t x u (suc i)))
      (and_two (two_in x i) (mask t x true i && (list_rows t x w u i && true)) (rule_at (list_view_node w) i h.0))
      (column_sound u (suc i) h.1)
  column_sound (t_list w u) i h =
      lastly (mask t x true i) (stretch_rows t x w i) true (test u (column_of t x u (suc i)))
      (and_two (one_in x i) (mask t x true i && (stretch_rows t x w i && true)) (rule_at (list_node w) i h.0))
      (column_sound u (suc i) h.1)
  column_sound (t_sparse ids nullable f) i h =
      lastly (mask t x false i) (sparse_rows t x ids i) (each (λ c. true) ids) (kids_test t x ids f i)
      (and_two (one_in x i) (mask t x false i && (sparse_rows t x ids i && each (λ c. true) ids)) (rule_at (sparse_node ids) i h.0))
      (each_in _ ids (λ c q. column_sound (f c) (node_of t i ids c) (h.1 c q).1))
  column_sound (t_dense ids nullable f) i h =
      lastly (mask t x false i) (dense_rows t x ids i) (each (λ c. true) ids) (kids_test t x ids f i)
      (and_two (two_in x i) (mask t x false i && (dense_rows t x ids i && each (λ c. true) ids)) (rule_at (dense_node ids) i h.0))
      (each_in _ ids (λ c q. column_sound (f c) (node_of t i ids c) (h.1 c q).1))
  column_sound (t_run_end w u) i h =
      lastly (mask t x false i) (run_rows t x w i) true (test u (column_of t x u (suc (suc i))))
      (and_two (held x i && valid_in x i) (mask t x false i && (run_rows t x w i && true)) (rule_at (run_end_node w) i h.0))
      (column_sound u (suc (suc i)) h.2)
  column_sound (t_dictionary k p) i h =
      lastly (mask t x true i) (key_rows t x k i) true (plain_here t x p (suc i))
      (and_two (one_in x i) (mask t x true i && (key_rows t x k i && true)) (rule_at (dictionary_node k) i h.0))
      (plain_sound p (suc i) h.1)

  -- .. so that it is a source
  pub column_source : (u : Ty) (i : ℕ) → Means t u i → Source u (column_of t x u i)
  column_source u i h = test_sound u (column_of t x u i) (column_sound u i h)

-- ---- where the column obeys, and the buffers of every node lie in the body
module _ (t : Tree) (x : Tables) (lies : (j : ℕ) → j < t.count → T (placed t x j)) where
  rule_from : (k : NodeKind) (i j : ℕ) → j ≡ i → Is t i k → (T (placed_as t x k i) → T (kind_rule t x k i)) → T (node_rule t x j)
  rule_from k i j e h f =
      subst (λ z. T (node_rule t x z)) (sym e)
      (subst (λ k. T (kind_rule t x k i)) (sym h.1) (f (subst (λ k. T (placed_as t x k i)) h.1 (placed_out t x i (lies i h.0)))))

  plain_complete : (p : Plain) (i j : ℕ) → j ≡ i → MeansPlain t p i → T (plain_here t x p i) → T (node_rule t x j)
  plain_complete (fixed n) i j z h e = rule_from (fixed_node n) i j z h (λ p. and_in (one_in x i) (plain_here t x (fixed n) i) p e)
  plain_complete (string w) i j z h e = rule_from (string_node w) i j z h (λ p. and_in (two_in x i) (plain_here t x (string w) i) p e)

  -- run ends that rise lie in their buffer
  ends_complete : (w i j : ℕ) → j ≡ i → MeansEnds t w i → T (ends_test w (array_with x (first_buffer x i) i)) → T (node_rule t x j)
  ends_complete w i j z h e =
      plain_complete (fixed h.number) i j z h.is_ends_lem
      (subst (λ n. T (mask t x true i && leb ((offset_of x i + length_of x i) * n) (length (first_buffer x i)))) (sym h.wide) (ends_hold t x w i e))

  -- EVERY NODE OBEYS
  pub column_complete : (u : Ty) (i : ℕ) → Means t u i → T (test u (column_of t x u i)) → (j : ℕ) → Memᴰ j (nodes t x u i) → T (node_rule t x j)
  column_complete (t_plain p) i h e j q = plain_complete p i j (Memᴰ.eq_of_singleton q) h e
  column_complete t_view i h e j q = rule_from view_node i j (Memᴰ.eq_of_singleton q) h (λ p. and_in (one_in x i && buffers_in x i) (view_here t x i) p e)
  column_complete (t_list_view w u) i h e j (Memᴰ.head z) =
      rule_from (list_view_node w) i j z h.0
      (λ p. and_in (two_in x i) (mask t x true i && (list_rows t x w u i && true)) p (firstly (mask t x true i) (list_rows t x w u i) true (test u (column_of t x u (suc i))) e tt))
  column_complete (t_list_view w u) i h e j (Memᴰ.tail q) =
      column_complete u (suc i) h.1 (kid_of (mask t x true i) (list_rows t x w u i) (test u (column_of t x u (suc i))) e) j q
  column_complete (t_list w u) i h e j (Memᴰ.head z) =
      rule_from (list_node w) i j z h.0
      (λ p. and_in (one_in x i) (mask t x true i && (stretch_rows t x w i && true)) p (firstly (mask t x true i) (stretch_rows t x w i) true (test u (column_of t x u (suc i))) e tt))
  column_complete (t_list w u) i h e j (Memᴰ.tail q) =
      column_complete u (suc i) h.1 (kid_of (mask t x true i) (stretch_rows t x w i) (test u (column_of t x u (suc i))) e) j q
  column_complete (t_sparse ids nullable f) i h e j (Memᴰ.head z) =
      rule_from (sparse_node ids) i j z h.0
      (λ p.
      and_in (one_in x i) (mask t x false i && (sparse_rows t x ids i && each (λ c. true) ids)) p
      (firstly (mask t x false i) (sparse_rows t x ids i) (each (λ c. true) ids) (kids_test t x ids f i) e (true_each ids)))
  column_complete (t_sparse ids nullable f) i h e j (Memᴰ.tail q) =
      all_out (λ c. nodes t x (f c) (node_of t i ids c)) ids j (T (node_rule t x j))
      (λ c m n. column_complete (f c) (node_of t i ids c) (h.1 c m).1 (each_out (λ c. test (f c) (column_of t x (f c) (node_of t i ids c))) ids (kid_of (mask t x false i) (sparse_rows t x ids i) (kids_test t x ids f i) e) c m) j n) q
  column_complete (t_dense ids nullable f) i h e j (Memᴰ.head z) =
      rule_from (dense_node ids) i j z h.0
      (λ p.
      and_in (two_in x i) (mask t x false i && (dense_rows t x ids i && each (λ c. true) ids)) p
      (firstly (mask t x false i) (dense_rows t x ids i) (each (λ c. true) ids) (kids_test t x ids f i) e (true_each ids)))
  column_complete (t_dense ids nullable f) i h e j (Memᴰ.tail q) =
      all_out (λ c. nodes t x (f c) (node_of t i ids c)) ids j (T (node_rule t x j))
      (λ c m n. column_complete (f c) (node_of t i ids c) (h.1 c m).1 (each_out (λ c. test (f c) (column_of t x (f c) (node_of t i ids c))) ids (kid_of (mask t x false i) (dense_rows t x ids i) (kids_test t x ids f i) e) c m) j n) q
  column_complete (t_run_end w u) i h e j (Memᴰ.head z) =
      rule_from (run_end_node w) i j z h.0
      (λ p.
      and_in (held x i && valid_in x i) (mask t x false i && (run_rows t x w i && true)) p
      (firstly (mask t x false i) (run_rows t x w i) true (test u (column_of t x u (suc (suc i)))) e tt))
  column_complete (t_run_end w u) i h e j (Memᴰ.tail (Memᴰ.head z)) =
      ends_complete w (suc i) j z h.1
      (first_of_three (ends_test w (array_with x (first_buffer x (suc i)) (suc i)))
      (leb (offset_of x i + length_of x i) (start_of (end_of w (array_with x (first_buffer x (suc i)) (suc i))) (length_of x (suc i))))
      (eqb (length_of x (suc (suc i))) (length_of x (suc i)))
      (rows_of (mask t x false i) (run_rows t x w i) (test u (column_of t x u (suc (suc i)))) e))
  column_complete (t_run_end w u) i h e j (Memᴰ.tail (Memᴰ.tail q)) =
      column_complete u (suc (suc i)) h.2 (kid_of (mask t x false i) (run_rows t x w i) (test u (column_of t x u (suc (suc i)))) e) j q
  column_complete (t_dictionary k p) i h e j (Memᴰ.head z) =
      rule_from (dictionary_node k) i j z h.0
      (λ l. and_in (one_in x i) (mask t x true i && (key_rows t x k i && true)) l (firstly (mask t x true i) (key_rows t x k i) true (plain_here t x p (suc i)) e tt))
  column_complete (t_dictionary k p) i h e j (Memᴰ.tail q) =
      plain_complete p (suc i) j (Memᴰ.eq_of_singleton q) h.1 (kid_of (mask t x true i) (key_rows t x k i) (plain_here t x p (suc i)) e)

  -- THE SOURCE OBEYS where the root's column does and its nodes are all the nodes
  pub source_complete : (u : Ty) → Means t u 0 → ((j : ℕ) → j < t.count → Memᴰ j (nodes t x u 0)) → T (test u (column_of t x u 0)) → T (source_rule t x)
  source_complete u h c e = every_in (node_rule t x) t.count (λ j q. column_complete u 0 h e j (c j q))
