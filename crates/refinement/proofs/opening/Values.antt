-- The values of every dictionary are lent: what the plan's words and each source's tables say of the node behind the keys. Assumes nothing.
use mathlib.Core.Path.{◌≡◌, refl, ap, sym, subst, ◌∙◌}
use mathlib.Core.Bool.{Bool, true, false}
use mathlib.Core.Option.{some}
use mathlib.Core.List.{List, Memᴰ}
use Prim.Native.Nat.{ℕ, suc, ◌≤◌, ◌<◌}
use native.Mathlib.Decide.{dec_lt}
use native.Mathlib.Omega.{arith}
use lib.Dec.{T, eqb}
use borrow.Author.Tests.{le-leb, eqb-true, eqb-false}
use Rattle.columnar.specs.Types.{Number, f32, f64, Plain, fixed, string, Ty, t_plain, t_view, t_list_view, t_list, t_sparse, t_dense, t_run_end, t_dictionary}
use Rattle.columnar.specs.Wider.{integer}
use Rattle.columnar.specs.Formed.{Formed}
use Rattle.columnar.specs.Reading.{Column}
use Rattle.schema.specs.formats.Code.{is_integer, is_fixed, is_string, width_of}
use Rattle.schema.specs.formats.Types.{number_of, number_or}
use Rattle.schema.proofs.formats.Types.{fixed_number}
use Rattle.schema.specs.Tree.{dictionary, code_of, ids_of}
use Rattle.array_data.specs.Tables.{Tables, array_with}
use Rattle.array_data.specs.NodeKinds.{NodeKind, fixed_node, dictionary_node, kind_at}
use Rattle.array_data.specs.Typed.{Tree, node_of, Is, MeansPlain, Means, tables_from, plain_body, body_of}
use Rattle.array_data.specs.type_tree.Lent.{tree_of, type_of}
use Rattle.array_data.proofs.type_tree.Lent.{formed}
use Rattle.array_data.proofs.type_tree.Same.{same_means}
use Rattle.array_data.proofs.type_tree.Shaped.{kind_fixed}
use Rattle.refinement.specs.walk_is_model.Holds.{child_of, WordedPlain}
use Rattle.refinement.specs.walk_is_model.Lent.{LentNode, LentPlain}
use Rattle.refinement.proofs.log_in_room.Found.{between_both}
use Rattle.array_data.specs.Sources as Sources
use Rattle.columns.specs.Grounds.{sources_ground}
use Rattle.array_data.specs.Sources.{source_count, first_of}
use Rattle.refinement.specs.plan_is_type.Taken.{columns_as}
use Rattle.refinement.proofs.plan_is_type.Codes.{Coded}
use Rattle.refinement.proofs.plan_is_type.Planted.{in_plan_lem, code_is, dictionary_is, coded_is}
use Rattle.refinement.proofs.plan_is_type.Lent.{lent_at}
use Rattle.refinement.proofs.plan_is_type.Opened.{same_child_lem, all_alike}
use Rattle.plan.specs.Plan.{planned}
use Rattle.refinement.specs.orders.Order.{Lent, join_of}
use Rattle.refinement.specs.opening.Open.{opened}
use Rattle.refinement.specs.opening.Entries.{ValuesLent, EntriesLent}
use Rattle.refinement.proofs.opening.Laid.{Stood, stood}
use Rattle.refinement.proofs.opening.Taken.{some_sources, is_typed, is_low, planted, taken}
use Rattle.array_data.proofs.Names.{number_kind, union_kind}

-- ---- the code of a dictionary's keys

no_keys_f32 : (k : Number) → number_of 9 ≡ some k → T (integer k) → ⊥
unfolding number_of
no_keys_f32 k e h = let z : f32 ≡ k = cc e in subst (λ j. T (integer j)) (sym z) h

no_keys_f64 : (k : Number) → number_of 10 ≡ some k → T (integer k) → ⊥
unfolding number_of
no_keys_f64 k e h = let z : f64 ≡ k = cc e in subst (λ j. T (integer j)) (sym z) h

-- "an integer key format" has one of the first eight codes
integer_code : (z : ℕ) (k : Number) → is_fixed z ≡ true → number_of z ≡ some k → T (integer k) → is_integer z ≡ true
integer_code z k f e h = go (dec_lt 8 z) (eqb z 9) refl
  where
    b : (1 ≤ z) × (z ≤ 10)
    b = between_both 1 10 z f

    go : Dec (8 < z) → (n : Bool) → eqb z 9 ≡ n → is_integer z ≡ true
    go (no y) n q = rw (le-leb 1 z b.0, le-leb z 8 (omega arith))
    go (yes y) true q = absurd (no_keys_f32 k (subst (λ v. number_of v ≡ some k) (eqb-true z 9 q) e) h)
    go (yes y) false q =
        let w : z ≡ 10 = omega (arith, b.1, eqb-false z 9 q) in
        absurd (no_keys_f64 k (subst (λ v. number_of v ≡ some k) w e) h)

module _ (formats schema : List ℕ) (first i : ℕ) where
  abbrev code : ℕ
  code = code_of formats schema first i

  kind_is : is_fixed code ≡ true → kind_at formats schema first i ≡ number_kind (eqb (dictionary schema first i) 0) (number_or (number_of code))
  unfolding kind_at
  kind_is h = kind_fixed code (eqb (dictionary schema first i) 0) (ids_of formats schema first i) (code_of formats schema first (suc i)) h

  -- the keys' number is that of the code
  keys_number : (k : Number) → is_fixed code ≡ true → eqb (dictionary schema first i) 0 ≡ false → kind_at formats schema first i ≡ dictionary_node k → number_of code ≡ some k
  keys_number k h d e =
      let p = fixed_number code h in
      let a : dictionary_node (number_or (number_of code)) ≡ dictionary_node k = sym (ap (λ b. number_kind b (number_or (number_of code))) d) ∙ sym (kind_is h) ∙ e in
      let c : number_or (number_of code) ≡ k = cc a in
      let g : number_or (number_of code) ≡ p.0 = ap number_or p.1 in
      p.1 ∙ ap some (sym g ∙ c)

  -- a fixed-width node that is no dictionary's keys
  no_dictionary : (k : Number) → is_fixed code ≡ true → kind_at formats schema first i ≡ fixed_node k → dictionary schema first i ≡ 0
  no_dictionary k h e = go (eqb (dictionary schema first i) 0) refl
    where
      go : (b : Bool) → eqb (dictionary schema first i) 0 ≡ b → dictionary schema first i ≡ 0
      go true q = eqb-true (dictionary schema first i) 0 q
      go false q =
          let a : dictionary_node (number_or (number_of code)) ≡ fixed_node k = sym (ap (λ b. number_kind b (number_or (number_of code))) q) ∙ sym (kind_is h) ∙ e in
          absurd (let z : ◌≡◌ {A = ℕ} 0 1 = cc a in omega arith)

-- ---- an accepted opening

module _ (formats schema sources : List ℕ) (x : Tables) (keep gaps : Bool) (ok : sources_ground formats schema x sources ≡ 0) (parts : List ℕ) where
  abbrev m : ℕ
  m = source_count sources

  abbrev first : ℕ → ℕ
  first s = first_of sources s

  abbrev nodes : ℕ → ℕ
  nodes s = Sources.nodes_of sources s

  abbrev plan : List ℕ
  plan = planned formats schema x sources keep gaps

  abbrev lent : Lent
  lent = opened formats schema sources x keep gaps parts

  abbrev tree : ℕ → Tree
  tree s = tree_of formats schema (first s) (nodes s)

  abbrev own : ℕ → Tables
  own s = tables_from x (first s)

  ty : Rattle.schema.specs.Tree.typed formats schema (first 0) (nodes 0) ≡ true
  ty = is_typed formats schema sources x keep gaps ok

  low : Rattle.schema.specs.Tree.ceilings formats schema (first 0) (nodes 0) ≡ true
  low = is_low formats schema sources x keep gaps ok

  words : Rattle.refinement.specs.plan_is_type.Planted.Planted plan formats schema (first 0) (nodes 0)
  words = planted formats schema sources x keep gaps ok

  stands : Stood plan m (nodes 0)
  stands = stood formats schema x sources ok keep gaps

  -- ---- by the plan's words

  module _ (i : ℕ) (l : i < nodes 0) where
    same_code : Rattle.walk.specs.State.code_of plan i ≡ code_of formats schema (first 0) i
    same_code = code_is formats schema (first 0) (nodes 0) plan ty low words i l

    coded_at : (k : NodeKind) → kind_at formats schema (first 0) i ≡ k
        → Coded (code_of formats schema (first 0) i) (eqb (dictionary schema (first 0) i) 0) (ids_of formats schema (first 0) i) (code_of formats schema (first 0) (suc i)) k
    coded_at k e =
        subst (Coded (code_of formats schema (first 0) i) (eqb (dictionary schema (first 0) i) 0) (ids_of formats schema (first 0) i) (code_of formats schema (first 0) (suc i))) e
        (coded_is formats schema (first 0) (nodes 0) plan ty low words i l)

    same_dictionary : Rattle.walk.specs.State.dictionary_of plan i ≡ dictionary schema (first 0) i
    same_dictionary = dictionary_is formats schema (first 0) (nodes 0) plan ty low words i l

    inside : i < Rattle.walk.specs.State.end_of plan 0
    inside = omega (arith, stands.node_count, stands.all_nodes_lem)

  plain_worded : (p : Plain) (j : ℕ) → MeansPlain (tree 0) p j → WordedPlain plan p j
  plain_worded (fixed n) j h = let k = coded_at j h.0 _ h.1 in (ap is_fixed (same_code j h.0) ∙ k.0, ap width_of (same_code j h.0) ∙ k.1)
  plain_worded (string w) j h = let k = coded_at j h.0 _ h.1 in (ap is_string (same_code j h.0) ∙ k.0, ap width_of (same_code j h.0) ∙ k.1)

  plain_in : (p : Plain) (j : ℕ) → MeansPlain (tree 0) p j → j < nodes 0
  plain_in (fixed n) j h = h.0
  plain_in (string w) j h = h.0

  plain_low : (p : Plain) (j : ℕ) → MeansPlain (tree 0) p j → Rattle.walk.specs.State.code_of plan j < 15
  plain_low (fixed n) j h = omega (arith, (between_both 1 10 (Rattle.walk.specs.State.code_of plan j) (plain_worded (fixed n) j h).0).1)
  plain_low (string w) j h = omega (arith, (between_both 11 14 (Rattle.walk.specs.State.code_of plan j) (plain_worded (string w) j h).0).1)

  plain_keyless : (p : Plain) (j : ℕ) → MeansPlain (tree 0) p j → Rattle.walk.specs.State.dictionary_of plan j ≡ 0
  plain_keyless (fixed n) j h = same_dictionary j h.0 ∙ no_dictionary formats schema (first 0) j n (coded_at j h.0 _ h.1).0 h.1
  plain_keyless (string w) j h = go (eqb (Rattle.walk.specs.State.dictionary_of plan j) 0) refl
    where
      go : (b : Bool) → eqb (Rattle.walk.specs.State.dictionary_of plan j) 0 ≡ b → Rattle.walk.specs.State.dictionary_of plan j ≡ 0
      go true q = eqb-true _ 0 q
      go false q =
          let f = stands.laid.tabled.keys_fixed j (inside j h.0) (eqb-false _ 0 q) in
          let a = between_both 1 10 (Rattle.walk.specs.State.code_of plan j) f in
          let b = between_both 11 14 (Rattle.walk.specs.State.code_of plan j) (plain_worded (string w) j h).0 in
          absurd (omega (arith, a.1, b.0))

  -- ---- by the tables

  same_kid : (s : ℕ) → s < m → (i : ℕ) (b : Bool) (ids : List ℕ) → Is (tree s) i (union_kind b ids) → (e : ℕ) → Memᴰ e ids → child_of plan i e ≡ node_of (tree s) i ids e
  same_kid s l =
      same_child_lem formats schema (first 0) (nodes 0) plan ty low words (first s) (nodes s) (all_alike formats schema x first nodes plan m (taken formats schema sources x keep gaps ok) s l)

  values_lent : (p : Plain) (j s : ℕ) → s < m → MeansPlain (tree s) p j → LentNode (join_of lent s) j (LentPlain (join_of lent s) p j) (array_with (own s) (plain_body (tree 0) (own s) p j) j)
  values_lent (fixed n) j s l h =
      lent_at (tree s) x (first s) plan parts s ((taken formats schema sources x keep gaps ok).rules s l) ((taken formats schema sources x keep gaps ok).sums s l) (same_kid s l) (t_plain (fixed n)) j h
  values_lent (string w) j s l h =
      lent_at (tree s) x (first s) plan parts s ((taken formats schema sources x keep gaps ok).rules s l) ((taken formats schema sources x keep gaps ok).sums s l) (same_kid s l) (t_plain (string w)) j h

  -- ---- every dictionary

  values_at_lem : (k : Number) (p : Plain) (i : ℕ) → Formed (t_dictionary k p) → ((s : ℕ) → s < m → Means (tree s) (t_dictionary k p) i) → ValuesLent lent k p i m (λ s. body_of (tree 0) (own s) (t_dictionary k p) i)
  values_at_lem k p i o h =
      let z = h 0 (some_sources formats schema sources x keep gaps ok) in
      let l = z.0.0 in
      let g = coded_at i l _ z.0.1 in
      let n = keys_number formats schema (first 0) i k g.0 g.2 z.0.1 in
      let d = plain_keyless p (suc i) z.1 in
      record {
        whole_key = ap is_integer (same_code i l) ∙ integer_code (code_of formats schema (first 0) i) k g.0 n o.0;
        key_is = ap number_of (same_code i l) ∙ n;
        small = in_plan_lem formats schema (first 0) (nodes 0) plan ty low words (suc i) (plain_in p (suc i) z.1);
        plain_is = plain_worded p (suc i) z.1;
        no_keys = d;
        ends = stands.laid.plain_ends (suc i) (inside (suc i) (plain_in p (suc i) z.1)) (plain_low p (suc i) z.1) d;
        lent = λ s q. values_lent p (suc i) s q (h s q).1;
      }

  entries_at : (u : Ty) (i : ℕ) → Formed u → ((s : ℕ) → s < m → Means (tree s) u i) → EntriesLent lent u i m (λ s. body_of (tree 0) (own s) u i)
  entries_at (t_plain p) i o h = tt
  entries_at t_view i o h = tt
  entries_at (t_list_view w u) i o h = entries_at u (suc i) o.1 (λ s l. (h s l).1)
  entries_at (t_list w u) i o h = entries_at u (suc i) o.1 (λ s l. (h s l).1)
  entries_at (t_sparse ids nullable f) i o h = λ e q.
      let kid : (s : ℕ) → s < m → child_of plan i e ≡ node_of (tree s) i ids e = λ s l. same_kid s l i true ids (h s l).0 e q in
      subst (λ z. EntriesLent lent (f e) (child_of plan i e) m (λ s. body_of (tree 0) (own s) (f e) z)) (kid 0 (some_sources formats schema sources x keep gaps ok))
      (entries_at (f e) (child_of plan i e) (o.1 e q) (λ s l. subst (Means (tree s) (f e)) (sym (kid s l)) ((h s l).1 e q).1))
  entries_at (t_dense ids nullable f) i o h = λ e q.
      let kid : (s : ℕ) → s < m → child_of plan i e ≡ node_of (tree s) i ids e = λ s l. same_kid s l i false ids (h s l).0 e q in
      subst (λ z. EntriesLent lent (f e) (child_of plan i e) m (λ s. body_of (tree 0) (own s) (f e) z)) (kid 0 (some_sources formats schema sources x keep gaps ok))
      (entries_at (f e) (child_of plan i e) (o.1 e q) (λ s l. subst (Means (tree s) (f e)) (sym (kid s l)) ((h s l).1 e q).1))
  entries_at (t_run_end w u) i o h = entries_at u (suc (suc i)) o.1 (λ s l. (h s l).2)
  entries_at (t_dictionary k p) i o h = values_at_lem k p i o h

  abbrev t : Ty
  t = type_of formats schema (first 0) (nodes 0)

  abbrev ss : ℕ → Column t
  ss = columns_as formats schema x first nodes

  -- THE VALUES OF EVERY DICTIONARY ARE LENT
  pub entries_lent : EntriesLent lent t 0 m (λ j. (ss j).body)
  entries_lent =
      entries_at t 0 (formed formats schema (first 0) (nodes 0) ty low)
      (λ s l. same_means formats schema (first 0) (nodes 0) (first s) (nodes s) ty low (all_alike formats schema x first nodes plan m (taken formats schema sources x keep gaps ok) s l))
