-- A plan of sources of one type holds what the opening of the model settles. Assumes nothing.
use mathlib.Core.Path.{◌≡◌, sym, ap, ◌∙◌}
use mathlib.Core.Bool.{Bool, true, false, not}
use mathlib.Core.List.{List, Memᴰ}
use Prim.Native.Nat.{ℕ, suc, ◌+◌, ◌*◌, ◌≤◌, ◌<◌}
use native.Mathlib.Omega.{arith}
use lib.ListN.{length, get_or}
use lib.Dec.{eqb}
use Rattle.columnar.specs.Types.{Plain, fixed, string, Ty, t_plain, t_view, t_list_view, t_list, t_sparse, t_dense, t_run_end, t_dictionary}
use Rattle.columnar.specs.Reading.{Body}
use Rattle.schema.specs.formats.Code.{is_string, is_view, is_union, is_run_end}
use Rattle.model.specs.Opening.{keeps}
use Rattle.schema.specs.Tree as schemaTree
use Rattle.schema.specs.Tree.{below, child_at, ceilings, typed}
use Rattle.schema.proofs.Known.{typed_whole, typed_shape}
use Rattle.array_data.specs.Tables.{Tables}
use Rattle.array_data.specs.NodeKinds.{view_node, kind_at}
use Rattle.array_data.specs.Typed.{Tree, field_of, node_of, MeansPlain, Means, tables_from, body_of}
use Rattle.array_data.specs.type_tree.Lent.{tree_of, type_of}
use Rattle.array_data.proofs.type_tree.Ids.{field_in_lem}
use Rattle.array_data.proofs.type_tree.Shaped.{plain_kind, Shaped, shaped}
use Rattle.array_data.proofs.type_tree.Lent.{child_same, first_child, some_node, means}
use Rattle.array_data.specs.lent_tables.Lent.{tables}
use Rattle.plan.specs.dictionaries.Sources.{of_strings}
use Rattle.plan.proofs.dictionaries.Typed.{column_at}
use Rattle.walk.specs.State.{code_of, dictionary_of, keeps_of}
use Rattle.plan.specs.Plan.{flag, planned}
use Rattle.array_data.specs.Sources.{source_count, first_of, nodes_of}
use Rattle.plan.specs.Opened.{OpenedBelow, Opened}
use Rattle.plan.proofs.Codes.{view_code, list_code, lists_code, sparse_code, dense_code, run_code, keys_code, strings_code, many_below_lem, no_dictionary, list_not_fixed, lists_not_fixed, union_not_fixed, list_not_run, lists_not_run, union_not_run}
use Rattle.plan.proofs.Nodes.{kept_at, code_is, dictionary_is, root_keeps, child_keeps, run_values_keep, values_keep, ends_keep, view_base, dictionary_joined, dictionary_base}

flag_back : (k : Bool) (v : ℕ) → v ≡ flag k → not (eqb v 0) ≡ k
flag_back true v e = rw e
flag_back false v e = rw e

module _ (formats schema : List ℕ) (y : Tables) (sources : List ℕ) (keep gaps : Bool) (few : source_count sources ≤ 16) (small : nodes_of sources 0 ≤ 32)
    (t : typed formats schema (first_of sources 0) (nodes_of sources 0) ≡ true)
    (named : (s i : ℕ) → s < source_count sources → i < nodes_of sources 0 → kind_at formats schema (first_of sources 0) i ≡ view_node → get_or y.places (9 * (first_of sources s + i) + 8) 0 ≤ 33) where
  abbrev m : ℕ
  m = source_count sources

  abbrev n : ℕ
  n = nodes_of sources 0

  abbrev first : ℕ
  first = first_of sources 0

  abbrev tree : Tree
  tree = tree_of formats schema first n

  abbrev plan : List ℕ
  plan = planned formats schema (tables y.lengths y.places y.body) sources keep gaps

  abbrev bodies : (u : Ty) → ℕ → ℕ → Body u
  bodies u i s = body_of tree (tables_from y (first_of sources s)) u i

  shaped_at : (i : ℕ) → i < n → Shaped formats schema first i
  shaped_at i l = shaped formats schema first i (typed_shape formats schema first n t i l)

  -- the child of a list-view or union node
  down : (u : Ty) (i c k : ℕ) (b : Bool) → i < n → c < below schema first i → schemaTree.dictionary schema first i ≡ 0
      → is_run_end (schemaTree.code_of formats schema first i) ≡ false → child_at schema first n i c ≡ k → keeps_of plan i ≡ flag b
      → keeps_of plan k ≡ flag (keeps b m (column_at tree y sources u k))
  down u i c k b l h d r e f =
      sym (ap (keeps_of plan) e)
      ∙ child_keeps formats schema y sources keep gaps few small t tree u i c l h (dictionary_is formats schema y sources keep gaps few small t i l ∙ d)
      (ap is_run_end (code_is formats schema y sources keep gaps few small t i l) ∙ r)
      ∙ ap (λ k. flag (keeps (kept_at formats schema y sources keep gaps few small t i) m (column_at tree y sources u k))) e
      ∙ ap (λ b. flag (keeps b m (column_at tree y sources u k))) (flag_back b (keeps_of plan i) f)

  union_down : (u : Ty) (i c : ℕ) (ids : List ℕ) (b : Bool) → i < n → is_union (schemaTree.code_of formats schema first i) ≡ true → below schema first i ≡ length ids
      → Memᴰ c ids → keeps_of plan i ≡ flag b
      → keeps_of plan (node_of tree i ids c) ≡ flag (keeps b m (column_at tree y sources u (node_of tree i ids c)))
  union_down u i c ids b l v z q f =
      down u i (field_of ids c) (node_of tree i ids c) b l (omega (arith, field_in_lem ids c q))
      (no_dictionary formats schema first i (typed_shape formats schema first n t i l) (union_not_fixed (schemaTree.code_of formats schema first i) v)) (union_not_run (schemaTree.code_of formats schema first i) v)
      (child_same formats schema first n i (field_of ids c)) f

  plain_kind_lem : (p : Plain) (i : ℕ) → MeansPlain tree p i → (i < n) × (kind_at formats schema first i ≡ plain_kind p)
  plain_kind_lem (fixed k) i h = h
  plain_kind_lem (string w) i h = h

  -- NODE i STANDS FOR A TYPE: the words below it are as the model has them
  pub opened_below : (u : Ty) (i : ℕ) (b : Bool) → Means tree u i → keeps_of plan i ≡ flag b → OpenedBelow plan (node_of tree) m u i b (bodies u i)
  opened_below (t_plain p) i b h f = tt
  opened_below t_view i b h f =
      λ s l.
      view_base formats schema y sources keep gaps few small t tree s i l (omega (arith, h.0))
      (ap is_view (code_is formats schema y sources keep gaps few small t i h.0) ∙ view_code formats schema first i h.1)
      (λ j q. named j i (omega arith) h.0 h.1)
  opened_below (t_list_view w u) i b h f =
      let l = h.0.0 in
      let v = list_code formats schema first i w h.0.1 in
      let one = many_below_lem formats schema first i (shaped_at i l) h.0.1 in
      let e = down u i 0 (suc i) b l (omega arith) (no_dictionary formats schema first i (typed_shape formats schema first n t i l) (list_not_fixed (schemaTree.code_of formats schema first i) v)) (list_not_run (schemaTree.code_of formats schema first i) v) (first_child formats schema first n i) f in
      (e, opened_below u (suc i) (keeps b m (column_at tree y sources u (suc i))) h.1 e)
  opened_below (t_list w u) i b h f =
      let l = h.0.0 in
      let v = lists_code formats schema first i w h.0.1 in
      let one = many_below_lem formats schema first i (shaped_at i l) h.0.1 in
      let e = down u i 0 (suc i) b l (omega arith) (no_dictionary formats schema first i (typed_shape formats schema first n t i l) (lists_not_fixed (schemaTree.code_of formats schema first i) v)) (lists_not_run (schemaTree.code_of formats schema first i) v) (first_child formats schema first n i) f in
      (e, opened_below u (suc i) (keeps b m (column_at tree y sources u (suc i))) h.1 e)
  opened_below (t_sparse ids nullable g) i b h f =
      λ c q.
      let l = h.0.0 in
      let e = union_down (g c) i c ids b l (sparse_code formats schema first i ids h.0.1) (many_below_lem formats schema first i (shaped_at i l) h.0.1) q f in
      (e, opened_below (g c) (node_of tree i ids c) (keeps b m (column_at tree y sources (g c) (node_of tree i ids c))) (h.1 c q).1 e)
  opened_below (t_dense ids nullable g) i b h f =
      λ c q.
      let l = h.0.0 in
      let e = union_down (g c) i c ids b l (dense_code formats schema first i ids h.0.1) (many_below_lem formats schema first i (shaped_at i l) h.0.1) q f in
      (e, opened_below (g c) (node_of tree i ids c) (keeps b m (column_at tree y sources (g c) (node_of tree i ids c))) (h.1 c q).1 e)
  opened_below (t_run_end w u) i b h f =
      let l = h.0.0 in
      let r = ap is_run_end (code_is formats schema y sources keep gaps few small t i l) ∙ run_code formats schema first i w h.0.1 in
      let e = run_values_keep formats schema y sources keep gaps few small t tree u i l r ∙ ap (λ b. flag (keeps b m (column_at tree y sources u (suc (suc i))))) (flag_back b (keeps_of plan i) f) in
      (ends_keep formats schema y sources keep gaps few small t i l r, e, opened_below u (suc (suc i)) (keeps b m (column_at tree y sources u (suc (suc i)))) h.2 e)
  opened_below (t_dictionary k p) i b h f =
      let l = h.0.0 in
      let values = plain_kind_lem p (suc i) h.1 in
      let d : dictionary_of plan i ≡ 0 → ⊥ = λ e. keys_code formats schema first i k h.0.1 (sym (dictionary_is formats schema y sources keep gaps few small t i l) ∙ e) in
      let q : is_string (code_of plan (suc i)) ≡ of_strings p =
      ap is_string (code_is formats schema y sources keep gaps few small t (suc i) values.0) ∙ strings_code formats schema first (suc i) p values.1 in
      (values_keep formats schema y sources keep gaps few small t tree (t_plain p) i l d, dictionary_joined formats schema y sources keep gaps few small t tree k p i l d q, dictionary_base formats schema y sources keep gaps few small t tree k p i l d q)

  -- THE PLANNED STATE IS THE MODEL'S OPENING
  pub opened : ceilings formats schema first n ≡ true
      → Opened plan tree m (type_of formats schema first n) keep (column_at tree y sources (type_of formats schema first n) 0)
  opened c =
      let u = type_of formats schema first n in
      let e = root_keeps formats schema y sources keep gaps few small t tree u (some_node formats schema first n (typed_whole formats schema first n t)) in
      (e, opened_below u 0 (keeps keep m (column_at tree y sources u 0)) (means formats schema first n t c) e)
