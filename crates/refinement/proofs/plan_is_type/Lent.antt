-- The tables of a source whose nodes obey hold the column that they describe. Assumes nothing.
use mathlib.Core.Path.{◌≡◌, refl, ap, sym, subst, ◌∙◌}
use mathlib.Core.Bool.{Bool, true, false, cond, ◌&&◌}
use mathlib.Core.Option.{none, some}
use mathlib.Core.List.{List, Memᴰ}
use Prim.Native.Nat.{ℕ, suc, ◌+◌, ◌<◌}
use native.Mathlib.Omega.{arith}
use lib.ListN.{length, take, drop}
use lib.Dec.{T, leb, eqb, leb→le}
use Rattle.columnar.specs.Types.{Plain, fixed, string, Ty, t_plain, t_view, t_list_view, t_list, t_sparse, t_dense, t_run_end, t_dictionary}
use Rattle.columnar.proofs.Test.{every_out}
use Rattle.array_data.specs.Tables.{Tables, length_of, offset_of, place, valid_of, first_buffer, second_buffer, array_with, held, in_body, valid_in}
use Rattle.array_data.specs.Rules.{one_in, two_in, buffers_in}
use Rattle.array_data.proofs.type_tree.ByKind.{placed_as}
use Rattle.array_data.specs.NodeKinds.{NodeKind, fixed_node, string_node, view_node, list_view_node, list_node, sparse_node, dense_node, run_end_node, dictionary_node}
use Rattle.array_data.specs.Typed.{Tree, node_of, Is, MeansPlain, Means, tables_from, plain_body, body_of, column_of, kind_rule, node_rule, source_rule}
use Rattle.plan.proofs.dictionaries.Laws.{length_from, offset_from, place_from}
use Rattle.walk.specs.State.{Join, far}
use Rattle.refinement.specs.walk_is_model.Holds.{child_of}
use Rattle.refinement.specs.walk_is_model.Lent.{Part, LentValid, LentNode, First, Second, LentPlain, LentData, Lent}
use Rattle.refinement.specs.plan_is_type.Planted.{join_of}
use Rattle.array_data.proofs.Names.{union_kind}

left : (a b : Bool) → T (a && b) → T a
left true b h = tt
left false b h = h

right : (a b : Bool) → T (a && b) → T b
right true b h = h
right false b h = absurd h

-- where a node's buffers lie is part of its rule
rule_placed : (t : Tree) (y : Tables) (k : NodeKind) (i : ℕ) → T (kind_rule t y k i) → T (placed_as t y k i)
rule_placed t y (fixed_node m) i h = left (one_in y i) _ h
rule_placed t y (string_node w) i h = left (two_in y i) _ h
rule_placed t y view_node i h = left (one_in y i && buffers_in y i) _ h
rule_placed t y (list_view_node w) i h = left (two_in y i) _ h
rule_placed t y (list_node w) i h = left (one_in y i) _ h
rule_placed t y (sparse_node ids) i h = left (one_in y i) _ h
rule_placed t y (dense_node ids) i h = left (two_in y i) _ h
rule_placed t y (run_end_node w) i h = left (held y i && valid_in y i) _ h
rule_placed t y (dictionary_node m) i h = left (one_in y i) _ h

part_at : (body : List ℕ) (at at' size size' : ℕ) → at ≡ at' → size ≡ size' → T (leb (at + size) (length body)) → Part body at' size' (take size (drop at body))
part_at body at at' size size' e f h =
    record { bytes_are = ap (λ z. take size (drop z body)) e ∙ ap (λ z. take z (drop at' body)) f; inside = omega (arith, leb→le (at + size) (length body) h) }

module _ (t : Tree) (x : Tables) (first : ℕ) (plan parts : List ℕ) (s : ℕ) where
  -- the source's tables, and the order that reads them
  abbrev own : Tables
  own = tables_from x first

  abbrev order : Join
  order = join_of x plan parts first s

  valid_held : (i : ℕ) → T (valid_in own i) → LentValid order i (valid_of own i)
  valid_held i h = go (eqb (place own i 0) 0) refl h
    where
      test : (b : Bool) → eqb (place own i 0) 0 ≡ b → eqb (Rattle.walk.specs.State.place order i 0) 0 ≡ b
      test b e = ap (λ z. eqb z 0) (sym (place_from x first i 0)) ∙ e

      go : (b : Bool) → eqb (place own i 0) 0 ≡ b → T (cond b true (in_body own (place own i 1) (place own i 2)))
          → LentValid order i (cond b none (some (take (place own i 2) (drop (place own i 1) x.body))))
      go true e h = test true e
      go false e h = (test false e, part_at x.body (place own i 1) _ (place own i 2) _ (place_from x first i 1) (place_from x first i 2) h)

  first_held : (i : ℕ) → T (in_body own (place own i 3) (place own i 4)) → First order i (first_buffer own i)
  first_held i h = part_at x.body (place own i 3) _ (place own i 4) _ (place_from x first i 3) (place_from x first i 4) h

  second_held : (i : ℕ) → T (in_body own (place own i 5) (place own i 6)) → Second order i (second_buffer own i)
  second_held i h = part_at x.body (place own i 5) _ (place own i 6) _ (place_from x first i 5) (place_from x first i 6) h

  one_held : (i : ℕ) → T (one_in own i) → T (valid_in own i) × First order i (first_buffer own i)
  one_held i h =
      let a = left (held own i && valid_in own i) (in_body own (place own i 3) (place own i 4)) h in
      let b = right (held own i && valid_in own i) (in_body own (place own i 3) (place own i 4)) h in
      (right (held own i) (valid_in own i) a, first_held i b)

  two_held : (i : ℕ) → T (two_in own i) → T (valid_in own i) × First order i (first_buffer own i) × Second order i (second_buffer own i)
  two_held i h =
      let a = one_held i (left (one_in own i) (in_body own (place own i 5) (place own i 6)) h) in
      (a.0, a.1, second_held i (right (one_in own i) (in_body own (place own i 5) (place own i 6)) h))

  module _ (all : T (source_rule t own)) (sums : (i : ℕ) → i < t.count → offset_of own i + length_of own i < far)
      (kids : (i : ℕ) (b : Bool) (ids : List ℕ) → Is t i (union_kind b ids) → (e : ℕ) → Memᴰ e ids → child_of plan i e ≡ node_of t i ids e) where
    placed_at : (k : NodeKind) (i : ℕ) → Is t i k → T (placed_as t own k i)
    placed_at k i h = rule_placed t own k i (subst (λ k. T (kind_rule t own k i)) h.1 (every_out (node_rule t own) t.count all i h.0))

    node : {B : Type 0} (i : ℕ) (inner : B → Type 0) (b : B) → i < t.count → T (valid_in own i) → inner b → LentNode order i inner (array_with own b i)
    node i inner b l v h =
        record {
          len_is = sym (length_from x first i);
          off_is = sym (offset_from x first i);
          sum = sums i l;
          valid_is = valid_held i v;
          body_is = h;
        }

    plain_lent : (p : Plain) (i : ℕ) → MeansPlain t p i → LentNode order i (LentPlain order p i) (array_with own (plain_body t own p i) i)
    plain_lent (fixed m) i h =
        let q = one_held i (placed_at (fixed_node m) i h) in
        node i (LentPlain order (fixed m) i) (first_buffer own i) h.0 q.0 q.1
    plain_lent (string w) i h =
        let q = two_held i (placed_at (string_node w) i h) in
        node i (LentPlain order (string w) i) (plain_body t own (string w) i) h.0 q.0 (q.1, q.2)

    -- a child of a union, at the node that the plan gives
    child_lent : (i : ℕ) (b : Bool) (ids : List ℕ) (f : ℕ → Ty) → Is t i (union_kind b ids) → (e : ℕ) → Memᴰ e ids
        → Lent order (f e) (node_of t i ids e) (column_of t own (f e) (node_of t i ids e)) → Lent order (f e) (child_of plan i e) (column_of t own (f e) (node_of t i ids e))
    child_lent i b ids f h e q r = subst (λ z. Lent order (f e) z (column_of t own (f e) (node_of t i ids e))) (sym (kids i b ids h e q)) r

    -- THE TABLES HOLD THE COLUMN
    pub lent_at : (u : Ty) (i : ℕ) → Means t u i → Lent order u i (column_of t own u i)
    lent_at (t_plain p) i h = plain_lent p i h
    lent_at t_view i h =
        let q = one_held i (left (one_in own i) (buffers_in own i) (placed_at view_node i h)) in
        node i (LentData order t_view i) (body_of t own t_view i) h.0 q.0 q.1
    lent_at (t_list_view w u) i h =
        let q = two_held i (placed_at (list_view_node w) i h.0) in
        node i (LentData order (t_list_view w u) i) (body_of t own (t_list_view w u) i) h.0.0 q.0 (q.1, q.2, lent_at u (suc i) h.1)
    lent_at (t_list w u) i h =
        let q = one_held i (placed_at (list_node w) i h.0) in
        node i (LentData order (t_list w u) i) (body_of t own (t_list w u) i) h.0.0 q.0 (q.1, lent_at u (suc i) h.1)
    lent_at (t_sparse ids nullable f) i h =
        let q = one_held i (placed_at (sparse_node ids) i h.0) in
        node i (LentData order (t_sparse ids nullable f) i) (body_of t own (t_sparse ids nullable f) i) h.0.0 q.0
        (q.1, λ e m. child_lent i true ids f h.0 e m (lent_at (f e) (node_of t i ids e) (h.1 e m).1))
    lent_at (t_dense ids nullable f) i h =
        let q = two_held i (placed_at (dense_node ids) i h.0) in
        node i (LentData order (t_dense ids nullable f) i) (body_of t own (t_dense ids nullable f) i) h.0.0 q.0
        (q.1, q.2, λ e m. child_lent i false ids f h.0 e m (lent_at (f e) (node_of t i ids e) (h.1 e m).1))
    lent_at (t_run_end w u) i h =
        let v = right (held own i) (valid_in own i) (placed_at (run_end_node w) i h.0) in
        let g = h.1 in
        let q = one_held (suc i) (placed_at (fixed_node g.number) (suc i) g.is_ends_lem) in
        node i (LentData order (t_run_end w u) i) (body_of t own (t_run_end w u) i) h.0.0 v
        (node (suc i) (First order (suc i)) (first_buffer own (suc i)) g.is_ends_lem.0 q.0 q.1, lent_at u (suc (suc i)) h.2)
    lent_at (t_dictionary k p) i h =
        let q = one_held i (placed_at (dictionary_node k) i h.0) in
        node i (LentData order (t_dictionary k p) i) (body_of t own (t_dictionary k p) i) h.0.0 q.0 q.1
