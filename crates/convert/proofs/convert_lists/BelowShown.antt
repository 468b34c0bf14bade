-- THE CHILD OF A LIST-VIEW'S TABLES is the column's child, named where it stands: byte for byte, with its null counts, and its buffers lie in the body.
-- Assumes nothing.
use mathlib.Core.Path.{◌≡◌, refl, sym, subst, ◌∙◌}
use mathlib.Core.Bool.{Bool, true, ◌&&◌, cond}
use mathlib.Core.Option.{none}
use mathlib.Core.List.{List}
use Prim.Native.Nat.{ℕ, suc, ◌+◌, ◌≤◌, ◌<◌}
use native.Mathlib.Omega.{arith}
use lib.ListN.{length}
use lib.Dec.{T, eqb}
use lib.Ieee.Bits.{is_true}
use Rattle.columnar.specs.Types.{Plain, fixed, string, Ty, t_plain, t_view, t_list_view, t_list, t_sparse, t_dense, t_run_end, t_dictionary}
use Rattle.columnar.specs.Array.{null_count_of}
use Rattle.columnar.proofs.Test.{every_out}
use Rattle.model.proofs.Present.{present_nulls}
use Rattle.array_data.specs.Tables.{Tables, part, length_of, offset_of, valid_of, first_buffer, array_with, held, valid_in}
use Rattle.array_data.specs.Rules.{one_in, two_in, buffers_in}
use Rattle.array_data.proofs.type_tree.ByKind.{placed_as, placed_as_lem}
use Rattle.array_data.specs.NodeKinds.{NodeKind, fixed_node, string_node, view_node, list_view_node, list_node, sparse_node, dense_node, run_end_node, dictionary_node}
use Rattle.array_data.specs.Typed.{Tree, field_of, node_of, Is, MeansPlain, Means, tables_from, plain_body, body_of, column_of, kind_rule, node_rule, source_rule, placed, kind_in}
use Rattle.array_data.proofs.lent_tables.Laws.{and_left, and_right, first_in, second_in, two_one}
use Rattle.refinement.specs.finishing.Shows.{ShowsNode, ShowsPlain, ShowsData, Shows, CountsNode, CountsData, Counts}
use Rattle.anew.specs.lists.Named.{named_body, named}
use Rattle.convert.specs.convert_lists.ViewTables.{view_nulls, view_tables}
use Rattle.convert.proofs.convert_lists.Subtree.{Alike, kid_same}
use Rattle.convert.proofs.convert_lists.Below.{held_at, nulls_same, length_same, offset_same, valid_same, first_same, second_same, data_same, valid_in_lem, one_in_lem, two_in_lem, buffers_in_lem}

holds : {b : Bool} → b ≡ true → T b
holds e = subst T (sym e) tt

module _ (there here : Tree) (a : Alike there here) (x : Tables) (first n : ℕ) (root : Tables) (count_is : here.count ≡ n) (rules : T (source_rule here (tables_from x first)))
    (longer : length x.body ≤ length root.body) (same_part : (at size : ℕ) → at + size ≤ length x.body → part root.body at size ≡ part x.body at size) where
  abbrev Y : Tables
  Y = view_tables x first n root

  abbrev own : Tables
  own = tables_from x first

  -- ---- what the column's rules say of where a node's buffers lie

  placed_by : (k : NodeKind) (i : ℕ) → kind_rule here own k i ≡ true → placed_as here own k i ≡ true
  placed_by (fixed_node m) i h = and_left (one_in own i) _ h
  placed_by (string_node w) i h = and_left (two_in own i) _ h
  placed_by view_node i h = and_left (one_in own i && buffers_in own i) _ h
  placed_by (list_view_node w) i h = and_left (two_in own i) _ h
  placed_by (list_node w) i h = and_left (one_in own i) _ h
  placed_by (sparse_node ids) i h = and_left (one_in own i) _ h
  placed_by (dense_node ids) i h = and_left (two_in own i) _ h
  placed_by (run_end_node w) i h = and_left (held own i && valid_in own i) _ h
  placed_by (dictionary_node m) i h = and_left (one_in own i) _ h

  placed_at : (k : NodeKind) (i : ℕ) → Is here i k → placed_as here own k i ≡ true
  placed_at k i h = placed_by k i (is_true _ (subst (λ k. T (kind_rule here own k i)) h.1 (every_out (node_rule here own) here.count rules i h.0)))

  one_valid : (i : ℕ) → one_in own i ≡ true → valid_in own i ≡ true
  one_valid i h = and_right (held own i) _ (and_left (held own i && valid_in own i) _ h)

  valid_by : (k : NodeKind) (i : ℕ) → placed_as here own k i ≡ true → valid_in own i ≡ true
  valid_by (fixed_node m) i h = one_valid i h
  valid_by (string_node w) i h = one_valid i (two_one own i h)
  valid_by view_node i h = one_valid i (and_left (one_in own i) _ h)
  valid_by (list_view_node w) i h = one_valid i (two_one own i h)
  valid_by (list_node w) i h = one_valid i h
  valid_by (sparse_node ids) i h = one_valid i h
  valid_by (dense_node ids) i h = one_valid i (two_one own i h)
  valid_by (run_end_node w) i h = and_right (held own i) _ h
  valid_by (dictionary_node m) i h = one_valid i h

  -- ---- one node

  within : (i : ℕ) (k : NodeKind) → Is here i k → i < n
  within i k h = omega (arith, h.0, count_is)

  node : {B : Type 0} (i : ℕ) (p : 0 < i) (k : NodeKind) → Is here i k → (inner : B → Type 0) (b c : B) → inner c
      → ShowsNode Y i inner (record { len = length_of own i; off = offset_of own i; valid = cond (eqb (null_count_of (array_with own b i)) 0) none (valid_of own i); body = c })
  node i p k h inner b c q =
      let l = within i k h in
      record {
        len_is = length_same x first n root i p l;
        off_is = offset_same x first n root i p l;
        valid_is = valid_same x first n root longer same_part i p l (valid_by k i (placed_at k i h));
        body_is = q;
      }

  first_of_lem : (i : ℕ) (p : 0 < i) → i < n → one_in own i ≡ true → first_buffer Y i ≡ first_buffer own i
  first_of_lem i p l h = first_same x first n root longer same_part i p l (first_in own i h)

  module _ (i : ℕ) (p : 0 < i) (l : i < n) where
    abbrev Second : Type 0
    Second = Rattle.array_data.specs.Tables.second_buffer Y i ≡ Rattle.array_data.specs.Tables.second_buffer own i

    second_of : two_in own i ≡ true → Second
    second_of h = second_same x first n root longer same_part i p l (second_in own i h)

  plain_shows : (q : Plain) (i : ℕ) → 0 < i → MeansPlain here q i → ShowsPlain there Y q i (plain_body here own q i)
  plain_shows (fixed m) i p h = first_of_lem i p (within i _ h) (placed_at (fixed_node m) i h)
  plain_shows (string w) i p h =
      let z = placed_at (string_node w) i h in
      let l = within i _ h in
      (first_of_lem i p l (two_one own i z), second_of i p l z)

  -- the kind that a type's node is of
  kind_of_lem : (u : Ty) (i : ℕ) → Means here u i → Is here i (kind_in here i)
  kind_of_lem (t_plain (fixed m)) i h = (h.0, refl)
  kind_of_lem (t_plain (string w)) i h = (h.0, refl)
  kind_of_lem t_view i h = (h.0, refl)
  kind_of_lem (t_list_view w u) i h = (h.0.0, refl)
  kind_of_lem (t_list w u) i h = (h.0.0, refl)
  kind_of_lem (t_sparse ids nullable f) i h = (h.0.0, refl)
  kind_of_lem (t_dense ids nullable f) i h = (h.0.0, refl)
  kind_of_lem (t_run_end w u) i h = (h.0.0, refl)
  kind_of_lem (t_dictionary k q) i h = (h.0.0, refl)

  plain_kind_lem : (q : Plain) (i : ℕ) → MeansPlain here q i → Is here i (kind_in here i)
  plain_kind_lem (fixed m) i h = (h.0, refl)
  plain_kind_lem (string w) i h = (h.0, refl)

  -- ---- byte for byte

  whole : (u : Ty) (i : ℕ) → 0 < i → Means here u i → ShowsData there Y u i (named_body u (body_of here own u i)) → Shows there Y u i (named u (column_of here own u i))
  whole u i p h q = node i p (kind_in here i) (kind_of_lem u i h) (ShowsData there Y u i) (body_of here own u i) (named_body u (body_of here own u i)) q

  -- a union's child, at the node that the result's tree gives
  abbrev Field : (i : ℕ) (ids : List ℕ) (u : Ty) → ℕ → Type 0
  Field i ids u c = Shows there Y u (node_of there i ids c) (named u (column_of here own u (node_of here i ids c)))

  later : (i : ℕ) (ids : List ℕ) (c : ℕ) → 0 < i → 0 < node_of here i ids c
  later i ids c p = subst (λ k. 0 < k) (kid_same there here a i (field_of ids c) p) (a.later i (field_of ids c) p)

  field : (i : ℕ) (ids : List ℕ) (u : Ty) (c : ℕ) → 0 < i → Shows there Y u (node_of here i ids c) (named u (column_of here own u (node_of here i ids c))) → Field i ids u c
  field i ids u c p q = subst (λ k. Shows there Y u k (named u (column_of here own u (node_of here i ids c)))) (sym (kid_same there here a i (field_of ids c) p)) q

  data_shows : (u : Ty) (i : ℕ) → 0 < i → Means here u i → ShowsData there Y u i (named_body u (body_of here own u i))
  data_shows (t_plain q) i p h = plain_shows q i p h
  data_shows t_view i p h =
      let z = placed_at view_node i h in
      let l = within i view_node h in
      (first_of_lem i p l (and_left (one_in own i) _ z), data_same x first n root longer same_part i p l (and_right (one_in own i) _ z))
  data_shows (t_list_view w u) i p h =
      let z = placed_at (list_view_node w) i h.0 in
      let l = within i (list_view_node w) h.0 in
      (first_of_lem i p l (two_one own i z), second_of i p l z, whole u (suc i) (omega arith) h.1 (data_shows u (suc i) (omega arith) h.1))
  data_shows (t_list w u) i p h =
      (first_of_lem i p (within i (list_node w) h.0) (placed_at (list_node w) i h.0), whole u (suc i) (omega arith) h.1 (data_shows u (suc i) (omega arith) h.1))
  data_shows (t_sparse ids nullable f) i p h = (
    first_of_lem i p (within i (sparse_node ids) h.0) (placed_at (sparse_node ids) i h.0),
    λ c q. let k = node_of here i ids c in
        let j = later i ids c p in
        field i ids (f c) c p (whole (f c) k j (h.1 c q).1 (data_shows (f c) k j (h.1 c q).1)),
  )
  data_shows (t_dense ids nullable f) i p h =
      let z = placed_at (dense_node ids) i h.0 in
      let l = within i (dense_node ids) h.0 in (
        first_of_lem i p l (two_one own i z),
        second_of i p l z,
        λ c q. let k = node_of here i ids c in
            let j = later i ids c p in
            field i ids (f c) c p (whole (f c) k j (h.1 c q).1 (data_shows (f c) k j (h.1 c q).1)),
      )
  data_shows (t_run_end w u) i p h =
      let e = h.1.is_ends_lem in
      let z = placed_at (fixed_node h.1.number) (suc i) e in (
        node (suc i) (omega arith) (fixed_node h.1.number) e (λ s. first_buffer Y (suc i) ≡ s) (first_buffer own (suc i)) (first_buffer own (suc i)) (first_of_lem (suc i) (omega arith) (within (suc i) (fixed_node h.1.number) e) z),
        whole u (suc (suc i)) (omega arith) h.2 (data_shows u (suc (suc i)) (omega arith) h.2),
      )
  data_shows (t_dictionary k q) i p h = (
    first_of_lem i p (within i (dictionary_node k) h.0) (placed_at (dictionary_node k) i h.0),
    node (suc i) (omega arith) (kind_in here (suc i)) (plain_kind_lem q (suc i) h.1) (ShowsPlain there Y q (suc i)) (plain_body here own q (suc i)) (plain_body here own q (suc i)) (plain_shows q (suc i) (omega arith) h.1),
  )

  -- THE CHILD, where the column's tables name it
  pub below_shows : (u : Ty) (i : ℕ) → 0 < i → Means here u i → Shows there Y u i (named u (column_of here own u i))
  below_shows u i p h = whole u i p h (data_shows u i p h)

  -- ---- its null counts

  module _ (nulls : List ℕ) where
    abbrev N : List ℕ
    N = view_nulls x first n nulls

    count : {B : Type 0} (i : ℕ) → 0 < i → i < n → (inner : B → Type 0) (b c : B) → inner c
        → CountsNode N i inner (record { len = length_of own i; off = offset_of own i; valid = cond (eqb (null_count_of (array_with own b i)) 0) none (valid_of own i); body = c })
    count i p l inner b c q = record { count_is = nulls_same x first n root i p l nulls ∙ sym (present_nulls (array_with own b i)); below = q }

    counted : (u : Ty) (i : ℕ) → 0 < i → Means here u i → CountsData there N u i (named_body u (body_of here own u i)) → Counts there N u i (named u (column_of here own u i))
    counted u i p h q = count i p (within i (kind_in here i) (kind_of_lem u i h)) (CountsData there N u i) (body_of here own u i) (named_body u (body_of here own u i)) q

    data_counters : (u : Ty) (i : ℕ) → 0 < i → Means here u i → CountsData there N u i (named_body u (body_of here own u i))
    data_counters (t_plain q) i p h = tt
    data_counters t_view i p h = tt
    data_counters (t_list_view w u) i p h = counted u (suc i) (omega arith) h.1 (data_counters u (suc i) (omega arith) h.1)
    data_counters (t_list w u) i p h = counted u (suc i) (omega arith) h.1 (data_counters u (suc i) (omega arith) h.1)
    data_counters (t_sparse ids nullable f) i p h =
        λ c q. let k = node_of here i ids c in
        let j = later i ids c p in
        subst (λ k2. Counts there N (f c) k2 (named (f c) (column_of here own (f c) k))) (sym (kid_same there here a i (field_of ids c) p)) (counted (f c) k j (h.1 c q).1 (data_counters (f c) k j (h.1 c q).1))
    data_counters (t_dense ids nullable f) i p h =
        λ c q. let k = node_of here i ids c in
        let j = later i ids c p in
        subst (λ k2. Counts there N (f c) k2 (named (f c) (column_of here own (f c) k))) (sym (kid_same there here a i (field_of ids c) p)) (counted (f c) k j (h.1 c q).1 (data_counters (f c) k j (h.1 c q).1))
    data_counters (t_run_end w u) i p h = (
      count (suc i) (omega arith) (within (suc i) (fixed_node h.1.number) h.1.is_ends_lem) (λ s. Unit {0}) (first_buffer own (suc i)) (first_buffer own (suc i)) tt,
      counted u (suc (suc i)) (omega arith) h.2 (data_counters u (suc (suc i)) (omega arith) h.2),
    )
    data_counters (t_dictionary k q) i p h =
        count (suc i) (omega arith) (within (suc i) (kind_in here (suc i)) (plain_kind_lem q (suc i) h.1)) (λ s. Unit {0}) (plain_body here own q (suc i)) (plain_body here own q (suc i)) tt

    pub below_counters : (u : Ty) (i : ℕ) → 0 < i → Means here u i → Counts there N u i (named u (column_of here own u i))
    below_counters u i p h = counted u i p h (data_counters u i p h)

  -- ---- every node below lies in the body

  placed_there : (k : NodeKind) (i : ℕ) → 0 < i → i < n → placed_as here own k i ≡ true → placed_as there Y k i ≡ true
  placed_there (fixed_node m) i p l h = one_in_lem x first n root longer same_part i p l h
  placed_there (string_node w) i p l h = two_in_lem x first n root longer same_part i p l h
  placed_there view_node i p l h =
      rw (one_in_lem x first n root longer same_part i p l (and_left (one_in own i) _ h)) (buffers_in_lem x first n root longer same_part i p l (and_right (one_in own i) _ h))
  placed_there (list_view_node w) i p l h = two_in_lem x first n root longer same_part i p l h
  placed_there (list_node w) i p l h = one_in_lem x first n root longer same_part i p l h
  placed_there (sparse_node ids) i p l h = one_in_lem x first n root longer same_part i p l h
  placed_there (dense_node ids) i p l h = two_in_lem x first n root longer same_part i p l h
  placed_there (run_end_node w) i p l h = rw (held_at x first n root i l) (valid_in_lem x first n root longer same_part i p l (and_right (held own i) _ h))
  placed_there (dictionary_node m) i p l h = one_in_lem x first n root longer same_part i p l h

  pub below_placed : (i : ℕ) → 0 < i → i < n → T (placed there Y i)
  below_placed i p l =
      let c : i < here.count = omega (arith, l, count_is) in
      let e = a.kinds i p (omega (arith, c, a.counters)) in
      placed_as_lem there Y i e (holds (placed_there (kind_in here i) i p l (placed_at (kind_in here i) i (c, refl))))
