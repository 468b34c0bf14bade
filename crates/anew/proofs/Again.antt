-- The finished column passes ground 12 where it is lent again, and reads as the column that stands. Assumes nothing.
use mathlib.Core.Path.{◌≡◌, refl, sym, ap, subst, ◌∙◌}
use mathlib.Core.Bool.{Bool, true, false, cond, ◌&&◌}
use mathlib.Core.Option.{Option, none, some}
use mathlib.Core.List.{List}
use Prim.Native.Nat.{ℕ, zero, suc, ◌+◌, ◌*◌, ◌/◌, ◌≤◌, ◌<◌}
use native.Mathlib.Omega.{arith}
use lib.ListN.{length, take, length-take}
use lib.Dec.{T, eqb}
use borrow.Author.Tests.{le-leb}
use Rattle.columnar.specs.Types.{Plain, fixed, string, Ty, t_plain, t_view, t_list_view, t_list, t_sparse, t_dense, t_run_end, t_dictionary}
use Rattle.columnar.specs.Array.{Array}
use Rattle.columnar.specs.Plain.{PlainBody}
use Rattle.columnar.specs.View.{Views}
use Rattle.columnar.specs.Reading.{Column, read_all, Source}
use Rattle.columnar.proofs.Test.{test_complete}
use Rattle.array_data.specs.Tables.{Tables, place, held, in_body, valid_in}
use Rattle.array_data.specs.Rules.{one_in, two_in, buffers_in}
use Rattle.array_data.proofs.type_tree.ByKind.{placed_as_lem}
use Rattle.array_data.specs.Typed.{Tree, MeansPlain, Means, column_of, source_rule, placed}
use Rattle.schema.specs.Tree.{ceilings, typed}
use Rattle.array_data.specs.type_tree.Lent.{tree_of, type_of}
use Rattle.array_data.proofs.type_tree.Source.{lent_obeys}
use Rattle.schema.specs.formats.Code.{is_view}
use Rattle.model.proofs.Bits.{length_seg}
use Rattle.walk.specs.State.{code_of, dictionary_of, rows}
use Rattle.walk.specs.Log.{start_of}
use Rattle.refinement.specs.walk_is_model.Memory.{Memory}
use Rattle.refinement.specs.walk_is_model.Holds.{Worded}
use Rattle.refinement.specs.walk_is_model.Lent.{LentValid, LentPlain}
use Rattle.plan.specs.parts.Parts.{nodes_of, copied, has_part, needed, Used}
use Rattle.plan.proofs.parts.Placed.{used_holds}
use Rattle.refinement.specs.orders.Order.{Lent, join_of}
use Rattle.refinement.proofs.orders.Buffers.{copied_free}
use Rattle.refinement.proofs.orders.Enough.{every_all}
use Rattle.refinement.specs.finishing.Finish.{zeros_at, nulls_at, sources, buffers_of, buffers_before, buffer_start, buffer_size, copied_place, place_at, length_table, place_table}
use Rattle.refinement.specs.finishing.Shows.{finished_tables, Bodied}
use Rattle.refinement.proofs.finishing.Lookups.{place_at_lem}
use Rattle.refinement.proofs.finishing.Given.{Named}
use Rattle.refinement.proofs.finishing.KeptValues.{valid_place_lem, place_is}
use Rattle.refinement.proofs.finishing.Names.{all_long, before_in, buffers_lie, from_place, many_place}
use Rattle.refinement.proofs.finishing.Finished.{kept_not}
use Rattle.refinement.proofs.finishing.Reading.{shows_all, shows_obeys}
use Rattle.anew.specs.Stood.{StoodValues, in_parts, kept, Stood}
use Rattle.anew.proofs.Standing.{Standing, every_node}
use Rattle.anew.proofs.Bounds.{parts_copied}
use Rattle.anew.proofs.Shown.{named_one, few_one, one_source, stood_shows}

holds : {b : Bool} → b ≡ true → T b
holds e = subst T (sym e) tt

module _ (x : Lent) (buffers : List ℕ) (tree : Tree) (root : Ty) (column : Column root) (counters room : List ℕ) (μ : Memory) (st : Standing x buffers tree root column counters room μ)
    (base : ℕ) (body : List ℕ) (bodied : Bodied body x room base) where
  abbrev plan : List ℕ
  plan = x.plan

  abbrev Y : Tables
  Y = finished_tables x buffers counters room base body

  source_long : length x.body ≤ length body
  source_long = let e : length (take (length x.body) body) ≡ length x.body = ap length bodied.front in omega (arith, length-take (length x.body) body)

  -- a range of the column's body
  in_source : (a b : ℕ) → a + b ≤ length x.body → in_body Y a b ≡ true
  in_source a b h = le-leb (a + b) (length body) (omega (arith, source_long))

  -- ---- any node

  module _ (i : ℕ) (l : i < nodes_of plan) where
    held_at : held Y i ≡ true
    unfolding length_table place_table
    held_at =
        let a : length Y.lengths ≡ 2 * nodes_of plan = length_seg _ 0 (2 * nodes_of plan) in
        let b : length Y.places ≡ 9 * nodes_of plan = length_seg _ 0 (9 * nodes_of plan) in
        rw (le-leb (2 * suc i) (length Y.lengths) (omega arith)) (le-leb (9 * suc i) (length Y.places) (omega arith))

    one_in_lem : valid_in Y i ≡ true → in_body Y (place Y i 3) (place Y i 4) ≡ true → one_in Y i ≡ true
    one_in_lem v b = rw (held_at, v, b)

    two_in_lem : one_in Y i ≡ true → in_body Y (place Y i 5) (place Y i 6) ≡ true → two_in Y i ≡ true
    two_in_lem o b = rw (o, b)

  -- ---- a node in parts

  module _ (i : ℕ) (l : i < nodes_of plan) (c : copied plan i ≡ true) where
    copied_place_lem : (j : ℕ) → j < 9 → place Y i j ≡ copied_place x buffers counters room base i j
    unfolding place_at
    copied_place_lem j k = place_at_lem x buffers counters room base body i l j k ∙ rw c

    part_inside : (b : ℕ) → has_part plan i b ≡ true → in_body Y (base + start_of plan x.parts i b) (needed plan counters i b) ≡ true
    part_inside b h =
        let u : Used plan i b = record { node = l; part = h } in
        le-leb (base + start_of plan x.parts i b + needed plan counters i b) (length body)
        (omega (arith, st.placed.inside i b u, used_holds plan counters x.parts st.enough i b u, bodied.inside))

    buffer_inside : (b : ℕ) → in_body Y (buffer_start x buffers counters room base i b) (buffer_size x buffers counters room base i b) ≡ true
    buffer_inside b = go (has_part plan i b) refl
      where
        go : (h : Bool) → has_part plan i b ≡ h → in_body Y (cond h (base + start_of plan x.parts i b) 0) (cond h (needed plan counters i b) 0) ≡ true
        go true e = part_inside b e
        go false e = le-leb 0 (length body) (omega arith)

    zeros_part : eqb (zeros_at x buffers counters room base i) 0 ≡ false → has_part plan i 0 ≡ true
    unfolding zeros_at
    zeros_part = go (has_part plan i 0) _
      where
        go : (h : Bool) (n : ℕ) → eqb (cond h n 0) 0 ≡ false → h ≡ true
        go true n e = refl
        go false n e = absurd (let z : ◌≡◌ {A = ℕ} 0 1 = cc e in omega arith)

    valid_inside : valid_in Y i ≡ true
    unfolding copied_place
    valid_inside = rw (copied_place_lem 0 (omega arith), copied_place_lem 1 (omega arith), copied_place_lem 2 (omega arith)) (go (eqb (zeros_at x buffers counters room base i) 0) refl)
      where
        go : (z : Bool) → eqb (zeros_at x buffers counters room base i) 0 ≡ z
            → cond (eqb (cond z 0 1) 0) true (in_body Y (cond z 0 (base + start_of plan x.parts i 0)) (cond z 0 ((rows counters i + 7) / 8))) ≡ true
        go true e = refl
        go false e = part_inside 0 (zeros_part e)

    copied_one : one_in Y i ≡ true
    unfolding copied_place
    copied_one = one_in_lem i l valid_inside (rw (copied_place_lem 3 (omega arith), copied_place_lem 4 (omega arith)) (buffer_inside 1))

    copied_two : two_in Y i ≡ true
    unfolding copied_place
    copied_two = two_in_lem i l copied_one (rw (copied_place_lem 5 (omega arith), copied_place_lem 6 (omega arith)) (buffer_inside 2))

    -- its data buffers
    names_in : is_view (code_of plan i) ≡ true → (v : Views) → ((s : ℕ) → s < 1 → Named x buffers s i v)
        → ((s : ℕ) → s < 1 → Rattle.walk.specs.State.place (join_of x s) i 8 ≤ 32) → buffers_in Y i ≡ true
    names_in w v h short =
        let one = one_source x buffers tree root column counters room μ st base body bodied in
        let p = from_place x buffers counters room base body bodied 1 one i l c w (λ j. v) h short in
        let q = many_place x buffers counters room base body bodied 1 one i l c w (λ j. v) h short in
        let a = before_in x buffers counters room base i (nodes_of plan) l w in
        let b = all_long x buffers counters room base (nodes_of plan) in
        let g = buffers_lie x buffers counters room base body bodied 1 one i l c w (λ j. v) h short in
        rw (p, q, le-leb (2 * (buffers_before x buffers counters room base i + buffers_of x buffers counters room base i (sources x buffers counters room base))) (length Y.buffers) (omega arith))
        (every_all _ _ (λ k n. in_source _ _ (g k n)))

  -- ---- a kept dictionary

  module _ (i : ℕ) (l : i < nodes_of plan) (c : copied plan i ≡ false) where
    abbrev spot : ℕ → ℕ
    spot = Rattle.walk.specs.State.place (join_of x 0) i

    kept_place_lem : (j : ℕ) → 3 ≤ j → j < 7 → place Y i j ≡ spot j
    kept_place_lem = place_is tree x buffers counters room base body bodied i l c

    -- of its validity, if a bit is 0
    shown : (j : ℕ) → j < 3 → place Y i j ≡ cond (eqb (nulls_at x buffers counters room base i) 0) 0 (spot j)
    shown = valid_place_lem tree x buffers counters room base body bodied i l c

    kept_valid : (o : Option (List ℕ)) → LentValid (join_of x 0) i o → valid_in Y i ≡ true
    kept_valid o h = rw (shown 0 (omega arith), shown 1 (omega arith), shown 2 (omega arith)) (go (eqb (nulls_at x buffers counters room base i) 0) o h)
      where
        go : (z : Bool) (o : Option (List ℕ)) → LentValid (join_of x 0) i o → cond (eqb (cond z 0 (spot 0)) 0) true (in_body Y (cond z 0 (spot 1)) (cond z 0 (spot 2))) ≡ true
        go true o h = refl
        go false none h = rw h
        go false (some s) h = rw h.0 (in_source _ _ h.1.inside)

    kept_placed : (p : Plain) (b : PlainBody p) → valid_in Y i ≡ true → LentPlain (join_of x 0) p i b → MeansPlain tree p i → T (placed tree Y i)
    kept_placed (fixed n) b v h mn =
        placed_as_lem tree Y i mn.1 (holds (one_in_lem i l v (rw (kept_place_lem 3 (omega arith) (omega arith), kept_place_lem 4 (omega arith) (omega arith)) (in_source _ _ h.inside))))
    kept_placed (string w) b v h mn =
        placed_as_lem tree Y i mn.1
        (holds
        (two_in_lem i l (one_in_lem i l v (rw (kept_place_lem 3 (omega arith) (omega arith), kept_place_lem 4 (omega arith) (omega arith)) (in_source _ _ h.0.inside)))
        (rw (kept_place_lem 5 (omega arith) (omega arith), kept_place_lem 6 (omega arith) (omega arith)) (in_source _ _ h.1.inside))))

  -- ---- all nodes

  plain_placed : (p : Plain) (i : ℕ) → i < nodes_of plan → copied plan i ≡ true → MeansPlain tree p i → T (placed tree Y i)
  plain_placed (fixed n) i l c mn = placed_as_lem tree Y i mn.1 (holds (copied_one i l c))
  plain_placed (string w) i l c mn = placed_as_lem tree Y i mn.1 (holds (copied_two i l c))

  own_placed : (k : ℕ) (t : Ty) (i : ℕ) (a : Column t) → Worded plan k t i → i < nodes_of plan → copied plan i ≡ true → Means tree t i → Stood x buffers counters μ t i a → T (placed tree Y i)
  own_placed (suc k) (t_plain p) i a w l c mn h = plain_placed p i l c mn
  own_placed (suc k) t_view i a w l c mn h =
      placed_as_lem tree Y i mn.1 (holds {b = one_in Y i && buffers_in Y i} (rw (copied_one i l c) (names_in i l c w.2 a.body (named_one x buffers counters μ i a.body h.body_is.1) (few_one x buffers counters μ i a.body h.body_is.1))))
  own_placed (suc k) (t_list_view v t) i a w l c mn h = placed_as_lem tree Y i mn.0.1 (holds (copied_two i l c))
  own_placed (suc k) (t_list v t) i a w l c mn h = placed_as_lem tree Y i mn.0.1 (holds (copied_one i l c))
  own_placed (suc k) (t_sparse ids nullable f) i a w l c mn h = placed_as_lem tree Y i mn.0.1 (holds (copied_one i l c))
  own_placed (suc k) (t_dense ids nullable f) i a w l c mn h = placed_as_lem tree Y i mn.0.1 (holds (copied_two i l c))
  own_placed (suc k) (t_run_end v t) i a w l c mn h = placed_as_lem tree Y i mn.0.1 (holds {b = held Y i && valid_in Y i} (rw (held_at i l) (valid_inside i l c)))
  own_placed (suc k) (t_dictionary n p) i a w l c mn h = placed_as_lem tree Y i mn.0.1 (holds (copied_one i l c))
  own_placed zero t i a w l c mn h = elim w [ ]

  values_placed : (p : Plain) (i : ℕ) (a : Array (PlainBody p)) → suc i < nodes_of plan → (dictionary_of plan i ≡ 0 → ⊥) → MeansPlain tree p (suc i) → StoodValues x buffers counters μ p i a → T (placed tree Y (suc i))
  values_placed p i a l dict mn (in_parts e h) = plain_placed p (suc i) l (parts_copied plan i dict e) mn
  values_placed p i a l dict mn (kept e v h o q) =
      let c = kept_not plan i dict e in
      kept_placed (suc i) l c p v.body (kept_valid (suc i) l c v.valid h.valid_is) h.body_is mn

  -- EVERY NODE'S BUFFERS LIE IN THE BODY
  pub all_placed : (j : ℕ) → j < nodes_of plan → T (placed tree Y j)
  all_placed =
      every_node x buffers tree root column counters μ st.of_type st.stood (λ j. T (placed tree Y j)) (λ k t i a w l o mn h. own_placed k t i a w l (copied_free plan i o) mn h)
      (λ w i a l o f e mn h. plain_placed (fixed mn.number) i l (copied_free plan i o) mn.is_ends_lem) (λ p i a l dict mn h. values_placed p i a l dict mn h)

  -- ITS ROWS are those of the column
  pub stood_reads : Source root column → read_all root (column_of tree Y root 0) ≡ read_all root column
  stood_reads = shows_all tree Y root 0 column (stood_shows x buffers tree root column counters room μ st base body bodied)

  pub stood_obeys : Source root column → Source root (column_of tree Y root 0)
  stood_obeys = shows_obeys tree Y root 0 column (stood_shows x buffers tree root column counters room μ st base body bodied)

-- THE FINISHED COLUMN PASSES GROUND 12 where it is lent again
pub stood_again : (x : Lent) (buffers formats schema : List ℕ) (first n : ℕ) (column : Column (type_of formats schema first n)) (counters room : List ℕ) (μ : Memory)
    → Standing x buffers (tree_of formats schema first n) (type_of formats schema first n) column counters room μ → (base : ℕ) (body : List ℕ) → Bodied body x room base → typed formats schema first n ≡ true
    → ceilings formats schema first n ≡ true → n ≡ nodes_of x.plan → Source (type_of formats schema first n) column
    → T (source_rule (tree_of formats schema first n) (finished_tables x buffers counters room base body))
stood_again x buffers formats schema first n column counters room μ st base body bodied t c e s =
    lent_obeys formats schema first n (finished_tables x buffers counters room base body) t c
    (λ j l. all_placed x buffers (tree_of formats schema first n) (type_of formats schema first n) column counters room μ st base body bodied j (omega arith))
    (test_complete (type_of formats schema first n) _ (stood_obeys x buffers (tree_of formats schema first n) (type_of formats schema first n) column counters room μ st base body bodied s))
