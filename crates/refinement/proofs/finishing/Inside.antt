-- The buffers that the finished tables name lie in the body, so that the finished array passes ground 12 where it is lent again.
-- Assumes nothing.
use mathlib.Core.Path.{◌≡◌, refl, sym, ap, subst, ◌∙◌}
use mathlib.Core.Bool.{Bool, true, false, cond, ◌&&◌}
use mathlib.Core.Option.{Option, none, some}
use mathlib.Core.List.{List}
use Prim.Native.Nat.{ℕ, zero, suc, ◌+◌, ◌*◌, ◌/◌, ◌≤◌, ◌<◌}
use native.Mathlib.Omega.{arith}
use lib.ListN.{length, take, length-take}
use lib.Dec.{T, eqb}
use borrow.Author.Tests.{le-leb}
use Rattle.columnar.specs.Types.{Plain, fixed, string, Ty, t_plain, t_view, t_list_view, t_list, t_sparse, t_dense, t_run_end, t_dictionary}
use Rattle.columnar.specs.Plain.{PlainBody}
use Rattle.columnar.specs.Dictionary.{Dictionary}
use Rattle.columnar.specs.Reading.{Body, Column}
use Rattle.columnar.proofs.Test.{test_complete}
use Rattle.array_data.specs.Tables.{Tables, place, held, in_body, valid_in}
use Rattle.array_data.specs.Rules.{one_in, two_in, buffers_in}
use Rattle.array_data.proofs.type_tree.ByKind.{placed_as_lem}
use Rattle.array_data.specs.Typed.{Tree, MeansPlain, Means, source_rule, placed}
use Rattle.schema.specs.Tree.{ceilings, typed}
use Rattle.array_data.specs.type_tree.Lent.{tree_of, type_of}
use Rattle.array_data.proofs.type_tree.Source.{lent_obeys}
use Rattle.schema.specs.formats.Code.{is_view}
use Rattle.model.specs.Opening.{shared}
use Rattle.model.specs.Transform.{Destination}
use Rattle.model.proofs.Bits.{length_seg}
use Rattle.model.proofs.Owed.{Ready}
use Rattle.walk.specs.State.{code_of, dictionary_of, rows}
use Rattle.walk.specs.Log.{start_of}
use Rattle.refinement.specs.walk_is_model.Memory.{Memory}
use Rattle.refinement.specs.walk_is_model.Holds.{Worded}
use Rattle.refinement.specs.walk_is_model.Lent.{LentValid, LentPlain}
use Rattle.plan.specs.parts.Parts.{nodes_of, copied, has_part, needed, Used}
use Rattle.refinement.specs.orders.Order.{Lent, join_of}
use Rattle.refinement.proofs.orders.Buffers.{copied_free}
use Rattle.refinement.proofs.orders.Enough.{every_all}
use Rattle.refinement.proofs.opening.Zeros.{values_copied}
use Rattle.refinement.specs.finishing.Finish.{zeros_at, nulls_at, sources, buffers_of, buffers_before, buffer_start, buffer_size, copied_place, place_at, length_table, place_table}
use Rattle.refinement.specs.finishing.Shows.{finished_tables, Bodied}
use Rattle.refinement.proofs.finishing.Lookups.{place_at_lem}
use Rattle.refinement.proofs.finishing.Given.{named_few, Named, Valued, Stands, Given}
use Rattle.refinement.proofs.finishing.KeptValues.{valid_place_lem, place_is}
use Rattle.refinement.proofs.finishing.Names.{all_long, before_in, buffers_lie, from_place, many_place}
use Rattle.refinement.proofs.finishing.Finished.{kept_not, all_sources}
use Rattle.refinement.proofs.finishing.Nodes.{every_node}
use Rattle.refinement.proofs.finishing.Again.{finished_obeys}

holds : {b : Bool} → b ≡ true → T b
holds e = subst T (sym e) tt

module _ (x : Lent) (buffers : List ℕ) (tree : Tree) (root : Ty) (m : ℕ) (columns : ℕ → Column root) (dest : Destination root) (counters room : List ℕ) (μ : Memory)
    (given : Given x buffers tree root m columns dest counters room μ) (base : ℕ) (body : List ℕ) (bodied : Bodied body x room base) where
  abbrev Y : Tables
  Y = finished_tables x buffers counters room base body

  source_long : length x.body ≤ length body
  source_long = let e : length (take (length x.body) body) ≡ length x.body = ap length bodied.front in omega (arith, length-take (length x.body) body)

  -- a range of the sources' body
  in_source : (a b : ℕ) → a + b ≤ length x.body → in_body Y a b ≡ true
  in_source a b h = le-leb (a + b) (length body) (omega (arith, source_long))

  -- ---- any node

  module _ (i : ℕ) (l : i < nodes_of x.plan) where
    held_at : held Y i ≡ true
    unfolding length_table place_table
    held_at =
        let a : length Y.lengths ≡ 2 * nodes_of x.plan = length_seg _ 0 (2 * nodes_of x.plan) in
        let b : length Y.places ≡ 9 * nodes_of x.plan = length_seg _ 0 (9 * nodes_of x.plan) in
        rw (le-leb (2 * suc i) (length Y.lengths) (omega arith)) (le-leb (9 * suc i) (length Y.places) (omega arith))

    one_in_lem : valid_in Y i ≡ true → in_body Y (place Y i 3) (place Y i 4) ≡ true → one_in Y i ≡ true
    one_in_lem v b = rw (held_at, v, b)

    two_in_lem : one_in Y i ≡ true → in_body Y (place Y i 5) (place Y i 6) ≡ true → two_in Y i ≡ true
    two_in_lem o b = rw (o, b)

  -- ---- a copied node

  module _ (i : ℕ) (l : i < nodes_of x.plan) (c : copied x.plan i ≡ true) where
    copied_place_lem : (j : ℕ) → j < 9 → place Y i j ≡ copied_place x buffers counters room base i j
    unfolding place_at
    copied_place_lem j k = place_at_lem x buffers counters room base body i l j k ∙ rw c

    part_inside : (b : ℕ) → has_part x.plan i b ≡ true → in_body Y (base + start_of x.plan x.parts i b) (needed x.plan counters i b) ≡ true
    part_inside b h =
        let u : Used x.plan i b = record { node = l; part = h } in
        le-leb (base + start_of x.plan x.parts i b + needed x.plan counters i b) (length body)
        (omega (arith, given.placed.inside i b u, (given.bounded i b u).needs, bodied.inside))

    buffer_inside : (b : ℕ) → in_body Y (buffer_start x buffers counters room base i b) (buffer_size x buffers counters room base i b) ≡ true
    buffer_inside b = go (has_part x.plan i b) refl
      where
        go : (h : Bool) → has_part x.plan i b ≡ h → in_body Y (cond h (base + start_of x.plan x.parts i b) 0) (cond h (needed x.plan counters i b) 0) ≡ true
        go true e = part_inside b e
        go false e = le-leb 0 (length body) (omega arith)

    zeros_part : eqb (zeros_at x buffers counters room base i) 0 ≡ false → has_part x.plan i 0 ≡ true
    unfolding zeros_at
    zeros_part = go (has_part x.plan i 0) _
      where
        go : (h : Bool) (n : ℕ) → eqb (cond h n 0) 0 ≡ false → h ≡ true
        go true n e = refl
        go false n e = absurd (let z : ◌≡◌ {A = ℕ} 0 1 = cc e in omega arith)

    valid_inside : valid_in Y i ≡ true
    unfolding copied_place
    valid_inside = rw (copied_place_lem 0 (omega arith), copied_place_lem 1 (omega arith), copied_place_lem 2 (omega arith)) (go (eqb (zeros_at x buffers counters room base i) 0) refl)
      where
        go : (z : Bool) → eqb (zeros_at x buffers counters room base i) 0 ≡ z
            → cond (eqb (cond z 0 1) 0) true (in_body Y (cond z 0 (base + start_of x.plan x.parts i 0)) (cond z 0 ((rows counters i + 7) / 8))) ≡ true
        go true e = refl
        go false e = part_inside 0 (zeros_part e)

    copied_one : one_in Y i ≡ true
    unfolding copied_place
    copied_one = one_in_lem i l valid_inside (rw (copied_place_lem 3 (omega arith), copied_place_lem 4 (omega arith)) (buffer_inside 1))

    copied_two : two_in Y i ≡ true
    unfolding copied_place
    copied_two = two_in_lem i l copied_one (rw (copied_place_lem 5 (omega arith), copied_place_lem 6 (omega arith)) (buffer_inside 2))

    -- its data buffers
    names_in : is_view (code_of x.plan i) ≡ true → (ss : ℕ → Body t_view) → ((s : ℕ) → s < m → Named x buffers s i (ss s) × (length (ss s).buffers ≤ 32)) → buffers_in Y i ≡ true
    names_in v ss st =
        let h : (s : ℕ) → s < m → Named x buffers s i (ss s) = λ s q. (st s q).0 in
        let short : (s : ℕ) → s < m → Rattle.walk.specs.State.place (join_of x s) i 8 ≤ 32 = λ s q. named_few x buffers s i (ss s) (st s q).0 (st s q).1 in
        let few = all_sources x buffers tree root m columns dest counters room μ given base body bodied in
        let p = from_place x buffers counters room base body bodied m few i l c v ss h short in
        let q = many_place x buffers counters room base body bodied m few i l c v ss h short in
        let a = before_in x buffers counters room base i (nodes_of x.plan) l v in
        let b = all_long x buffers counters room base (nodes_of x.plan) in
        let g = buffers_lie x buffers counters room base body bodied m few i l c v ss h short in
        rw (p, q, le-leb (2 * (buffers_before x buffers counters room base i + buffers_of x buffers counters room base i (sources x buffers counters room base))) (length Y.buffers) (omega arith))
        (every_all _ _ (λ k n. in_source _ _ (g k n)))

  -- ---- a kept dictionary

  module _ (i : ℕ) (l : i < nodes_of x.plan) (c : copied x.plan i ≡ false) where
    abbrev spot : ℕ → ℕ
    spot = Rattle.walk.specs.State.place (join_of x 0) i

    kept_place_lem : (j : ℕ) → 3 ≤ j → j < 7 → place Y i j ≡ spot j
    kept_place_lem = place_is tree x buffers counters room base body bodied i l c

    -- of its validity, if a bit is 0
    shown : (j : ℕ) → j < 3 → place Y i j ≡ cond (eqb (nulls_at x buffers counters room base i) 0) 0 (spot j)
    shown = valid_place_lem tree x buffers counters room base body bodied i l c

    kept_valid : (o : Option (List ℕ)) → LentValid (join_of x 0) i o → valid_in Y i ≡ true
    kept_valid o h = rw (shown 0 (omega arith), shown 1 (omega arith), shown 2 (omega arith)) (go (eqb (nulls_at x buffers counters room base i) 0) o h)
      where
        go : (z : Bool) (o : Option (List ℕ)) → LentValid (join_of x 0) i o → cond (eqb (cond z 0 (spot 0)) 0) true (in_body Y (cond z 0 (spot 1)) (cond z 0 (spot 2))) ≡ true
        go true o h = refl
        go false none h = rw h
        go false (some s) h = rw h.0 (in_source _ _ h.1.inside)

    kept_placed : (p : Plain) (b : PlainBody p) → valid_in Y i ≡ true → LentPlain (join_of x 0) p i b → MeansPlain tree p i → T (placed tree Y i)
    kept_placed (fixed n) b v h mn =
        placed_as_lem tree Y i mn.1 (holds (one_in_lem i l v (rw (kept_place_lem 3 (omega arith) (omega arith), kept_place_lem 4 (omega arith) (omega arith)) (in_source _ _ h.inside))))
    kept_placed (string w) b v h mn =
        placed_as_lem tree Y i mn.1
        (holds
        (two_in_lem i l (one_in_lem i l v (rw (kept_place_lem 3 (omega arith) (omega arith), kept_place_lem 4 (omega arith) (omega arith)) (in_source _ _ h.0.inside)))
        (rw (kept_place_lem 5 (omega arith) (omega arith), kept_place_lem 6 (omega arith) (omega arith)) (in_source _ _ h.1.inside))))

  -- ---- all nodes

  plain_placed : (p : Plain) (i : ℕ) → i < nodes_of x.plan → copied x.plan i ≡ true → MeansPlain tree p i → T (placed tree Y i)
  plain_placed (fixed n) i l c mn = placed_as_lem tree Y i mn.1 (holds (copied_one i l c))
  plain_placed (string w) i l c mn = placed_as_lem tree Y i mn.1 (holds (copied_two i l c))

  own_placed : (k : ℕ) (t : Ty) (i : ℕ) (ss : ℕ → Body t) → Worded x.plan k t i → i < nodes_of x.plan → copied x.plan i ≡ true → Means tree t i → Stands x buffers m counters μ t i ss → T (placed tree Y i)
  own_placed (suc k) (t_plain p) i ss w l c mn st = plain_placed p i l c mn
  own_placed (suc k) t_view i ss w l c mn st = placed_as_lem tree Y i mn.1 (holds {b = one_in Y i && buffers_in Y i} (rw (copied_one i l c) (names_in i l c w.2 ss st)))
  own_placed (suc k) (t_list_view v t) i ss w l c mn st = placed_as_lem tree Y i mn.0.1 (holds (copied_two i l c))
  own_placed (suc k) (t_list v t) i ss w l c mn st = placed_as_lem tree Y i mn.0.1 (holds (copied_one i l c))
  own_placed (suc k) (t_sparse ids nullable f) i ss w l c mn st = placed_as_lem tree Y i mn.0.1 (holds (copied_one i l c))
  own_placed (suc k) (t_dense ids nullable f) i ss w l c mn st = placed_as_lem tree Y i mn.0.1 (holds (copied_two i l c))
  own_placed (suc k) (t_run_end v t) i ss w l c mn st = placed_as_lem tree Y i mn.0.1 (holds {b = held Y i && valid_in Y i} (rw (held_at i l) (valid_inside i l c)))
  own_placed (suc k) (t_dictionary n p) i ss w l c mn st = placed_as_lem tree Y i mn.0.1 (holds (copied_one i l c))
  own_placed zero t i ss w l c mn st = elim w [ ]

  values_placed : (p : Plain) (i : ℕ) (ds : ℕ → Dictionary (PlainBody p)) → suc i < nodes_of x.plan → (dictionary_of x.plan i ≡ 0 → ⊥) → MeansPlain tree p (suc i) → Valued x m counters μ p i ds
      → T (placed tree Y (suc i))
  values_placed p i ds l dict mn h = go (shared m ds) refl
    where
      go : (b : Bool) → shared m ds ≡ b → T (placed tree Y (suc i))
      go true s =
          let c = kept_not x.plan i dict (h.joined_word_lem ∙ rw s) in
          let k = h.kept s in
          kept_placed (suc i) l c p (ds 0).values.body (kept_valid (suc i) l c (ds 0).values.valid k.valid_is) k.body_is mn
      go false s = plain_placed p (suc i) l (values_copied x.plan i (shared m ds) dict h.joined_word_lem s) mn

  -- EVERY NODE'S BUFFERS LIE IN THE BODY
  pub all_placed : (j : ℕ) → j < nodes_of x.plan → T (placed tree Y j)
  all_placed =
      every_node x buffers tree root m columns dest counters room μ given (λ j. T (placed tree Y j))
      (λ k t i ss w l o mn st. own_placed k t i ss w l (copied_free x.plan i o) mn st)
      (λ w i l o code mn. plain_placed (fixed mn.number) i l (copied_free x.plan i o) mn.is_ends_lem)
      (λ p i ds l dict mn o h. values_placed p i ds l dict mn h)

-- THE FINISHED ARRAY PASSES GROUND 12 where it is lent again
pub lent_again : (x : Lent) (buffers formats schema : List ℕ) (first n m : ℕ) (ss : ℕ → Column (type_of formats schema first n)) (d : Destination (type_of formats schema first n)) (counters room : List ℕ) (μ : Memory)
    → Given x buffers (tree_of formats schema first n) (type_of formats schema first n) m ss d counters room μ → Ready (type_of formats schema first n) m (λ j. (ss j).body)
    → (base : ℕ) (body : List ℕ) → Bodied body x room base → typed formats schema first n ≡ true → ceilings formats schema first n ≡ true → n ≡ nodes_of x.plan
    → T (source_rule (tree_of formats schema first n) (finished_tables x buffers counters room base body))
lent_again x buffers formats schema first n m ss d counters room μ given ready base body bodied t c e =
    lent_obeys formats schema first n (finished_tables x buffers counters room base body) t c
    (λ j l. all_placed x buffers (tree_of formats schema first n) (type_of formats schema first n) m ss d counters room μ given base body bodied j (omega arith))
    (test_complete (type_of formats schema first n) _ (finished_obeys x buffers (tree_of formats schema first n) (type_of formats schema first n) m ss d counters room μ given ready base body bodied))
