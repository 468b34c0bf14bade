-- What an accepted opening has found of the sources: they are those that the walk and the model ask for. Assumes nothing.
use mathlib.Core.Path.{◌≡◌, refl, sym, ap, subst, ◌∙◌}
use mathlib.Core.Bool.{Bool, true, false, not, cond, ◌||◌, false≢true}
use mathlib.Core.Option.{none, some}
use mathlib.Core.List.{List, [], ◌∷◌}
use Prim.Native.Nat.{ℕ, zero, suc, ◌+◌, ◌-◌, ◌*◌, ◌^◌, ◌≤◌, ◌<◌}
use native.Mathlib.Nat.{zero-add}
use native.Mathlib.Omega.{arith}
use lib.ListN.{length, take, drop, get_or}
use lib.Dec.{T, leb, eqb}
use borrow.Author.Tests.{leb-true, eqb-true, eqb-false}
use Rattle.columnar.specs.Types.{Plain, fixed, string, Ty}
use Rattle.columnar.specs.Array.{ok, nulls_in, null_count_of}
use Rattle.columnar.specs.Reading.{Column, Source}
use Rattle.columnar.specs.Kids.{kid_node, body_down}
use Rattle.columnar.proofs.Kids.{below_from}
use Rattle.schema.specs.formats.Code.{is_view}
use Rattle.model.specs.Sources.{EachView, EachDictionary, ValidFrom, StandsFrom, Stands, Sources}
use Rattle.model.proofs.Bits.{length_seg}
use Rattle.schema.specs.Tree.{code_of, ceilings, typed, same_node, same_type}
use Rattle.schema.proofs.Known.{every_at, within_nodes, typed_whole, typed_shape}
use Rattle.array_data.specs.Tables.{Tables, length_of, offset_of, place, part, array_with}
use Rattle.array_data.specs.NodeKinds.{view_node, kind_at}
use Rattle.array_data.specs.Typed.{Tree, node_of, Means, tables_from, valid_start, starts, plain_body, body_of}
use Rattle.array_data.specs.type_tree.Lent.{tree_of, type_of}
use Rattle.array_data.proofs.type_tree.Ids.{both}
use Rattle.array_data.proofs.type_tree.Lent.{formed}
use Rattle.array_data.proofs.type_tree.Same.{kind_same, same_means}
use Rattle.array_data.proofs.type_tree.Shaped.{shaped}
use Rattle.plan.proofs.dictionaries.Laws.{length_from, offset_from, place_from}
use Rattle.columns.specs.Grounds.{count_fits, few_buffers, node_fits, ceiling, small_body, within_ceilings, few_sources, sources_ground}
use Rattle.array_data.specs.Sources.{source_count, first_of, nodes_of}
use Rattle.columns.proofs.Grounds.{Accepted, accepted, some_source, within_low, within_at_lem, typed_at, same_at_lem, obeys_at, obeys_is}
use Rattle.columns.proofs.Answers.{sum_fits}
use Rattle.refinement.specs.plan_is_type.Planted.{Planted}
use Rattle.refinement.specs.plan_is_type.Taken.{columns, columns_as, Taken}
use Rattle.refinement.proofs.plan_is_type.OneTree.{same_column}
use Rattle.refinement.proofs.plan_is_type.Kids.{body_kid, meant_kid}
use Rattle.refinement.proofs.plan_is_type.Opened.{all_alike, all_obey_lem}
use Rattle.plan.specs.Plan.{planned}
use Rattle.plan.proofs.Codes.{view_code}
use Rattle.plan.proofs.Words.{word_is}
use Rattle.columnar.specs.Test.{every}

-- ---- what stands in the body

take_whole : (n : ℕ) (s : List ℕ) → take n s ≡ take (length (take n s)) s
take_whole zero s = refl
take_whole (suc n) [] = refl
take_whole (suc n) (b ∷ s) = ap (b ∷◌) (take_whole n s)

no_nulls : (a n : ℕ) → nulls_in (ok none) a n ≡ 0
no_nulls a zero = refl
no_nulls a (suc n) = rw zero-add (no_nulls (suc a) n)

module _ (tree : Tree) (own : Tables) where
  -- validity begins where the tables say, or nowhere if no row of node k is null
  valid_from : {B : Type 0} (b : B) (k : ℕ) → ValidFrom own.body (array_with own b k) (valid_start own k)
  valid_from b k = go (eqb (null_count_of {B = Unit {0}} (array_with own tt k)) 0) refl (eqb (place own k 0) 0) refl
    where
      many : ℕ
      many = null_count_of {B = Unit {0}} (array_with own tt k)

      go : (z : Bool) → eqb many 0 ≡ z → (v : Bool) → eqb (place own k 0) 0 ≡ v → ValidFrom own.body (array_with own b k) (cond z 0 (suc (place own k 1)))
      go true e v f = eqb-true many 0 e
      go false e true f =
          let y : many ≡ 0 = ap (λ c. nulls_in (ok (cond c none (some (part own.body (place own k 1) (place own k 2))))) (offset_of own k) (length_of own k)) f ∙ no_nulls (offset_of own k) (length_of own k) in
          absurd (eqb-false many 0 e y)
      go false e false f = (
        part own.body (place own k 1) (place own k 2),
        (ap (λ c. cond c none (some (part own.body (place own k 1) (place own k 2)))) f, take_whole (place own k 2) (drop (place own k 1) own.body)),
      )

  -- the values at node k begin where the tables say
  plain_stands : (p : Plain) (k : ℕ) → StandsFrom own.body p (array_with own (plain_body tree own p k) k) (starts own p k)
  plain_stands (fixed n) k = (valid_from (plain_body tree own (fixed n) k) k, take_whole (place own k 4) (drop (place own k 3) own.body))
  plain_stands (string w) k =
      (valid_from (plain_body tree own (string w) k) k, (take_whole (place own k 4) (drop (place own k 3) own.body), take_whole (place own k 6) (drop (place own k 5) own.body)))

  -- EVERY DICTIONARY STANDS IN THE BODY
  stands_at : (u : Ty) (i : ℕ) → EachDictionary (Stands own.body) u (body_of tree own u i)
  stands_at u i =
      below_from body_down _ _ {S = λ u. ℕ} (λ u i. body_of tree own u i) (λ u i k. (kid_node (node_of tree) u i k, body_kid tree own u i k)) (λ i. tt) (λ n p i. plain_stands p (suc i)) u i

-- ---- few data buffers

implied : (a b : Bool) → not a || b ≡ true → a ≡ true → b ≡ true
implied true b h e = h
implied false b h e = absurd (false≢true e)

module _ (formats schema : List ℕ) (x : Tables) (first n : ℕ) (within : within_ceilings formats schema x first n ≡ true) where
  abbrev tree : Tree
  tree = tree_of formats schema first n

  abbrev own : Tables
  own = tables_from x first

  pub few_there : (i : ℕ) → i < n → is_view (code_of formats schema first i) ≡ true → place own i 8 ≤ 32
  unfolding within_ceilings node_fits few_buffers
  few_there i l v =
      let p = both (ceilings formats schema first n) (every (node_fits formats schema x first) n) within in
      let q = every_at (node_fits formats schema x first) n i p.1 l in
      let r = both (count_fits x (first + i)) (few_buffers formats schema x first i) q in
      let b = leb-true (place x (first + i) 8) 32 (implied (is_view (code_of formats schema first i)) (leb (place x (first + i) 8) 32) r.1 v) in
      omega (arith, place_from x first i 8)

  -- EVERY VIEW NODE HAS FEW DATA BUFFERS
  pub few_at : (u : Ty) (i : ℕ) → Means tree u i → EachView (λ v. length v.buffers ≤ 32) u (body_of tree own u i)
  few_at u i h =
      below_from body_down _ _ (λ u s. body_of tree own u s.0) (λ u s k. (meant_kid tree u s k, body_kid tree own u s.0 k))
      (λ s. rw (length_seg _ (place own s.0 7) (place own s.0 8)) (few_there s.0 s.1.0 (view_code formats schema first s.0 s.1.1))) (λ n p s. tt) u (i, h)

-- ---- an accepted opening

module _ (formats schema sources : List ℕ) (x : Tables) (keep gaps : Bool) (ok : sources_ground formats schema x sources ≡ 0) where
  -- how many sources there are; each one's first node, and how many nodes it has
  abbrev m : ℕ
  m = source_count sources

  abbrev first : ℕ → ℕ
  first s = first_of sources s

  abbrev nodes : ℕ → ℕ
  nodes s = nodes_of sources s

  -- their type, and their columns by the first one's tree
  abbrev t : Ty
  t = type_of formats schema (first 0) (nodes 0)

  abbrev ss : ℕ → Column t
  ss = columns_as formats schema x first nodes

  abbrev plan : List ℕ
  plan = planned formats schema x sources keep gaps

  grounds : Accepted formats schema x sources
  grounds = accepted formats schema x sources ok

  -- "1 to 16 sources"
  pub some_sources : 0 < m
  some_sources = some_source formats schema x sources grounds.few

  pub few_sources_lem : m ≤ 16
  unfolding few_sources
  few_sources_lem = leb-true m 16 (both (leb 1 m) (leb m 16) grounds.few).1

  pub within_ceilings_lem : (s : ℕ) → s < m → within_ceilings formats schema x (first s) (nodes s) ≡ true
  within_ceilings_lem = within_at_lem formats schema x sources grounds.within

  pub is_typed : typed formats schema (first 0) (nodes 0) ≡ true
  is_typed = typed_at formats schema x sources grounds.of_types 0 some_sources

  pub is_low : ceilings formats schema (first 0) (nodes 0) ≡ true
  is_low = within_low formats schema x (first 0) (nodes 0) (within_ceilings_lem 0 some_sources)

  -- "at most 32 nodes"
  pub few_nodes : nodes 0 ≤ 32
  few_nodes = within_nodes formats schema (first 0) (nodes 0) is_low

  -- the plan has the words of the first source's type tree
  pub planted : Planted plan formats schema (first 0) (nodes 0)
  planted = word_is formats schema x sources keep gaps few_sources_lem few_nodes

  small_body_lem : length x.body < 2 ^ 63
  unfolding small_body
  small_body_lem = omega (arith, leb-true (length x.body) ceiling grounds.small)

  -- "at most 32 data buffers per view node and source", by the first source's nodes
  pub few_named : (s i : ℕ) → s < m → i < nodes 0 → kind_at formats schema (first 0) i ≡ view_node → get_or x.places (9 * (first s + i) + 8) 0 ≤ 33
  unfolding same_type
  few_named s i l h v =
      let p = both (eqb (nodes 0) (nodes s)) (every (same_node formats schema (first 0) (first s)) (nodes 0)) (same_at_lem formats schema x sources grounds.of_one_type s l) in
      let e = eqb-true (nodes 0) (nodes s) p.0 in
      let agree : (j : ℕ) → j < nodes 0 → same_node formats schema (first 0) (first s) j ≡ true = λ j q. every_at (same_node formats schema (first 0) (first s)) (nodes 0) j p.1 q in
      let k = kind_same formats schema (first 0) (first s) (nodes 0) agree (typed_whole formats schema (first 0) (nodes 0) is_typed) i h
      (shaped formats schema (first 0) i (typed_shape formats schema (first 0) (nodes 0) is_typed i h)) in
      let b = few_there formats schema x (first s) (nodes s) (within_ceilings_lem s l) i (omega arith) (view_code formats schema (first s) i (sym k ∙ v)) in
      omega (arith, b, place_from x (first s) i 8)

  -- THE SOURCES ARE THOSE THAT AN OPENING TAKES, by the words of its plan
  pub taken : Taken formats schema x first nodes plan m
  taken =
      record {
        is_typed = is_typed;
        low = is_low;
        planted = planted;
        body_small = small_body_lem;
        alike = λ s h l. same_at_lem formats schema x sources grounds.of_one_type s l;
        rules = λ s l. subst T (sym (sym (obeys_is formats schema x (first s) (nodes s)) ∙ obeys_at formats schema x sources grounds.obey s l)) tt;
        sums = λ s l i h. omega (arith, sum_fits formats schema x (first s) (nodes s) (within_ceilings_lem s l) i h, length_from x (first s) i, offset_from x (first s) i);
      }

  -- source s's column by its own tree
  pub own_tree : (s : ℕ) → s < m → ss s ≡ columns formats schema x first nodes s
  own_tree s l = same_column formats schema (first 0) (nodes 0) (first s) (nodes s) (all_alike formats schema x first nodes plan m taken s l) (tables_from x (first s)) t 0

  -- THE SOURCES ARE THOSE OF A JOIN OF THE MODEL
  pub sources_of : Sources t x.body m ss
  sources_of =
      record {
        formed = formed formats schema (first 0) (nodes 0) is_typed is_low;
        some = some_sources;
        few = few_sources_lem;
        obey = λ s l. subst (Source t) (sym (own_tree s l)) (all_obey_lem formats schema x first nodes plan m taken s l);
        few_buffers_lem = λ s l. subst (λ c. EachView (λ v. length v.buffers ≤ 32) t c.body) (sym (own_tree s l))
            (few_at formats schema x (first s) (nodes s) (within_ceilings_lem s l) t 0
            (same_means formats schema (first 0) (nodes 0) (first s) (nodes s) is_typed is_low (all_alike formats schema x first nodes plan m taken s l)));
        stand = λ s l. stands_at (tree_of formats schema (first 0) (nodes 0)) (tables_from x (first s)) t 0;
      }
