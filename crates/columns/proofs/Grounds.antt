-- What the grounds mean: an accepted column is a source of its type, accepted sources are sources of source 0's type, and the other way
-- around where the buffers lie in the body. Assumes nothing.
use mathlib.Core.Path.{◌≡◌, refl, sym, ap, ap₂, subst, ◌∙◌}
use mathlib.Core.Bool.{Bool, true, false, cond, ◌&&◌}
use mathlib.Core.List.{List}
use Prim.Native.Nat.{ℕ, zero, suc, ◌≤◌, ◌<◌}
use native.Mathlib.Omega.{arith}
use lib.Dec.{T, leb}
use borrow.Author.Tests.{leb-true}
use Rattle.columnar.specs.Types.{Ty}
use Rattle.columnar.specs.Reading.{Source}
use Rattle.columnar.specs.Test.{test, every}
use Rattle.columnar.proofs.Test.{test_agrees, every_out}
use Rattle.schema.specs.Tree.{ceilings, typed, same_type}
use Rattle.schema.proofs.Laws.{every_all}
use Rattle.schema.proofs.Known.{every_at}
use Rattle.array_data.specs.Tables.{Tables, held as tabled, valid_in}
use Rattle.array_data.specs.Rules.{one_in, two_in, buffers_in}
use Rattle.array_data.proofs.type_tree.ByKind.{placed_as, placed_in}
use Rattle.array_data.specs.NodeKinds.{NodeKind, fixed_node, string_node, view_node, list_view_node, list_node, sparse_node, dense_node, run_end_node, dictionary_node}
use Rattle.array_data.specs.Typed.{Tree, column_of, kind_rule, node_rule, source_rule, placed, tables_from, kind_in}
use Rattle.array_data.specs.type_tree.Lent.{tree_of, type_of}
use Rattle.array_data.proofs.type_tree.Ids.{both}
use Rattle.array_data.proofs.type_tree.Source.{lent_source, lent_obeys, same_source, same_obeys}
use Rattle.columns.specs.Grounds.{small_body, node_fits, within_ceilings, obeys, column_ground, lawful, few_sources, all_typed, all_same, all_within, all_lawful, all_obey, sources_ground}
use Rattle.array_data.specs.Sources.{source_count, first_of, nodes_of}
use Rattle.columns.proofs.Laws.{of_source}

chosen : (b : Bool) (a g : ℕ) → 0 < g → cond b a g ≡ 0 → (b ≡ true) × (a ≡ 0)
chosen true a g l h = (refl, h)
chosen false a g l h = absurd (omega arith)

-- the first ground that stands
abbrev in_order_lem : Bool → Bool → Bool → Bool → ℕ
in_order_lem a b c d = cond a (cond b (cond c (cond d 0 12) 11) 10) 9

holds : (b : Bool) → T b → b ≡ true
holds true t = refl
holds false t = absurd t

held : {b : Bool} → b ≡ true → T b
held e = subst T (sym e) tt

-- ---- ground 12 node by node, and of a column

first_part : (a b : Bool) → T (a && b) → T a
first_part true b p = tt
first_part false b p = p

and_in : (a b : Bool) → T a → T b → T (a && b)
and_in true b p q = q
and_in false b p q = p

every_same : (p q : ℕ → Bool) (n : ℕ) → ((j : ℕ) → j < n → p j ≡ q j) → every p n ≡ every q n
every_same p q zero h = refl
every_same p q (suc n) h = ap₂ ◌&&◌ (every_same p q n (λ j l. h j (omega arith))) (h n (omega arith))

one_truth : (a b : Bool) → (T a → T b) → (T b → T a) → a ≡ b
one_truth true b f g = sym (holds b (f tt))
one_truth false true f g = absurd (g tt)
one_truth false false f g = refl

module _ (t : Tree) (x : Tables) where
  -- a node that obeys its rule has its buffers in the body
  kind_placed : (k : NodeKind) (i : ℕ) → T (kind_rule t x k i) → T (placed_as t x k i)
  kind_placed (fixed_node n) i = first_part (one_in x i) _
  kind_placed (string_node w) i = first_part (two_in x i) _
  kind_placed view_node i = first_part (one_in x i && buffers_in x i) _
  kind_placed (list_view_node w) i = first_part (two_in x i) _
  kind_placed (list_node w) i = first_part (one_in x i) _
  kind_placed (sparse_node ids) i = first_part (one_in x i) _
  kind_placed (dense_node ids) i = first_part (two_in x i) _
  kind_placed (run_end_node w) i = first_part (tabled x i && valid_in x i) _
  kind_placed (dictionary_node n) i = first_part (one_in x i) _

  pub rule_placed : T (source_rule t x) → (j : ℕ) → j < t.count → T (placed t x j)
  rule_placed all j l = placed_in t x j (kind_placed (kind_in t j) j (every_out (node_rule t x) t.count all j l))

  module _ (u : Ty) where
    pub lawful_from : ((j : ℕ) → j < t.count → T (placed t x j)) → T (test u (column_of t x u 0)) → T (lawful t x u)
    unfolding lawful
    lawful_from lies e = and_in (every (placed t x) t.count) (test u (column_of t x u 0)) (held (every_all (placed t x) t.count (λ j l. holds _ (lies j l)))) e

    pub lawful_to : T (lawful t x u) → ((j : ℕ) → j < t.count → T (placed t x j)) × T (test u (column_of t x u 0))
    unfolding lawful
    lawful_to e =
        let p = both (every (placed t x) t.count) (test u (column_of t x u 0)) (holds _ e) in
        ((λ j l. held (every_at (placed t x) t.count j p.0 l)), held p.1)

module _ (formats schema : List ℕ) (x : Tables) where
  pub within_low : (first n : ℕ) → within_ceilings formats schema x first n ≡ true → ceilings formats schema first n ≡ true
  unfolding within_ceilings
  within_low first n h = (both (ceilings formats schema first n) (every (node_fits formats schema x first) n) h).0

  pub obeys_is : (first n : ℕ) → obeys formats schema x first n ≡ Rattle.array_data.specs.Typed.source_rule (tree_of formats schema first n) (tables_from x first)
  unfolding obeys
  obeys_is first n = refl

  -- ---- one column
  module _ (first n : ℕ) where
    -- the buffers of every node lie in the body
    abbrev pub Placed : Type 0
    Placed = (j : ℕ) → j < n → T (placed (tree_of formats schema first n) (tables_from x first) j)

    -- AN ACCEPTED COLUMN IS A SOURCE of the type that its nodes stand for
    pub column_accepted : column_ground formats schema x first n ≡ 0
        → Source (type_of formats schema first n) (column_of (tree_of formats schema first n) (tables_from x first) (type_of formats schema first n) 0)
    unfolding column_ground
    column_accepted h =
        let p = chosen (small_body x.body && within_ceilings formats schema x first n) _ 9 (omega arith) h in
        let q = chosen (typed formats schema first n) _ 10 (omega arith) p.1 in
        let r = chosen (obeys formats schema x first n) 0 12 (omega arith) q.1 in
        lent_source formats schema first n (tables_from x first) q.0
        (within_low first n (both (small_body x.body) (within_ceilings formats schema x first n) p.0).1)
        (held (sym (obeys_is first n) ∙ r.0))

    -- A SOURCE IS ACCEPTED
    pub column_source : small_body x.body ≡ true → within_ceilings formats schema x first n ≡ true → typed formats schema first n ≡ true → Placed
        → Source (type_of formats schema first n) (column_of (tree_of formats schema first n) (tables_from x first) (type_of formats schema first n) 0)
        → column_ground formats schema x first n ≡ 0
    unfolding column_ground
    column_source b c t lies s =
        let o = lent_obeys formats schema first n (tables_from x first) t (within_low first n c) lies ((test_agrees (type_of formats schema first n) (column_of (tree_of formats schema first n) (tables_from x first) (type_of formats schema first n) 0)).complete s) in
        rw (b, c, t, obeys_is first n ∙ holds _ o)

  -- ---- all sources
  module _ (sources : List ℕ) where
    abbrev first : ℕ → ℕ
    first s = first_of sources s

    abbrev nodes : ℕ → ℕ
    nodes s = nodes_of sources s

    -- source s is a source of source 0's type
    abbrev pub SourceAt : ℕ → Type 0
    SourceAt s =
        Source (type_of formats schema (first 0) (nodes 0))
        (column_of (tree_of formats schema (first s) (nodes s)) (tables_from x (first s)) (type_of formats schema (first 0) (nodes 0)) 0)

    -- what each ground is about, where none stands
    pub record Accepted : Type 0 where
      pub small : small_body x.body ≡ true
      pub few : few_sources sources ≡ true
      pub within : all_within formats schema x sources ≡ true
      pub of_types : all_typed formats schema sources ≡ true
      pub of_one_type : all_same formats schema sources ≡ true
      pub obey : all_obey formats schema x sources ≡ true

    pub some_source : few_sources sources ≡ true → 0 < source_count sources
    unfolding few_sources
    some_source h = leb-true 1 (source_count sources) (both (leb 1 (source_count sources)) (leb (source_count sources) 16) h).0

    pub within_at_lem : all_within formats schema x sources ≡ true → (s : ℕ) → s < source_count sources → within_ceilings formats schema x (first s) (nodes s) ≡ true
    unfolding all_within
    within_at_lem h s l = every_at (of_source (within_ceilings formats schema x) sources) (source_count sources) s h l

    pub typed_at : all_typed formats schema sources ≡ true → (s : ℕ) → s < source_count sources → typed formats schema (first s) (nodes s) ≡ true
    unfolding all_typed
    typed_at h s l = every_at (of_source (typed formats schema) sources) (source_count sources) s h l

    pub same_at_lem : all_same formats schema sources ≡ true → (s : ℕ) → s < source_count sources → same_type formats schema (first 0) (nodes 0) (first s) (nodes s) ≡ true
    unfolding all_same
    same_at_lem h s l = every_at (of_source (same_type formats schema (first 0) (nodes 0)) sources) (source_count sources) s h l

    abbrev type : Ty
    type = type_of formats schema (first 0) (nodes 0)

    -- the rules of all sources, node by node and of the columns
    lawful_is : few_sources sources ≡ true → all_within formats schema x sources ≡ true → all_typed formats schema sources ≡ true → all_same formats schema sources ≡ true
        → all_lawful formats schema x sources ≡ all_obey formats schema x sources
    unfolding all_lawful all_obey
    lawful_is f w t e = every_same _ (of_source (obeys formats schema x) sources) (source_count sources) at
      where
        low : ceilings formats schema (first 0) (nodes 0) ≡ true
        low = within_low (first 0) (nodes 0) (within_at_lem w 0 (some_source f))

        at : (s : ℕ) → s < source_count sources → lawful (tree_of formats schema (first s) (nodes s)) (tables_from x (first s)) type ≡ obeys formats schema x (first s) (nodes s)
        at s l =
            let tree = tree_of formats schema (first s) (nodes s) in
            let y = tables_from x (first s) in
            one_truth (lawful tree y type) (source_rule tree y)
            (λ h.
            let p = lawful_to tree y type h in
            same_obeys formats schema (first 0) (nodes 0) y (typed_at t 0 (some_source f)) low (first s) (nodes s) (same_at_lem e s l) p.0 p.1)
            (λ h.
            lawful_from tree y type (rule_placed tree y h)
            ((test_agrees type (column_of tree y type 0)).complete (same_source formats schema (first 0) (nodes 0) y (typed_at t 0 (some_source f)) low (first s) (nodes s) (same_at_lem e s l) h)))
            ∙ sym (obeys_is (first s) (nodes s))

    -- THE GROUND OF ALL SOURCES, node by node
    abbrev pub nodes_ground : ℕ
    nodes_ground =
        cond (small_body x.body && few_sources sources && all_within formats schema x sources)
        (cond (all_typed formats schema sources) (cond (all_same formats schema sources) (cond (all_obey formats schema x sources) 0 12) 11) 10)
        9

    pub by_nodes : sources_ground formats schema x sources ≡ nodes_ground
    unfolding sources_ground
    by_nodes = go (small_body x.body && few_sources sources && all_within formats schema x sources) refl (all_typed formats schema sources) refl (all_same formats schema sources) refl
      where
        go : (a : Bool) → small_body x.body && few_sources sources && all_within formats schema x sources ≡ a → (b : Bool) → all_typed formats schema sources ≡ b → (c : Bool) → all_same formats schema sources ≡ c
            → in_order_lem a b c (all_lawful formats schema x sources) ≡ in_order_lem a b c (all_obey formats schema x sources)
        go true e true f true g =
            let p = both (small_body x.body && few_sources sources) (all_within formats schema x sources) e in
            ap (in_order_lem true true true) (lawful_is (both (small_body x.body) (few_sources sources) p.0).1 p.1 f g)
        go true e true f false g = refl
        go true e false f c g = refl
        go false e b f c g = refl

    pub accepted : sources_ground formats schema x sources ≡ 0 → Accepted
    accepted refusal =
        let h = sym by_nodes ∙ refusal in
        let p = chosen (small_body x.body && few_sources sources && all_within formats schema x sources) _ 9 (omega arith) h in
        let q = chosen (all_typed formats schema sources) _ 10 (omega arith) p.1 in
        let r = chosen (all_same formats schema sources) _ 11 (omega arith) q.1 in
        let o = chosen (all_obey formats schema x sources) 0 12 (omega arith) r.1 in
        let b = both (small_body x.body && few_sources sources) (all_within formats schema x sources) p.0 in
        let d = both (small_body x.body) (few_sources sources) b.0 in
        record { small = d.0; few = d.1; within = b.1; of_types = q.0; of_one_type = r.0; obey = o.0 }

    pub obeys_at : all_obey formats schema x sources ≡ true → (s : ℕ) → s < source_count sources → obeys formats schema x (first s) (nodes s) ≡ true
    unfolding all_obey
    obeys_at h s l = every_at (of_source (obeys formats schema x) sources) (source_count sources) s h l

    -- ACCEPTED SOURCES ARE SOURCES OF ONE TYPE
    pub sources_accepted : sources_ground formats schema x sources ≡ 0 → (s : ℕ) → s < source_count sources → SourceAt s
    sources_accepted h s l =
        let a = accepted h in
        let z = some_source a.few in
        same_source formats schema (first 0) (nodes 0) (tables_from x (first s)) (typed_at a.of_types 0 z) (within_low (first 0) (nodes 0) (within_at_lem a.within 0 z))
        (first s) (nodes s) (same_at_lem a.of_one_type s l) (held (sym (obeys_is (first s) (nodes s)) ∙ obeys_at a.obey s l))

    -- SOURCES OF ONE TYPE ARE ACCEPTED
    pub sources_source : small_body x.body ≡ true → few_sources sources ≡ true → all_within formats schema x sources ≡ true → all_typed formats schema sources ≡ true
        → all_same formats schema sources ≡ true
        → ((s : ℕ) → s < source_count sources → Placed (first s) (nodes s)) → ((s : ℕ) → s < source_count sources → SourceAt s)
        → sources_ground formats schema x sources ≡ 0
    unfolding all_obey
    sources_source b f w t e lies all =
        let z = some_source f in
        let each : (s : ℕ) → s < source_count sources → obeys formats schema x (first s) (nodes s) ≡ true =
        λ s l.
        obeys_is (first s) (nodes s)
        ∙ holds _
        (same_obeys formats schema (first 0) (nodes 0) (tables_from x (first s)) (typed_at t 0 z) (within_low (first 0) (nodes 0) (within_at_lem w 0 z)) (first s) (nodes s) (same_at_lem e s l) (lies s l)
        ((test_agrees (type_of formats schema (first 0) (nodes 0)) (column_of (tree_of formats schema (first s) (nodes s)) (tables_from x (first s)) (type_of formats schema (first 0) (nodes 0)) 0)).complete (all s l))) in
        by_nodes ∙ rw (b, f, w, t, e, every_all (of_source (obeys formats schema x) sources) (source_count sources) each) refl
