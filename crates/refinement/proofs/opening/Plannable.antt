-- Sources that meet none of the grounds 9 to 12 can be planned for. Assumes nothing.
use mathlib.Core.Path.{◌≡◌, sym, subst, ◌∙◌}
use mathlib.Core.Bool.{Bool, true, false, ◌&&◌}
use mathlib.Core.List.{List}
use Prim.Native.Nat.{ℕ, ◌+◌, ◌*◌, ◌≤◌, ◌<◌, ◌^◌}
use native.Mathlib.Omega.{arith}
use lib.ListN.{get_or}
use lib.Dec.{leb, eqb}
use borrow.Author.Tests.{leb-true, eqb-true}
use Rattle.schema.specs.Tree.{same_node, same_type}
use Rattle.schema.proofs.Known.{within_nodes}
use Rattle.array_data.specs.Tables.{Tables, held, valid_in}
use Rattle.array_data.specs.Rules.{one_in, two_in, buffers_in}
use Rattle.array_data.specs.NodeKinds.{NodeKind, fixed_node, string_node, view_node, list_view_node, list_node, sparse_node, dense_node, run_end_node, dictionary_node}
use Rattle.array_data.specs.Typed.{Tree, tables_from, kind_rule, node_rule, kind_in}
use Rattle.array_data.specs.type_tree.Lent.{tree_of}
use Rattle.array_data.proofs.type_tree.Ids.{both}
use Rattle.array_data.specs.lent_tables.Lent.{tables, mask_of}
use Rattle.columns.specs.Grounds.{few_sources, sources_ground}
use Rattle.array_data.specs.Sources.{source_count, first_of, nodes_of}
use Rattle.columns.proofs.Grounds.{accepted, some_source, within_low, within_at_lem, same_at_lem, obeys_at, obeys_is}
use Rattle.plan.proofs.parts.Placed.{every_at}
use Rattle.plan.specs.dictionaries.Sources.{Countable}
use Rattle.plan.proofs.dictionaries.Typed.{countable_at}
use Rattle.plan.specs.Plan.{Plannable}
use Rattle.columnar.specs.Test.{every}

-- node i has a bit for each slot where it has validity
record Masked (x : Tables) (i : ℕ) : Type 0 where
  pub may : Bool
  pub bits : mask_of x i may ≡ true

-- every kind's rule asks for it
module _ (t : Tree) (x : Tables) where
  masked : (k : NodeKind) (i : ℕ) → kind_rule t x k i ≡ true → Masked x i
  masked (fixed_node n) i h = record { may = true; bits = (both (mask_of x i true) _ (both (one_in x i) _ h).1).0 }
  masked (string_node w) i h = record { may = true; bits = (both (mask_of x i true) _ (both (two_in x i) _ h).1).0 }
  masked view_node i h = record { may = true; bits = (both (mask_of x i true) _ (both (one_in x i && buffers_in x i) _ h).1).0 }
  masked (list_view_node w) i h = record { may = true; bits = (both (mask_of x i true) _ (both (two_in x i) _ h).1).0 }
  masked (list_node w) i h = record { may = true; bits = (both (mask_of x i true) _ (both (one_in x i) _ h).1).0 }
  masked (sparse_node ids) i h = record { may = false; bits = (both (mask_of x i false) _ (both (one_in x i) _ h).1).0 }
  masked (dense_node ids) i h = record { may = false; bits = (both (mask_of x i false) _ (both (two_in x i) _ h).1).0 }
  masked (run_end_node w) i h = record { may = false; bits = (both (mask_of x i false) _ (both (held x i && valid_in x i) _ h).1).0 }
  masked (dictionary_node n) i h = record { may = true; bits = (both (mask_of x i true) _ (both (one_in x i) _ h).1).0 }

module _ (formats schema : List ℕ) where
  same_count : (first n first' n' : ℕ) → same_type formats schema first n first' n' ≡ true → n ≡ n'
  unfolding same_type
  same_count first n first' n' h = eqb-true n n' (both (eqb n n') (every (same_node formats schema first first') n) h).0

few_sources_lem : (sources : List ℕ) → few_sources sources ≡ true → source_count sources ≤ 16
unfolding few_sources
few_sources_lem sources h = leb-true (source_count sources) 16 (both (leb 1 (source_count sources)) (leb (source_count sources) 16) h).1

module _ (formats schema : List ℕ) (x : Tables) (sources : List ℕ) (low : (s : ℕ) → get_or sources (2 * s) 0 < 2 ^ 32) (h : sources_ground formats schema x sources ≡ 0) where
  countable : (s i : ℕ) → s < source_count sources → i < nodes_of sources 0 → Countable (tables x.lengths x.places x.body) (first_of sources s + i)
  countable s i l q =
      let f = first_of sources s in
      let n = nodes_of sources s in
      let a = accepted formats schema x sources h in
      let w = within_at_lem formats schema x sources a.within s l in
      let e : nodes_of sources 0 ≡ n = same_count formats schema (first_of sources 0) (nodes_of sources 0) f n (same_at_lem formats schema x sources a.of_one_type s l) in
      let p : i < n = subst (λ k. i < k) e q in
      let small : n ≤ 32 = within_nodes formats schema f n (within_low formats schema x f n w) in
      let tree = tree_of formats schema f n in
      let rule = every_at (node_rule tree (tables_from x f)) n (sym (obeys_is formats schema x f n) ∙ obeys_at formats schema x sources a.obey s l) i p in
      let m = masked tree (tables_from x f) (kind_in tree i) i rule in
      countable_at x f i m.may (omega (arith, low s, p, small)) m.bits

  -- SOURCES WITHOUT A GROUND CAN BE PLANNED FOR
  pub plannable : Plannable (tables x.lengths x.places x.body) sources
  plannable =
      let a = accepted formats schema x sources h in
      let z = some_source formats schema x sources a.few in
      record {
        few = few_sources_lem sources a.few;
        small = within_nodes formats schema (first_of sources 0) (nodes_of sources 0) (within_low formats schema x (first_of sources 0) (nodes_of sources 0) (within_at_lem formats schema x sources a.within 0 z));
        countable = countable;
      }
