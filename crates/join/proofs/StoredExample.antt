-- Tables stored wider, computed: a union `+us:0` of `z`, and of `Z`, with one row, "stop". Behind each source's rows the type table has a row
-- of no source, `f` with a dictionary or `Z`: nothing is asked of it. Assumes nothing.
use mathlib.Core.Path.{◌≡◌, refl}
use mathlib.Core.Bool.{true, false}
use mathlib.Core.List.{List, [], ◌∷◌}
use Prim.Native.Nat.{ℕ, zero, suc, ◌<◌}
use native.Mathlib.Omega.{arith}
use lib.Dec.{T}
use Rattle.number.specs.Number.{number}
use Rattle.columnar.specs.Array.{item}
use Rattle.columnar.specs.Wider.{Wider}
use Rattle.schema.specs.formats.Code as Code
use Rattle.schema.specs.union_ids.Ids as Ids
use Rattle.schema.specs.Tree as Tree
use Rattle.array_data.specs.NodeKinds.{kind_at}
use Rattle.array_data.specs.Typed.{placed, tables_from}
use Rattle.array_data.specs.type_tree.Lent.{tree_of}
use Rattle.columns.specs.Grounds as Grounds
use Rattle.columns.proofs.Grounds.{by_nodes}
use Rattle.array_data.specs.Sources as Sources
use Rattle.join.specs.Join.{Lending, type_in}
use Rattle.join.specs.Stored.{StoredWider, same_code, strings, NodeWider}
use Rattle.join.proofs.StoredTypes.{types_wider}

-- +us:0 z Z f
abbrev texts : List ℕ
texts = 43 ∷ 117 ∷ 115 ∷ 58 ∷ 48 ∷ 122 ∷ 90 ∷ 102 ∷ []

-- the node's length 1, offset 0, both times
abbrev counters : List ℕ
counters = 1 ∷ 0 ∷ 1 ∷ 0 ∷ []

abbrev lending : List ℕ → List ℕ → List ℕ → Lending
lending schema places body =
    record {
      formats = texts;
      schema = schema;
      sources = 0 ∷ 2 ∷ [];
      tables = record { lengths = counters; places = places; buffers = []; body = body };
      keep = false;
      gaps = false;
      parts = [];
      plan = [];
      counters = [];
      room = [];
    }

-- ids at 0, offsets at 1, then "stop"
abbrev pub narrow : Lending
narrow =
    lending (0 ∷ 5 ∷ 2 ∷ 1 ∷ 0 ∷ 5 ∷ 1 ∷ 2 ∷ 0 ∷ 0 ∷ 7 ∷ 1 ∷ 0 ∷ 0 ∷ 1 ∷ [])
    (0 ∷ 0 ∷ 0 ∷ 0 ∷ 1 ∷ 0 ∷ 0 ∷ 0 ∷ 0 ∷ 0 ∷ 0 ∷ 0 ∷ 1 ∷ 8 ∷ 9 ∷ 4 ∷ 0 ∷ 0 ∷ [])
    (0 ∷ 0 ∷ 0 ∷ 0 ∷ 0 ∷ 4 ∷ 0 ∷ 0 ∷ 0 ∷ 115 ∷ 116 ∷ 111 ∷ 112 ∷ [])

abbrev pub wide : Lending
wide =
    lending (0 ∷ 5 ∷ 0 ∷ 1 ∷ 0 ∷ 6 ∷ 1 ∷ 2 ∷ 0 ∷ 0 ∷ 6 ∷ 1 ∷ 2 ∷ 0 ∷ 0 ∷ [])
    (0 ∷ 0 ∷ 0 ∷ 0 ∷ 1 ∷ 0 ∷ 0 ∷ 0 ∷ 0 ∷ 0 ∷ 0 ∷ 0 ∷ 1 ∷ 16 ∷ 17 ∷ 4 ∷ 0 ∷ 0 ∷ [])
    (0 ∷ 0 ∷ 0 ∷ 0 ∷ 0 ∷ 0 ∷ 0 ∷ 0 ∷ 0 ∷ 4 ∷ 0 ∷ 0 ∷ 0 ∷ 0 ∷ 0 ∷ 0 ∷ 0 ∷ 115 ∷ 116 ∷ 111 ∷ 112 ∷ [])

upto_1 : (Q : ℕ → Type 0) → Q 0 → (i : ℕ) → i < 1 → Q i
upto_1 Q a zero q = a
upto_1 Q a (suc i) q = absurd (omega arith)

upto_2 : (Q : ℕ → Type 0) → Q 0 → Q 1 → (i : ℕ) → i < 2 → Q i
upto_2 Q a b zero q = a
upto_2 Q a b (suc i) q = upto_1 (λ j. Q (suc j)) b i (omega arith)

abbrev Node : ℕ → ℕ → Type 0
Node s i =
    NodeWider texts narrow.schema narrow.tables (Sources.first_of narrow.sources s) texts wide.schema wide.tables (Sources.first_of wide.sources s) i

union_node : Node 0 0
unfolding Tree.code_of Tree.ids_of
union_node =
    record {
      same_children = refl;
      same_dictionary = refl;
      same_flag_lem = λ z v. absurd (z refl);
      wider_code = same_code refl;
      same_ids_lem = λ u. refl;
      same_length = refl;
      same_offset = refl;
      same_buffers = λ v. refl;
    }

text_node : Node 0 1
unfolding Tree.code_of Tree.ids_of Code.code_of
text_node =
    record {
      same_children = refl;
      same_dictionary = refl;
      same_flag_lem = λ z v. refl;
      wider_code = strings refl refl (omega arith);
      same_ids_lem = λ u. absurd (let z : false ≡ true = u in let y : ◌≡◌ {A = ℕ} 0 1 = cc in omega arith);
      same_length = refl;
      same_offset = refl;
      same_buffers = λ v. refl;
    }

pub stored : StoredWider narrow wide
unfolding Tree.code_of Tree.ids_of Code.code_of Tree.same_formats kind_at Grounds.small_body Ids.allowed Ids.pieces Ids.id_of Ids.decimal Ids.distinct
stored =
    record {
      same_count = refl;
      same_nodes = upto_1 (λ s. Sources.nodes_of narrow.sources s ≡ Sources.nodes_of wide.sources s) refl;
      node_wider = λ s i p. upto_1 (λ s. i < Sources.nodes_of narrow.sources s → Node s i) (upto_2 (Node 0) union_node text_node i) s p;
      alike = λ s i p. upto_1 (λ s. i < 2 → Tree.same_formats texts wide.schema 0 (Sources.first_of wide.sources s) i ≡ true) (upto_2 (λ i. Tree.same_formats texts wide.schema 0 0 i ≡ true) refl refl i) s p;
      in_body_lem = λ s i p. upto_1
          (λ s.
          i < Sources.nodes_of wide.sources s
          → T (placed (tree_of texts wide.schema (Sources.first_of wide.sources s) (Sources.nodes_of wide.sources s)) (tables_from wide.tables (Sources.first_of wide.sources s)) i))
          (upto_2 (λ i. T (placed (tree_of texts wide.schema 0 2) (tables_from wide.tables 0) i)) tt tt i) s p;
      small_body_lem = refl;
    }

-- the narrow tables pass grounds 9 to 12
narrow_taken : Grounds.sources_ground texts narrow.schema narrow.tables narrow.sources ≡ 0
unfolding Grounds.small_body Grounds.few_sources Grounds.all_within Grounds.all_typed Grounds.all_same Grounds.all_obey Grounds.within_ceilings Grounds.node_fits Grounds.count_fits Grounds.few_buffers Grounds.obeys Tree.ceilings Tree.few_fields Tree.code_of Tree.ids_of Code.code_of Tree.depth Tree.end_of Tree.end_from Tree.below Tree.bare Tree.typed Tree.whole Tree.shape Tree.leaf_shape Tree.keys_shape Tree.values_shape Tree.list_shape Tree.union_shape Tree.run_shape Tree.ends_shape Tree.same_type Tree.same_node Tree.same_formats Tree.same_flag Tree.is_values kind_at Ids.allowed Ids.pieces Ids.id_of Ids.decimal Ids.distinct item number
narrow_taken = by_nodes narrow.formats narrow.schema narrow.tables narrow.sources

-- AND SO THE TYPES ARE WIDER
pub types : Wider (type_in narrow) (type_in wide)
types = types_wider narrow wide stored narrow_taken
