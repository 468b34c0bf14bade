-- Short names for what the type tree's definitions write out. Assumes nothing.
use mathlib.Core.Bool.{Bool, cond}
use mathlib.Core.List.{List, [], ◌∷◌}
use mathlib.Core.Option.{Option, get_or}
use Prim.Native.Nat.{ℕ}
use Rattle.columnar.specs.Types.{Number}
use Rattle.schema.specs.Tree.{flag, dictionary, end_of, code_of}
use Rattle.array_data.specs.node_words.Words.{child_id}
use Rattle.array_data.specs.NodeKinds.{NodeKind, fixed_node, sparse_node, dense_node, dictionary_node}

-- the ids of a union; none where the format has none
abbrev pub ids_or : Option (List ℕ) → List ℕ
ids_or o = get_or o []

-- a fixed-width format: of numbers where the node has no dictionary (true), and else of keys
abbrev pub number_kind : Bool → Number → NodeKind
number_kind b m = cond b (fixed_node m) (dictionary_node m)

-- +us: or +ud:
abbrev pub union_kind : Bool → List ℕ → NodeKind
union_kind b ids = cond b (sparse_node ids) (dense_node ids)

-- the words of node i
abbrev pub words_of : List ℕ → List ℕ → ℕ → ℕ → ℕ → List ℕ
words_of formats schema first n i =
    code_of formats schema first i ∷ dictionary schema first i ∷ end_of schema first n i ∷ child_id formats schema first n i ∷ flag schema first i ∷ []
