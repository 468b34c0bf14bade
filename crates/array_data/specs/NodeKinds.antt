-- What a node's format says, as one of nine kinds: what the rules of a source, node by node, go by. Assumes nothing.
use Rattle.std.specs.Prelude.{Bool, cond, List, [], ℕ, suc, eqb}
use Rattle.std.proofs.Math.Option.{Option, get_or}
use Rattle.columnar.specs.Types.{Number, int, w1}
use Rattle.schema.specs.formats.Code.{is_fixed, is_string, is_view, is_list_view, is_list, is_union, is_sparse, is_run_end, width_of}
use Rattle.schema.specs.formats.Types.{number_of, number_or}
use Rattle.schema.specs.Tree.{dictionary, code_of, ids_of}

pub data NodeKind : Type 0 where
  fixed_node : Number → NodeKind
  string_node : ℕ → NodeKind
  view_node : NodeKind
  list_view_node : ℕ → NodeKind
  list_node : ℕ → NodeKind
  sparse_node : List ℕ → NodeKind
  dense_node : List ℕ → NodeKind
  run_end_node : ℕ → NodeKind
  dictionary_node : Number → NodeKind

-- a format's kind by its code, whether the node has no dictionary, its ids, and the code of the next node, which a run-end node's run ends have;
-- a number's where the code is none
abbrev pub kind_of : ℕ → Bool → Option (List ℕ) → ℕ → NodeKind
kind_of code single ids next =
    cond (is_fixed code) (cond single (fixed_node (number_or (number_of code))) (dictionary_node (number_or (number_of code))))
    (cond (is_string code) (string_node (width_of code))
    (cond (is_view code) view_node
    (cond (is_list_view code) (list_view_node (width_of code))
    (cond (is_list code) (list_node (width_of code))
    (cond (is_union code) (cond (is_sparse code) (sparse_node (get_or ids [])) (dense_node (get_or ids [])))
    (cond (is_run_end code) (run_end_node (width_of next))
    (fixed_node (int w1))))))))

module _ (formats schema : List ℕ) (first : ℕ) where
  -- node i's kind
  unfoldable pub kind_at : ℕ → NodeKind
  kind_at i = kind_of (code_of formats schema first i) (eqb (dictionary schema first i) 0) (ids_of formats schema first i) (code_of formats schema first (suc i))
