-- A lent type tree (docs/FORMAT.md), and the type of crate `columnar` that each node of it stands for. Assumes nothing.
use Rattle.std.specs.Prelude.{Bool, not, cond, ◌&&◌, ◌||◌, List, [], ℕ, zero, suc, eqb}
use Rattle.std.proofs.Math.Option.{get_or}
use Rattle.columnar.specs.Types.{int, w1, fixed, Ty, t_plain, t_view, t_list_view, t_list, t_sparse, t_dense, t_run_end, t_dictionary}
use Rattle.schema.specs.formats.Code.{is_fixed, is_string, is_view, is_list_view, is_list, is_union, is_sparse, is_run_end, width_of}
use Rattle.schema.specs.formats.Types.{number_of, number_or, plain_of}
use Rattle.schema.specs.Tree.{dictionary, nullable, code_of, ids_of}
use Rattle.array_data.specs.Typed.{Tree, node_of}

-- THE TREE of n nodes that stands in the table from node `first` on
abbrev pub tree_of : List ℕ → List ℕ → ℕ → ℕ → Tree
tree_of formats schema first n = record { formats = formats; schema = schema; first = first; count = n }

-- THE TYPE of node i, down to a depth of f, by the codes of formats; a number's where the code is none
unfoldable pub ty_of : Tree → ℕ → ℕ → Ty
ty_of t zero i = t_plain (fixed (int w1))
ty_of t (suc f) i =
    let code = code_of t.formats t.schema t.first in
    let ids = get_or (ids_of t.formats t.schema t.first i) [] in
    let flags : ℕ → Bool = λ c. nullable t.schema t.first (node_of t i ids c) in
    let fields : ℕ → Ty = λ c. ty_of t f (node_of t i ids c) in
    cond (is_fixed (code i) && not (eqb (dictionary t.schema t.first i) 0)) (t_dictionary (number_or (number_of (code i))) (plain_of (code (suc i))))
    (cond (is_fixed (code i) || is_string (code i)) (t_plain (plain_of (code i)))
    (cond (is_view (code i)) t_view
    (cond (is_list_view (code i)) (t_list_view (width_of (code i)) (ty_of t f (suc i)))
    (cond (is_list (code i)) (t_list (width_of (code i)) (ty_of t f (suc i)))
    (cond (is_union (code i)) (cond (is_sparse (code i)) (t_sparse ids flags fields) (t_dense ids flags fields))
    (cond (is_run_end (code i)) (t_run_end (width_of (code (suc i))) (ty_of t f (suc (suc i))))
    (t_plain (fixed (int w1)))))))))

-- THE TYPE that n nodes from node `first` on stand for: trees are at most 8 deep
abbrev pub type_of : List ℕ → List ℕ → ℕ → ℕ → Ty
type_of formats schema first n = ty_of (tree_of formats schema first n) 8 0
