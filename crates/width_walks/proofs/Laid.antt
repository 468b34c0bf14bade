-- Two trees and a plan in which the nodes of a type and of the same in other widths stand one behind the other. Assumes nothing.
use mathlib.Core.Path.{◌≡◌}
use mathlib.Core.Bool.{false}
use mathlib.Core.List.{List, [], ◌∷◌}
use Prim.Native.Nat.{ℕ, suc, ◌≤◌, ◌<◌}
use Rattle.columnar.specs.Types.{Number, Plain, fixed, string, Ty}
use Rattle.columnar.specs.Wider.{Declared}
use Rattle.array_data.specs.NodeKinds.{NodeKind, fixed_node, string_node, view_node, list_view_node, list_node, sparse_node, dense_node, run_end_node, dictionary_node}
use Rattle.array_data.specs.Typed.{Tree, node_of, kind_in, subtree_end}
use Rattle.refinement.specs.walk_is_model.Holds.{child_of}
use Rattle.anew.specs.widths.Widths.{Widths, s_plain, s_view, s_list_view, s_list, s_sparse, s_dense, s_run_end, s_dictionary}
use Rattle.width_walks.specs.Nodes.{is_run}

abbrev pub plain_node : Plain → NodeKind
plain_node (fixed m) = fixed_node m
plain_node (string w) = string_node w

module _ (t t' : Tree) (plan : List ℕ) where
  -- node i of both trees is of these kinds
  pub record Both (i : ℕ) (k k' : NodeKind) : Type 0 where
    pub here : kind_in t i ≡ k
    pub there : kind_in t' i ≡ k'

  -- the fields of the union at node i, from node k to node e: each is where the plan and the tree find it, and is no run ends
  pub data LaidFields (i : ℕ) (ids : List ℕ) (kid : ℕ → ℕ → Type 0) (e : ℕ) : List ℕ → ℕ → Type 0 where
    no_field : (k : ℕ) → k ≡ e → LaidFields i ids kid e [] k
    a_field : (c : ℕ) (cs : List ℕ) (k : ℕ) → kid c k → child_of plan i c ≡ k → node_of t i ids c ≡ k → k < subtree_end t k → subtree_end t k ≤ e → ((j : ℕ) → suc j ≡ k → is_run (kind_in t j) ≡ false)
        → LaidFields i ids kid e cs (subtree_end t k) → LaidFields i ids kid e (c ∷ cs) k

  abbrev pub Laid : {u u' : Ty} → Widths u u' → ℕ → Type 0
  Laid (s_plain p p' d) i = Both i (plain_node p) (plain_node p') × (subtree_end t i ≡ suc i)
  Laid s_view i = Both i view_node view_node × (subtree_end t i ≡ suc i)
  Laid (s_list_view w w' u u' d) i = Both i (list_view_node w) (list_view_node w') × (subtree_end t i ≡ subtree_end t (suc i)) × Laid d (suc i)
  Laid (s_list w w' u u' d) i = Both i (list_node w) (list_node w') × (subtree_end t i ≡ subtree_end t (suc i)) × Laid d (suc i)
  Laid (s_sparse ids nullable nullable' f f' e d) i =
      Both i (sparse_node ids) (sparse_node ids) × (i < subtree_end t i) × LaidFields i ids (λ c k. (m : Declared ids c) → Laid (d c m) k) (subtree_end t i) ids (suc i)
  Laid (s_dense ids nullable nullable' f f' e d) i =
      Both i (dense_node ids) (dense_node ids) × (i < subtree_end t i) × LaidFields i ids (λ c k. (m : Declared ids c) → Laid (d c m) k) (subtree_end t i) ids (suc i)
  Laid (s_run_end w w' u u' d) i =
      Both i (run_end_node w) (run_end_node w') × ((m : Number) × (kind_in t (suc i) ≡ fixed_node m)) × (subtree_end t i ≡ subtree_end t (suc (suc i))) × Laid d (suc (suc i))
  Laid (s_dictionary k k' p p' z z' d) i = Both i (dictionary_node k) (dictionary_node k') × Both (suc i) (plain_node p) (plain_node p') × (subtree_end t i ≡ suc (suc i))
