-- What stands below a node of a kind, and where a whole tree ends. Assumes nothing.
use mathlib.Core.Path.{◌≡◌, sym, subst, ◌∙◌}
use mathlib.Core.Bool.{true, ◌&&◌}
use mathlib.Core.List.{List}
use Prim.Native.Nat.{ℕ, suc}
use lib.Dec.{leb, eqb}
use borrow.Author.Tests.{eqb-true}
use Rattle.columnar.specs.Types.{Number, fixed, string}
use Rattle.schema.specs.Tree.{below, whole}
use Rattle.schema.specs.Tree as schemaTree
use Rattle.schema.proofs.Due.{due_from, whole_is}
use Rattle.array_data.specs.NodeKinds.{NodeKind, fixed_node, string_node, view_node, list_view_node, list_node, sparse_node, dense_node, run_end_node, dictionary_node, kind_at}
use Rattle.array_data.proofs.type_tree.Ids.{both}
use Rattle.array_data.proofs.type_tree.Shaped.{Shaped, of_plain_lem, of_view, of_list, of_lists_lem, of_sparse, of_dense, of_run_lem, of_dictionary}
use Rattle.walk.specs.State.{end_of}

module _ (formats schema : List ℕ) (first i : ℕ) where
  -- below a run-end node: the run ends are numbers
  pub record Ends : Type 0 where
    pub number : Number
    pub kind : kind_at formats schema first (suc i) ≡ fixed_node number
    pub two : below schema first i ≡ 2
    pub none_below : below schema first (suc i) ≡ 0

  abbrev pub Next : NodeKind → Type 0
  Next (fixed_node m) = below schema first i ≡ 0
  Next (string_node w) = below schema first i ≡ 0
  Next view_node = below schema first i ≡ 0
  Next (list_view_node w) = below schema first i ≡ 1
  Next (list_node w) = below schema first i ≡ 1
  Next (sparse_node ids) = Unit {0}
  Next (dense_node ids) = Unit {0}
  Next (run_end_node w) = Ends
  Next (dictionary_node m) = (below schema first i ≡ 1) × (below schema first (suc i) ≡ 0)

  pub next_of : Shaped formats schema first i → Next (kind_at formats schema first i)
  next_of (of_plain_lem (fixed m) e z d) = subst Next (sym e) z
  next_of (of_plain_lem (string w) e z d) = subst Next (sym e) z
  next_of (of_view e z) = subst Next (sym e) z
  next_of (of_list w e z d) = subst Next (sym e) z
  next_of (of_lists_lem w e z d) = subst Next (sym e) z
  next_of (of_sparse ids e z d o) = subst Next (sym e) tt
  next_of (of_dense ids e z d o) = subst Next (sym e) tt
  next_of (of_run_lem m e z e1 z1 d) = subst Next (sym e) (record { number = m; kind = e1; two = z; none_below = z1 })
  next_of (of_dictionary m q e z e1 z1 g d) = subst Next (sym e) (z, z1)

pub whole_end : (schema : List ℕ) (first n : ℕ) → whole schema first n ≡ true → schemaTree.end_of schema first n 0 ≡ n
whole_end schema first n w =
    eqb-true (schemaTree.end_of schema first n 0) n (both (leb 1 n && eqb (due_from schema first n 1 0) 0) (eqb (schemaTree.end_of schema first n 0) n) (sym (whole_is schema first n) ∙ w)).1
