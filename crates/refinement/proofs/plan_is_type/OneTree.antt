-- A column is the same by every tree of its type. Assumes nothing.
use mathlib.Core.Path.{◌≡◌, refl, ap, sym, subst, fun_ext, ◌∙◌}
use mathlib.Core.Bool.{Bool, true, false}
use mathlib.Core.List.{List}
use Prim.Native.Nat.{ℕ, zero, suc, ◌≤◌}
use native.Mathlib.Omega.{arith}
use lib.Dec.{leb}
use borrow.Author.Tests.{leb-true, leb-false}
use Rattle.columnar.specs.Types.{Ty, t_plain, t_view, t_list_view, t_list, t_sparse, t_dense, t_run_end, t_dictionary, fixed, string}
use Rattle.schema.specs.Tree.{end_of, same_type}
use Rattle.schema.proofs.Laws.{end_last}
use Rattle.schema.proofs.Known.{same_size, same_node_lem}
use Rattle.array_data.specs.Tables.{Tables, first_buffer, second_buffer, array_with}
use Rattle.array_data.specs.Typed.{Tree, child_node, field_of, node_of, body_of, column_of, subtree_end}
use Rattle.array_data.specs.type_tree.Lent.{tree_of}
use Rattle.array_data.proofs.type_tree.Same.{end_same}

module _ (t t' : Tree) (ends : (i : ℕ) → subtree_end t i ≡ subtree_end t' i) (x : Tables) where
  child_at_lem : (i j : ℕ) → child_node t i j ≡ child_node t' i j
  child_at_lem i zero = refl
  child_at_lem i (suc j) = ends (child_node t i j) ∙ ap (subtree_end t') (child_at_lem i j)

  array_as : (u : Ty) (i k : ℕ) → i ≡ k → body_of t x u k ≡ body_of t' x u k → column_of t x u i ≡ column_of t' x u k
  array_as u i k e h = ap (λ z. column_of t x u z) e ∙ ap (λ b. array_with x b k) h

  body_as_lem : (u : Ty) (i : ℕ) → body_of t x u i ≡ body_of t' x u i
  body_as_lem (t_plain (fixed n)) i = refl
  body_as_lem (t_plain (string w)) i = refl
  body_as_lem t_view i = refl
  body_as_lem (t_list_view w u) i = ap (λ b. record { offsets = first_buffer x i; sizes = second_buffer x i; child = b }) (array_as u (suc i) (suc i) refl (body_as_lem u (suc i)))
  body_as_lem (t_list w u) i = ap (λ b. record { offsets = first_buffer x i; child = b }) (array_as u (suc i) (suc i) refl (body_as_lem u (suc i)))
  body_as_lem (t_sparse ids nullable f) i =
      ap (λ g. record { ids = first_buffer x i; children = g })
      (fun_ext (λ c. array_as (f c) (node_of t i ids c) (node_of t' i ids c) (child_at_lem i (field_of ids c)) (body_as_lem (f c) (node_of t' i ids c))))
  body_as_lem (t_dense ids nullable f) i =
      ap (λ g. record { ids = first_buffer x i; positions = second_buffer x i; children = g })
      (fun_ext (λ c. array_as (f c) (node_of t i ids c) (node_of t' i ids c) (child_at_lem i (field_of ids c)) (body_as_lem (f c) (node_of t' i ids c))))
  body_as_lem (t_run_end w u) i =
      ap (λ b. record { ends = array_with x (first_buffer x (suc i)) (suc i); values = b }) (array_as u (suc (suc i)) (suc (suc i)) refl (body_as_lem u (suc (suc i))))
  body_as_lem (t_dictionary k (fixed n)) i = refl
  body_as_lem (t_dictionary k (string w)) i = refl

module _ (formats schema : List ℕ) (first n first' n' : ℕ) (s : same_type formats schema first n first' n' ≡ true) where
  past : (f i : ℕ) → n ≤ i → end_of schema f n i ≡ i
  unfolding end_of
  past f i l = end_last schema f n 1 i l

  ends_as : (i : ℕ) → end_of schema first n i ≡ end_of schema first' n i
  ends_as i = go (leb n i) refl
    where
      go : (b : Bool) → leb n i ≡ b → end_of schema first n i ≡ end_of schema first' n i
      go true e = past first i (leb-true n i e) ∙ sym (past first' i (leb-true n i e))
      go false e = let l = leb-false n i e in end_same formats schema first first' n (same_node_lem formats schema first n first' n' s) i (omega arith)

  -- THE SAME COLUMN by the trees of two sources of one type
  pub same_column : (x : Tables) (u : Ty) (i : ℕ) → column_of (tree_of formats schema first n) x u i ≡ column_of (tree_of formats schema first' n') x u i
  same_column x u i =
      let e = same_size formats schema first n first' n' s in
      subst (λ m. column_of (tree_of formats schema first n) x u i ≡ column_of (tree_of formats schema first' m) x u i) e
      (array_as (tree_of formats schema first n) (tree_of formats schema first' n) ends_as x u i i refl
      (body_as_lem (tree_of formats schema first n) (tree_of formats schema first' n) ends_as x u i))
