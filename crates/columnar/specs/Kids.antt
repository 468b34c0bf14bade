-- The children of a type, and one recursion for what is said of all view and dictionary nodes below. Assumes nothing.
use mathlib.Core.List.{List, Memᴰ}
use Rattle.std.specs.Prelude.{ℕ, suc}
use Rattle.columnar.specs.Types.{Number, Plain, Ty, t_plain, t_view, t_list_view, t_list, t_sparse, t_dense, t_run_end, t_dictionary}
use Rattle.columnar.specs.Reading.{Body, Column}

-- which child: a list's, a run-end node's values, a union's by a declared id
abbrev pub Kid : Ty → Type 0
Kid (t_plain p) = ⊥
Kid t_view = ⊥
Kid (t_list_view w t) = Unit {0}
Kid (t_list w t) = Unit {0}
Kid (t_sparse ids nullable f) = (c : ℕ) × Memᴰ c ids
Kid (t_dense ids nullable f) = (c : ℕ) × Memᴰ c ids
Kid (t_run_end w t) = Unit {0}
Kid (t_dictionary n p) = ⊥

abbrev pub kid_ty : (t : Ty) → Kid t → Ty
kid_ty (t_plain p) k = absurd k
kid_ty t_view k = absurd k
kid_ty (t_list_view w t) k = t
kid_ty (t_list w t) k = t
kid_ty (t_sparse ids nullable f) k = f k.0
kid_ty (t_dense ids nullable f) k = f k.0
kid_ty (t_run_end w t) k = t
kid_ty (t_dictionary n p) k = absurd k

abbrev pub kid_at : (t : Ty) → Body t → (k : Kid t) → Column (kid_ty t k)
kid_at (t_plain p) b k = absurd k
kid_at t_view b k = absurd k
kid_at (t_list_view w t) b k = b.child
kid_at (t_list w t) b k = b.child
kid_at (t_sparse ids nullable f) b k = b.children k.0
kid_at (t_dense ids nullable f) b k = b.children k.0
kid_at (t_run_end w t) b k = b.values
kid_at (t_dictionary n p) b k = absurd k

-- the node of a child of node i, where nodes are numbered in tree order; `find` has a union's children: its node, its ids, the child's id
abbrev pub kid_node : (ℕ → List ℕ → ℕ → ℕ) → (t : Ty) → ℕ → Kid t → ℕ
kid_node find (t_plain p) i k = absurd k
kid_node find t_view i k = absurd k
kid_node find (t_list_view w t) i k = suc i
kid_node find (t_list w t) i k = suc i
kid_node find (t_sparse ids nullable f) i k = find i ids k.0
kid_node find (t_dense ids nullable f) i k = find i ids k.0
kid_node find (t_run_end w t) i k = suc (suc i)
kid_node find (t_dictionary n p) i k = absurd k

-- AT EVERY VIEW AND EVERY DICTIONARY FROM A NODE ON: what is known at the node (`x`) goes `down` to its children. The other kinds say nothing
-- of their own.
module _ {X : Ty → Type 0} (down : (t : Ty) → X t → (k : Kid t) → X (kid_ty t k)) (atView : X t_view → Type 0) (atKeys : (n : Number) (p : Plain) → X (t_dictionary n p) → Type 0) where
  abbrev pub Below : (t : Ty) → X t → Type 0
  Below (t_plain p) x = Unit {0}
  Below t_view x = atView x
  Below (t_list_view w t) x = Below t (down (t_list_view w t) x tt)
  Below (t_list w t) x = Below t (down (t_list w t) x tt)
  Below (t_sparse ids nullable f) x = (c : ℕ) (q : Memᴰ c ids) → Below (f c) (down (t_sparse ids nullable f) x (c, q))
  Below (t_dense ids nullable f) x = (c : ℕ) (q : Memᴰ c ids) → Below (f c) (down (t_dense ids nullable f) x (c, q))
  Below (t_run_end w t) x = Below t (down (t_run_end w t) x tt)
  Below (t_dictionary n p) x = atKeys n p x

-- .. of one column
abbrev pub body_down : (t : Ty) → Body t → (k : Kid t) → Body (kid_ty t k)
body_down t b k = (kid_at t b k).body

-- .. of columns of one type
abbrev pub bodies_down : (t : Ty) → (ℕ → Body t) → (k : Kid t) → ℕ → Body (kid_ty t k)
bodies_down t ss k = λ j. (kid_at t (ss j) k).body

-- .. of a node and its column, or its columns
abbrev pub node_down : (ℕ → List ℕ → ℕ → ℕ) → (t : Ty) → ℕ × Body t → (k : Kid t) → ℕ × Body (kid_ty t k)
node_down find t x k = (kid_node find t x.0 k, body_down t x.1 k)

abbrev pub nodes_down : (ℕ → List ℕ → ℕ → ℕ) → (t : Ty) → ℕ × (ℕ → Body t) → (k : Kid t) → ℕ × (ℕ → Body (kid_ty t k))
nodes_down find t x k = (kid_node find t x.0 k, bodies_down t x.1 k)
