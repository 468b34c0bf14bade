-- The children of a node by a type tree, and the column that tables describe there. Assumes nothing.
use mathlib.Core.Path.{◌≡◌, refl, sym, ap₂}
use mathlib.Core.Bool.{Bool, true, false}
use mathlib.Core.List.{List, Memᴰ}
use Prim.Native.Nat.{ℕ}
use Rattle.columnar.specs.Types.{Ty, t_plain, t_view, t_list_view, t_list, t_sparse, t_dense, t_run_end, t_dictionary}
use Rattle.columnar.specs.Reading.{Body}
use Rattle.columnar.specs.Kids.{Kid, kid_ty, kid_at, kid_node, node_down}
use Rattle.array_data.specs.Tables.{Tables}
use Rattle.array_data.specs.Typed.{Tree, node_of, Is, Means, body_of}
use Rattle.array_data.proofs.Names.{union_kind}
use Rattle.refinement.specs.walk_is_model.Holds.{child_of, in_plan}

module _ (tree : Tree) where
  -- a child stands for its type
  pub means_kid : (t : Ty) (i : ℕ) → Means tree t i → (k : Kid t) → Means tree (kid_ty t k) (kid_node (node_of tree) t i k)
  means_kid (t_plain p) i h k = absurd k
  means_kid t_view i h k = absurd k
  means_kid (t_list_view w t) i h k = h.1
  means_kid (t_list w t) i h k = h.1
  means_kid (t_sparse ids nullable f) i h k = (h.1 k.0 k.1).1
  means_kid (t_dense ids nullable f) i h k = (h.1 k.0 k.1).1
  means_kid (t_run_end w t) i h k = h.2
  means_kid (t_dictionary n p) i h k = absurd k

  -- its column is the one at its node
  pub body_kid : (own : Tables) (t : Ty) (i : ℕ) (k : Kid t) → body_of tree own (kid_ty t k) (kid_node (node_of tree) t i k) ≡ (kid_at t (body_of tree own t i) k).body
  body_kid own (t_plain p) i k = absurd k
  body_kid own t_view i k = absurd k
  body_kid own (t_list_view w t) i k = refl
  body_kid own (t_list w t) i k = refl
  body_kid own (t_sparse ids nullable f) i k = refl
  body_kid own (t_dense ids nullable f) i k = refl
  body_kid own (t_run_end w t) i k = refl
  body_kid own (t_dictionary n p) i k = absurd k

  module _ (plan : List ℕ) (kids : (i : ℕ) (b : Bool) (ids : List ℕ) → Is tree i (union_kind b ids) → (e : ℕ) → Memᴰ e ids → child_of plan i e ≡ node_of tree i ids e) where
    -- the plan has it at the same node
    pub plan_kid : (t : Ty) (i : ℕ) → Means tree t i → (k : Kid t) → kid_node (node_of tree) t i k ≡ kid_node (in_plan plan) t i k
    plan_kid (t_plain p) i h k = absurd k
    plan_kid t_view i h k = absurd k
    plan_kid (t_list_view w t) i h k = refl
    plan_kid (t_list w t) i h k = refl
    plan_kid (t_sparse ids nullable f) i h k = sym (kids i true ids h.0 k.0 k.1)
    plan_kid (t_dense ids nullable f) i h k = sym (kids i false ids h.0 k.0 k.1)
    plan_kid (t_run_end w t) i h k = refl
    plan_kid (t_dictionary n p) i h k = absurd k

  -- ---- no clause a kind from here on

  -- a node that stands for a type, and its column
  abbrev pub Meant : Ty → Type 0
  Meant t = (i : ℕ) × Means tree t i

  abbrev pub meant_kid : (t : Ty) → Meant t → (k : Kid t) → Meant (kid_ty t k)
  meant_kid t s k = (kid_node (node_of tree) t s.0 k, means_kid t s.0 s.1 k)

  abbrev pub column_there : Tables → (t : Ty) → Meant t → ℕ × Body t
  column_there own t s = (s.0, body_of tree own t s.0)

  pub there_kid : (own : Tables) (plan : List ℕ) → ((i : ℕ) (b : Bool) (ids : List ℕ) → Is tree i (union_kind b ids) → (e : ℕ) → Memᴰ e ids → child_of plan i e ≡ node_of tree i ids e)
      → (t : Ty) (s : Meant t) (k : Kid t) → (r : Meant (kid_ty t k)) × (column_there own (kid_ty t k) r ≡ node_down (in_plan plan) t (column_there own t s) k)
  there_kid own plan kids t s k = (meant_kid t s k, ap₂ (λ a b. (a, b)) (plan_kid plan kids t s.0 s.1 k) (body_kid own t s.0 k))
