-- The column that tables describe is the column that they show, where no union and no dictionary is below. Assumes nothing.
use mathlib.Core.Path.{◌≡◌, refl, ap, ap₂, ◌∙◌}
use mathlib.Core.List.{List}
use Prim.Native.Nat.{ℕ, suc}
use Rattle.columnar.specs.Types.{Plain, fixed, string, Ty, t_plain, t_view, t_list_view, t_list, t_sparse, t_dense, t_run_end, t_dictionary}
use Rattle.columnar.specs.Array.{Array}
use Rattle.columnar.specs.Plain.{PlainBody}
use Rattle.columnar.specs.Reading.{Body, Column}
use Rattle.array_data.specs.Tables.{Tables, array_with}
use Rattle.array_data.specs.Typed.{Tree, plain_body, body_of, column_of}
use Rattle.refinement.specs.finishing.Shows.{ShowsNode, ShowsPlain, ShowsData, Shows}

-- a union's children are compared where their ids are declared alone, and where a dictionary's values begin is not
abbrev pub Plainly : Ty → Type 0
Plainly (t_plain p) = Unit {0}
Plainly t_view = Unit {0}
Plainly (t_list_view w t) = Plainly t
Plainly (t_list w t) = Plainly t
Plainly (t_sparse ids nullable f) = ⊥
Plainly (t_dense ids nullable f) = ⊥
Plainly (t_run_end w t) = Plainly t
Plainly (t_dictionary k p) = ⊥

module _ (tree : Tree) (y : Tables) where
  node_is : {B : Type 0} (i : ℕ) (inner : B → Type 0) (a : Array B) (b : B) → ShowsNode y i inner a → b ≡ a.body → array_with y b i ≡ a
  node_is i inner a b h e = rw (h.len_is, h.off_is, h.valid_is, e) refl

  plain_is : (p : Plain) (i : ℕ) (b : PlainBody p) → ShowsPlain tree y p i b → plain_body tree y p i ≡ b
  plain_is (fixed n) i b h = h
  plain_is (string w) i b h = ap₂ (λ o c. record { offsets = o; chars = c }) h.0 h.1

  body_is : (t : Ty) (i : ℕ) (b : Body t) → Plainly t → ShowsData tree y t i b → body_of tree y t i ≡ b
  body_is (t_plain p) i b s h = plain_is p i b h
  body_is t_view i b s h = ap₂ (λ v d. record { views = v; buffers = d }) h.0 h.1
  body_is (t_list_view w t) i b s h =
      let k = node_is (suc i) (ShowsData tree y t (suc i)) b.child (body_of tree y t (suc i)) h.2 (body_is t (suc i) b.child.body s h.2.body_is) in
      ap₂ (λ o z. record { offsets = o; sizes = z; child = column_of tree y t (suc i) }) h.0 h.1 ∙ ap (λ (c : Column t). record { offsets = b.offsets; sizes = b.sizes; child = c }) k
  body_is (t_list w t) i b s h =
      let k = node_is (suc i) (ShowsData tree y t (suc i)) b.child (body_of tree y t (suc i)) h.1 (body_is t (suc i) b.child.body s h.1.body_is) in
      ap₂ (λ o (c : Column t). record { offsets = o; child = c }) h.0 k
  body_is (t_sparse ids nullable f) i b s h = absurd s
  body_is (t_dense ids nullable f) i b s h = absurd s
  body_is (t_run_end w t) i b s h =
      let e = node_is (suc i) (λ z. Rattle.array_data.specs.Tables.first_buffer y (suc i) ≡ z) b.ends (Rattle.array_data.specs.Tables.first_buffer y (suc i)) h.0 h.0.body_is in
      let k = node_is (suc (suc i)) (ShowsData tree y t (suc (suc i))) b.values (body_of tree y t (suc (suc i))) h.1 (body_is t (suc (suc i)) b.values.body s h.1.body_is) in
      ap₂ (λ (a : Array (List ℕ)) (c : Column t). record { ends = a; values = c }) e k
  body_is (t_dictionary k p) i b s h = absurd s

  -- THE COLUMN THAT THE TABLES DESCRIBE IS THE COLUMN THAT THEY SHOW
  pub described : (t : Ty) (i : ℕ) (a : Column t) → Plainly t → Shows tree y t i a → column_of tree y t i ≡ a
  described t i a s h = node_is i (ShowsData tree y t i) a (body_of tree y t i) h (body_is t i a.body s h.body_is)
