-- THE WALK OF THE CONVERTER comes to what it makes of a column. Assumes nothing.
use mathlib.Core.Path.{◌≡◌, refl}
use mathlib.Core.List.{List}
use Prim.Native.Nat.{ℕ, ◌*◌, ◌<◌}
use native.Mathlib.Omega.{arith}
use lib.ListN.{length, replicate, get_or-replicate}
use Rattle.columnar.specs.Types.{Ty}
use Rattle.columnar.specs.Formed.{Formed}
use Rattle.columnar.specs.Reading.{Column, Source}
use Rattle.walk.specs.State.{rows}
use Rattle.refinement.specs.walk_is_model.Holds.{Worded}
use Rattle.refinement.specs.orders.Order.{Lent}
use Rattle.refinement.proofs.walk_is_model.Goes.{Goes, goes_map}
use Rattle.refinement.proofs.opening.Zeros.{empty}
use Rattle.anew.specs.widths.Widths.{Widths, s_plain, s_view, s_list_view, s_list, s_sparse, s_dense, s_run_end, s_dictionary}
use Rattle.anew.specs.widths.Fitting.{converted}
use Rattle.anew.specs.Stood.{Stood}
use Rattle.width_walks.specs.Convert.{convert_walk}
use Rattle.width_walks.specs.Ready.{InParts, Ready}
use Rattle.width_walks.proofs.Laws.{BodyLaw, node_of}
use Rattle.width_walks.proofs.Nested.{plain_kind_lem, view_kind_lem, list_view_kind, list_kind_lem, run_end_kind, dictionary_kind_lem}
use Rattle.width_walks.proofs.Fields.{sparse_kind_lem, dense_kind_lem}

module _ (x : Lent) (buffers : List ℕ) where
  body_law : (t t' : Ty) (d : Widths t t') → BodyLaw x buffers t t' d
  body_law t t' (s_plain p p' d) = plain_kind_lem x buffers p p' d
  body_law t t' s_view = view_kind_lem x buffers
  body_law t t' (s_list_view w w' u u' d) = list_view_kind x buffers w w' u u' d (node_of x buffers u u' d (body_law u u' d))
  body_law t t' (s_list w w' u u' d) = list_kind_lem x buffers w w' u u' d (node_of x buffers u u' d (body_law u u' d))
  body_law t t' (s_sparse ids nullable nullable' f f' e d) = sparse_kind_lem x buffers ids nullable' f f' d (λ c m. node_of x buffers (f c) (f' c) (d c m) (body_law (f c) (f' c) (d c m))) nullable e
  body_law t t' (s_dense ids nullable nullable' f f' e d) = dense_kind_lem x buffers ids nullable' f f' d (λ c m. node_of x buffers (f c) (f' c) (d c m) (body_law (f c) (f' c) (d c m))) nullable e
  body_law t t' (s_run_end w w' u u' d) = run_end_kind x buffers w w' u u' d (node_of x buffers u u' d (body_law u u' d))
  body_law t t' (s_dictionary k k' p p' i i' d) = dictionary_kind_lem x buffers k k' p p' i i' d

  -- IT IS REFUSED BY THE GROUND OF `converted`, AND ELSE LEAVES THE COLUMN STANDING
  pub convert_goes : (t t' : Ty) (d : Widths t t') (k : ℕ) → Worded x.plan k t' 0 → Formed t' → InParts x.plan t' 0 → (v : Column t) → Source t v → Ready x buffers t 0 v
      → Goes empty (λ y c μ. Stood x buffers c μ t' 0 y × (length c ≡ 96)) (converted t t' d v) (convert_walk x.plan t t' d v (replicate 96 0))
  convert_goes t t' d k w g q v s r =
      goes_map (λ y c μ h. (h.0, h.1.long))
      (node_of x buffers t t' d (body_law t t' d) k 0 w g q v s r 0 v.len (omega arith) (replicate 96 0) empty refl
      (λ j a b. let e : j < 32 = omega arith in record { no_rows = fresh j e; no_bytes = λ z. refl; no_bits = refl }))
    where
      fresh : (j : ℕ) → j < 32 → rows (replicate 96 0) j ≡ 0
      fresh j l = get_or-replicate 96 (3 * j) 0 0 (omega arith)
