-- What is owed of each kind: that the walk of a body or a node comes to what the converter makes of it. Assumes nothing.
use mathlib.Core.Path.{◌≡◌, refl, subst}
use mathlib.Core.Bool.{Bool}
use mathlib.Core.List.{List}
use Prim.Native.Nat.{ℕ, ◌+◌, ◌≤◌, ◌<◌}
use native.Mathlib.Omega.{arith}
use lib.ListN.{length}
use Rattle.columnar.specs.Types.{Ty}
use Rattle.columnar.specs.Array.{ok, Mask}
use Rattle.columnar.specs.Formed.{Formed}
use Rattle.columnar.specs.Reading.{Body, Column, masks, SlotRule, Source}
use Rattle.model.specs.Try.{done, then}
use Rattle.walk.specs.State.{end_of}
use Rattle.refinement.specs.walk_is_model.Memory.{Memory}
use Rattle.refinement.specs.walk_is_model.Holds.{Worded}
use Rattle.refinement.specs.orders.Order.{Lent}
use Rattle.refinement.proofs.walk_is_model.Frame.{Kept, worded_span}
use Rattle.refinement.proofs.walk_is_model.Kids.{worded_small}
use Rattle.refinement.proofs.walk_is_model.Owed.{DataKept}
use Rattle.refinement.proofs.walk_is_model.Goes.{Goes}
use Rattle.anew.specs.widths.Widths.{Widths, s_plain, s_view, s_list_view, s_list, s_sparse, s_dense, s_run_end, s_dictionary}
use Rattle.anew.specs.widths.Converted.{body_as, column_as}
use Rattle.anew.specs.widths.Fitting.{tried, numbers_of, numbers_in}
use Rattle.anew.proofs.widths.Cut.{cut}
use Rattle.anew.specs.Stood.{StoodData, Stood}
use Rattle.width_walks.specs.Convert.{node_walk, body_walk}
use Rattle.width_walks.specs.Ready.{InParts, ReadyBody, Ready}
use Rattle.width_walks.proofs.Frames.{Bare}
use Rattle.width_walks.proofs.Node.{Open, node_goes}

pub same_masks : (t t' : Ty) → Widths t t' → masks t ≡ masks t'
same_masks t t' (s_plain p p' d) = refl
same_masks t t' s_view = refl
same_masks t t' (s_list_view w w' u u' d) = refl
same_masks t t' (s_list w w' u u' d) = refl
same_masks t t' (s_sparse ids nullable nullable' f f' e d) = refl
same_masks t t' (s_dense ids nullable nullable' f f' e d) = refl
same_masks t t' (s_run_end w w' u u' d) = refl
same_masks t t' (s_dictionary k k' p p' i i' d) = refl

module _ (x : Lent) (buffers : List ℕ) where
  -- n slots from s on of a body, into node i
  abbrev pub BodyLaw : (t t' : Ty) → Widths t t' → Type 0
  BodyLaw t t' d =
      (k i : ℕ) → Worded x.plan k t' i → Formed t' → InParts x.plan t' i → (okay : ℕ → Bool) (b : Body t) (s n : ℕ) → SlotRule t okay b s n → ReadyBody x buffers t i b
      → (c : List ℕ) (μ : Memory) → Open i (end_of x.plan i) c μ
      → Goes μ (λ y c2 μ2. StoodData x buffers c2 μ2 t' i n y × DataKept i (end_of x.plan i) c c2 μ μ2) (then (tried (numbers_in d b s n)) (λ u. done (body_as d okay b s n)))
      (body_walk x.plan d i okay b s n c)

  -- n rows from a on of a column, into node i
  abbrev pub NodeLaw : (t t' : Ty) → Widths t t' → Type 0
  NodeLaw t t' d =
      (k i : ℕ) → Worded x.plan k t' i → Formed t' → InParts x.plan t' i → (v : Column t) → Source t v → Ready x buffers t i v → (a n : ℕ) → a + n ≤ v.len
      → (c : List ℕ) (μ : Memory) → length c ≡ 96 → ((j : ℕ) → i ≤ j → j < end_of x.plan i → Bare c μ j)
      → Goes μ (λ y c2 μ2. Stood x buffers c2 μ2 t' i y × Kept i (end_of x.plan i) c c2 μ μ2) (then (tried (numbers_of (numbers_in d) v a n)) (λ u. done (column_as t t' d v a n)))
      (node_walk x.plan i (body_walk x.plan d i) v a n c)

  pub node_of : (t t' : Ty) (d : Widths t t') → BodyLaw t t' d → NodeLaw t t' d
  node_of t t' d law k i w g q v s r a n l c μ long bare =
      let m : Mask (masks t') v.valid (v.off + v.len) = subst (λ z. Mask z v.valid (v.off + v.len)) (same_masks t t' d) s.mask in
      node_goes x buffers i (end_of x.plan i) (worded_small x.plan k t' i w) (worded_span x.plan k t' i w) (masks t') v m r.keeps a n l (omega (arith, r.small))
      (λ c2 μ2 j y. StoodData x buffers c2 μ2 t' i j y) (tried (numbers_of (numbers_in d) v a n)) (body_as d (ok v.valid) v.body (v.off + a) n)
      (body_walk x.plan d i (ok v.valid) v.body (v.off + a) n) c μ long bare
      (law k i w g q (ok v.valid) v.body (v.off + a) n (cut t (ok v.valid) v.body v.off v.len a n l s.slots) r.body_ready)
