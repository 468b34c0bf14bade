-- Writes into a union's own buffers, and what they leave. Assumes nothing.
use mathlib.Core.Path.{◌≡◌, refl, ap, ◌∙◌}
use mathlib.Core.Bool.{Bool, cond, ◌&&◌}
use mathlib.Core.List.{List, ◌++◌, Memᴰ}
use Prim.Native.Nat.{ℕ, suc, ◌≤◌, ◌<◌}
use native.Mathlib.Omega.{arith}
use lib.ListN.{length}
use lib.Dec.{eqb}
use borrow.Author.Tests.{eq-eqb, ne_eqb}
use Rattle.columnar.specs.Types.{Ty}
use Rattle.model.specs.Transform.{Grown, Destination}
use Rattle.walk.specs.State.{end_of}
use Rattle.refinement.specs.walk_is_model.Memory.{Memory, put_in}
use Rattle.refinement.specs.walk_is_model.Holds.{child_of, Fields, Worded, HoldsData, Holds}
use Rattle.refinement.proofs.walk_is_model.Frame.{SameAt, same_then, Kept, Field, field_of, held_same}
use Rattle.refinement.proofs.walk_is_model.Owed.{DataKept}

pub put_own : (i b : ℕ) (bs : List ℕ) (μ : Memory) → (put_in i b bs μ).at i b ≡ μ.at i b ++ bs
put_own i b bs μ = rw (eq-eqb i i refl, eq-eqb b b refl)

pub put_else : (i b : ℕ) (bs : List ℕ) (μ : Memory) (e : ℕ) → (e ≡ b → ⊥) → (put_in i b bs μ).at i e ≡ μ.at i e
put_else i b bs μ e h = rw (eq-eqb i i refl, ne_eqb e b h)

-- node i's own buffers alone may differ
pub record Own (i : ℕ) (μ ν : Memory) : Type 0 where
  pub bits_own : ν.bits i ≡ μ.bits i
  pub others : (c : List ℕ) (j : ℕ) → (j ≡ i → ⊥) → SameAt c c μ ν j

pub own_put : (i b : ℕ) (bs : List ℕ) (μ : Memory) → Own i μ (put_in i b bs μ)
own_put i b bs μ =
    record {
      bits_own = refl;
      others = λ c j h.
          record { rows_same = refl; nulls_same = refl; bytes_same = refl; at_same = λ e. ap (λ z. cond (z && eqb e b) (μ.at j e ++ bs) (μ.at j e)) (ne_eqb j i h); bits_same = refl };
    }

pub own_then : {i : ℕ} {μ ν ξ : Memory} → Own i μ ν → Own i ν ξ → Own i μ ξ
own_then a b = record { bits_own = b.bits_own ∙ a.bits_own; others = λ c j h. same_then (a.others c j h) (b.others c j h) }

-- and then the nodes of a child
pub own_kept : {i k u e : ℕ} {c c' : List ℕ} {μ ν μ' : Memory} → i < k → u ≤ e → i < e → Own i μ ν → Kept k u c c' ν μ' → DataKept i e c c' μ μ'
own_kept {i} {k} {u} {e} {c} p q r a b =
    let here = b.outside i (λ x y. omega arith) in
    record {
      long = b.long;
      rows_own = here.rows_same;
      nulls_own = here.nulls_same;
      bits_own = here.bits_same ∙ a.bits_own;
      outside = λ j h. same_then (a.others c j (λ z. h (omega arith) (omega arith))) (b.outside j (λ x y. h (omega arith) (omega arith)));
    }

pub data_kept_then : {i e : ℕ} {c c1 c2 : List ℕ} {μ μ1 μ2 : Memory} → DataKept i e c c1 μ μ1 → DataKept i e c1 c2 μ1 μ2 → DataKept i e c c2 μ μ2
data_kept_then a b =
    record {
      long = b.long ∙ a.long;
      rows_own = b.rows_own ∙ a.rows_own;
      nulls_own = b.nulls_own ∙ a.nulls_own;
      bits_own = b.bits_own ∙ a.bits_own;
      outside = λ j h. same_then (a.outside j h) (b.outside j h);
    }

-- what is left of a union with type t at node i
abbrev pub Left : List ℕ → (t : Ty) → ℕ → List ℕ → Memory → Grown t → List ℕ → Memory → Type 0
Left plan t i c μ y c' μ' = HoldsData plan t i y c' μ' × DataKept i (end_of plan i) c c' μ μ'

-- the children of a union at node i
module _ (plan : List ℕ) (depth : ℕ) (ids : List ℕ) (nullable : ℕ → Bool) (f : ℕ → Ty) (i : ℕ) (w : Fields plan (λ e. Worded plan depth (f e)) nullable (end_of plan i) ids (suc i))
    (few : length ids ≤ 32) where
  pub child_field : (e : ℕ) → Memᴰ e ids → Field plan (λ e. Worded plan depth (f e)) (end_of plan i) (suc i) e (child_of plan i e)
  child_field e m = field_of plan (λ e. Worded plan depth (f e)) nullable (end_of plan i) ids (suc i) 32 e w few m

  -- they are held where the nodes behind i are as they were
  pub kids_held : (d : (e : ℕ) → Destination (f e)) (c c' : List ℕ) (μ μ' : Memory) → ((j : ℕ) → (j ≡ i → ⊥) → SameAt c c' μ μ' j)
      → ((e : ℕ) → Memᴰ e ids → Holds plan (f e) (child_of plan i e) (d e) c μ) → (e : ℕ) → Memᴰ e ids → Holds plan (f e) (child_of plan i e) (d e) c' μ'
  kids_held d c c' μ μ' same h e m =
      let g = child_field e m in
      held_same plan c c' μ μ' depth (f e) (child_of plan i e) (d e) g.is_kid (λ j u v. same j (λ z. omega (arith, g.behind))) (h e m)
