-- Where a null goes at a union: the first nullable child, by nodes and by ids. Assumes nothing.
use mathlib.Core.Path.{◌≡◌, refl, sym, ap, subst, ◌∙◌}
use mathlib.Core.Bool.{Bool, true, false, cond}
use mathlib.Core.List.{List, [], ◌∷◌, Memᴰ}
use Prim.Native.Nat.{ℕ, zero, suc, ◌≤◌, ◌<◌}
use native.Mathlib.Omega.{arith}
use lib.ListN.{length}
use lib.Dec.{eqb}
use borrow.Author.Tests.{lt-ltb, le-ltb}
use Rattle.columnar.specs.Formed.{Ids}
use Rattle.model.specs.Try.{Try, done, stop, then}
use Rattle.model.specs.Ordered.{first_nullable, home}
use Rattle.walk.specs.State.{end_of, nullable_of}
use Rattle.walk.specs.Log.{Out, fail, found}
use Rattle.walk.specs.Copy.{child_with}
use Rattle.walk.specs.Nulls.{nullable_child, no_home}
use Rattle.refinement.specs.walk_is_model.Memory.{Memory}
use Rattle.refinement.specs.walk_is_model.Holds.{child_of, Fields}
use Rattle.refinement.proofs.walk_is_model.Goes.{Goes, over, goes_found}
use Rattle.refinement.proofs.walk_is_model.UnionFields.{with_first, with_later}

-- a number that is not found
goes_lost : {A : Type 0} {μ : Memory} {Q : A → List ℕ → Memory → Type 0} (g : ℕ) (c : List ℕ) (K : ℕ → Out) → 0 < g → Goes μ Q (stop g) (found 32 32 g c K)
unfolding found fail
goes_lost g c K p = over g (fail g c) refl p

module _ (plan : List ℕ) where
  nullable_none : (end fuel : ℕ) → nullable_child plan end fuel end ≡ 32
  unfolding nullable_child
  nullable_none end zero = refl
  nullable_none end (suc fuel) = rw (le-ltb end end (omega arith))

  nullable_one : (end fuel k : ℕ) (b : Bool) → k < end → eqb (nullable_of plan k) 1 ≡ b
      → nullable_child plan end (suc fuel) k ≡ cond b k (nullable_child plan end fuel (end_of plan k))
  unfolding nullable_child
  nullable_one end fuel k b p e = rw (lt-ltb k end p, e)

  module _ (kid : ℕ → ℕ → Type 0) (nullable : ℕ → Bool) (end : ℕ) (low : end ≤ 32) {A : Type 0} {μ : Memory} {Q : A → List ℕ → Memory → Type 0} (F : ℕ → Try A) (K : ℕ → Out) (c : List ℕ) where
    first_goes : (cs : List ℕ) (k fuel : ℕ) → Fields plan kid nullable end cs k → Ids cs → length cs ≤ fuel
        → ((h : ℕ) → Memᴰ h cs → Goes μ Q (F h) (K (child_with plan h end fuel k)))
        → Goes μ Q (then (first_nullable nullable cs) F) (found 32 (nullable_child plan end fuel k) 5 c K)
    first_goes [] k fuel w a l g =
        let e : k ≡ end = w in
        subst (λ z. Goes μ Q (stop 5) (found 32 z 5 c K)) (sym (ap (nullable_child plan end fuel) e ∙ nullable_none end fuel)) (goes_lost 5 c K (omega arith))
    first_goes (b ∷ cs) k zero w a l g = absurd (omega arith)
    first_goes (b ∷ cs) k (suc fuel) w a l g =
        subst (λ z. Goes μ Q (then (first_nullable nullable (b ∷ cs)) F) (found 32 z 5 c K)) (sym (nullable_one end fuel k (nullable b) before w.1))
        (go (nullable b)
        (first_goes cs (end_of plan k) fuel w.5 a.2 (omega arith)
        (λ h m. subst (λ z. Goes μ Q (F h) (K z)) (with_later plan h end fuel k before (λ q. a.1 (subst (λ z. Memᴰ z cs) (sym q ∙ w.0) m))) (g h (Memᴰ.tail m)))))
      where
        before : k < end
        before = omega (arith, w.2, w.3)

        go : (z : Bool) → Goes μ Q (then (first_nullable nullable cs) F) (found 32 (nullable_child plan end fuel (end_of plan k)) 5 c K)
            → Goes μ Q (then (elim z [ true ↦ done b | false ↦ first_nullable nullable cs ]) F) (found 32 (cond z k (nullable_child plan end fuel (end_of plan k))) 5 c K)
        go true r = goes_found 32 k 5 c K (omega arith) (subst (λ z. Goes μ Q (F b) (K z)) (with_first plan b end fuel k before w.0) (g b (Memᴰ.head refl)))
        go false r = r

  -- THE FIRST NULLABLE CHILD, or ground 4 or 5 by both
  pub goes_home : (kid : ℕ → ℕ → Type 0) (nullable : ℕ → Bool) (i : ℕ) {A : Type 0} {μ : Memory} {Q : A → List ℕ → Memory → Type 0} (F : ℕ → Try A) (K : ℕ → Out) (c : List ℕ)
      (ids : List ℕ) → Fields plan kid nullable (end_of plan i) ids (suc i) → Ids ids → length ids ≤ 32
      → ((h : ℕ) → Memᴰ h ids → Goes μ Q (F h) (K (child_of plan i h)))
      → Goes μ Q (then (home nullable ids) F) (found 32 (nullable_child plan (end_of plan i) 32 (suc i)) (no_home plan i) c K)
  goes_home kid nullable i {μ = μ} {Q} F K c [] w a l g =
      let e : suc i ≡ end_of plan i = w in
      rw (← e, nullable_none (suc i) 32, le-ltb (suc i) (suc i) (omega arith)) (goes_lost 4 c K (omega arith))
  goes_home kid nullable i {μ = μ} {Q} F K c (b ∷ ids) w a l g =
      rw (lt-ltb (suc i) (end_of plan i) (omega (arith, w.2, w.3))) (first_goes kid nullable (end_of plan i) (omega arith) F K c (b ∷ ids) (suc i) 32 w a l g)
