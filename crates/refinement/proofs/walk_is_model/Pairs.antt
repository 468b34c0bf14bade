-- More steps that go together: with the model's own theorem on the same answer, a last write, and rows below a bound. Assumes nothing.
use mathlib.Core.Path.{◌≡◌, refl, subst}
use mathlib.Core.List.{List}
use Prim.Native.Nat.{ℕ, zero, suc, ◌+◌, ◌<◌, ◌≤◌}
use native.Mathlib.Nat.{add-zero, add-suc, suc-add}
use native.Mathlib.Omega.{arith}
use Rattle.model.specs.Try.{Try, done, then, steps_t}
use Rattle.model.proofs.Agree.{Agrees, both, neither}
use Rattle.walk.specs.Log.{Entry, Out, wrote, each}
use Rattle.refinement.specs.walk_is_model.Memory.{Memory, noted, InPlace, after, AllInPlace}
use Rattle.refinement.proofs.walk_is_model.Goes.{Goes, good, over, goes_done, goes_then}

-- what the model's theorem says of an answer that is done
pub agrees_done : {A C : Type 0} {see : A → C} {P : A → Type 0} {t : Try A} {s : Try C} → Agrees see P t s → (x : A) → t ≡ done x → P x
agrees_done {P = P} (both y q) x e = let z : y ≡ x = cc in subst P z q
agrees_done (neither g) x e = absurd (let z : ◌≡◌ {A = ℕ} 0 1 = cc in omega arith)

-- where both are done, the model's theorem holds of what is done
pub goes_both : {A C : Type 0} {μ : Memory} {Q : A → List ℕ → Memory → Type 0} {t : Try A} {o : Out} {see : A → C} {P : A → Type 0} {s : Try C}
    → Goes μ Q t o → Agrees see P (then t (λ x. done x)) s → Goes μ (λ x c ν. Q x c ν × P x) t o
goes_both (good x o e p q) a = good x o e p (q, agrees_done a x refl)
goes_both (over g o e p) a = over g o e p

-- what the model is done with is made into another thing
pub goes_wrap : {A B : Type 0} {μ : Memory} {Q : A → List ℕ → Memory → Type 0} {R : B → List ℕ → Memory → Type 0} {t : Try A} {o : Out} (f : A → B)
    → ((x : A) (c : List ℕ) (ν : Memory) → Q x c ν → R (f x) c ν) → Goes μ Q t o → Goes μ R (then t (λ x. done (f x))) o
goes_wrap f h (good x o e p q) = good (f x) o e p (h x o.counters _ q)
goes_wrap f h (over g o e p) = over g o e p

-- a write that is the last step
pub goes_last : {A : Type 0} {μ : Memory} {Q : A → List ℕ → Memory → Type 0} (x : A) (e : Entry) (c : List ℕ) → InPlace e μ → Q x c (noted e μ)
    → Goes μ Q (done x) (wrote e c)
unfolding wrote after AllInPlace
goes_last x e c p q = good x (wrote e c) refl (p, tt) q

-- rows one after the other, as `goes-each`, where a step is owed only below `end`
pub goes_rows : {A : Type 0} (base end : ℕ) (f : ℕ → A → Try A) (k : ℕ → List ℕ → Out) (I : ℕ → A → List ℕ → Memory → Type 0)
    (step : (r : ℕ) (x : A) (c : List ℕ) (ν : Memory) → r < end → I r x c ν → Goes ν (I (suc r)) (f (base + r) x) (k r c))
    (n r : ℕ) (x : A) (c : List ℕ) (μ : Memory) → r + n ≤ end → I r x c μ → Goes μ (I (r + n)) (steps_t f (base + r) n x) (each k n r c)
unfolding each
goes_rows base end f k I step zero r x c μ h i = goes_done x c (rw add-zero i)
goes_rows base end f k I step (suc n) r x c μ h i =
    goes_then (steps_t f (suc (base + r)) n) (λ c2. each k n (suc r) c2) (step r x c μ (omega arith) i)
    (λ y c2 ν j. let g = goes_rows base end f k I step n (suc r) y c2 ν (omega arith) j in rw (add-suc r n, ← suc-add r n, ← add-suc base r) g)
