-- Two answers that agree: both done, and then what is done is as wanted, or both stopped by the same ground. Assumes nothing.
use mathlib.Core.Path.{◌≡◌, refl, subst}
use mathlib.Core.Bool.{Bool, true, false}
use Prim.Native.Nat.{ℕ, zero, suc}
use Rattle.model.specs.Try.{Try, done, stop, then, guard, steps_t}

-- an answer x, and the answer `see x` in terms of what is held
pub data Agrees {A C : Type 0} (see : A → C) (Q : A → Type 0) : Try A → Try C → Type 0 where
  both : (x : A) → Q x → Agrees see Q (done x) (done (see x))
  neither : (g : ℕ) → Agrees see Q (stop g) (stop g)

-- done with x, where the other is done with c, which is what x is seen as
pub both_as : {A C : Type 0} {see : A → C} {Q : A → Type 0} {c : C} (x : A) → see x ≡ c → Q x → Agrees see Q (done x) (done c)
both_as {see} {Q} x e q = subst (λ c. Agrees see Q (done x) (done c)) e (both x q)

pub agrees_map : {A C : Type 0} {see : A → C} {Q R : A → Type 0} {t : Try A} {s : Try C} → ((x : A) → Q x → R x) → Agrees see Q t s → Agrees see R t s
agrees_map f (both x q) = both x (f x q)
agrees_map f (neither g) = neither g

pub agrees_then : {A B C D : Type 0} {see : A → C} {Q : A → Type 0} {look : B → D} {R : B → Type 0} {t : Try A} {s : Try C} (f : A → Try B) (h : C → Try D)
    → Agrees see Q t s → ((x : A) → Q x → Agrees look R (f x) (h (see x))) → Agrees look R (then t f) (then s h)
agrees_then f h (both x q) k = k x q
agrees_then f h (neither g) k = neither g

-- the same test, said in two ways; where it holds, both go on
pub agrees_guard : {A C : Type 0} {see : A → C} {Q : A → Type 0} {t : Try A} {s : Try C} (b b' : Bool) (g : ℕ) → b ≡ b'
    → (b ≡ true → Agrees see Q t s) → Agrees see Q (guard b g t) (guard b' g s)
agrees_guard {see} {Q} {t} {s} b b' g e k = subst (λ b'. Agrees see Q (guard b g t) (guard b' g s)) e (go b k)
  where
    go : (b : Bool) → (b ≡ true → Agrees see Q t s) → Agrees see Q (guard b g t) (guard b g s)
    go true k = k refl
    go false k = neither g

-- what is done is made into another thing, which is seen as the same
pub agrees_wrap : {A B C : Type 0} {see : A → C} {Q : A → Type 0} {look : B → C} {R : B → Type 0} {t : Try A} {s : Try C} (f : A → B)
    → ((x : A) → look (f x) ≡ see x) → ((x : A) → Q x → R (f x)) → Agrees see Q t s → Agrees look R (then t (λ x. done (f x))) s
agrees_wrap f e r (both x q) = both_as (f x) (e x) (r x q)
agrees_wrap f e r (neither g) = neither g
