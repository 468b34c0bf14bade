-- Numbers that are tried, as the walk asks them. Assumes nothing.
use mathlib.Core.Path.{◌≡◌, refl, sym, ap, subst, ◌∙◌}
use mathlib.Core.Bool.{Bool, true, false, ◌&&◌}
use mathlib.Core.List.{List, [], ◌∷◌, ◌++◌}
use Prim.Native.Nat.{ℕ, zero, suc, ◌+◌, ◌<◌, ◌≤◌}
use native.Mathlib.Omega.{arith}
use lib.Dec.{ltb}
use Rattle.columnar.specs.RunEnd.{RunEnd, end_of, start_of}
use Rattle.model.specs.Try.{Try, done, stop, then, guard}
use Rattle.walk.specs.Log.{Out}
use Rattle.refinement.specs.walk_is_model.Memory.{Memory, after}
use Rattle.refinement.proofs.walk_is_model.Goes.{Goes, good, over}
use Rattle.anew.specs.widths.Converted.{ends_of}
use Rattle.anew.specs.widths.Fitting.{Demand, needs, tried}
use Rattle.anew.proofs.widths.Decide.{tried_then, ends_decide}
use Rattle.width_walks.specs.Convert.{all_under, end_fits}

-- a test and what follows it
pub guard_then : {A : Type 0} (b : Bool) (g : ℕ) (f : Unit {0} → Try A) → then (guard b g (done tt)) f ≡ guard b g (f tt)
guard_then true g f = refl
guard_then false g f = refl

then_then : {A : Type 0} (l r : Try (Unit {0})) (f : Unit {0} → Try A) → then (then l (λ u. r)) f ≡ then l (λ u. then r f)
then_then (done u) r f = refl
then_then (stop g) r f = refl

-- numbers that one test decides, before others
pub asks : {A : Type 0} (l r : List Demand) (b : Bool) (g : ℕ) (f : Unit {0} → Try A) → tried l ≡ guard b g (done tt) → then (tried (l ++ r)) f ≡ guard b g (then (tried r) f)
asks l r b g f e = ap (λ z. then z f) (tried_then l r) ∙ then_then (tried l) (tried r) f ∙ ap (λ z. then z (λ u. then (tried r) f)) e ∙ guard_then b g (λ u. then (tried r) f)

-- .. alone
pub asks_last : {A : Type 0} (l : List Demand) (b : Bool) (g : ℕ) (f : Unit {0} → Try A) → tried l ≡ guard b g (done tt) → then (tried l) f ≡ guard b g (f tt)
asks_last l b g f e = ap (λ z. then z f) e ∙ guard_then b g f

pub under_decides : (g most : ℕ) (l : List ℕ) → tried (needs g most l) ≡ guard (all_under most l) g (done tt)
under_decides g most [] = refl
under_decides g most (v ∷ vs) = go (ltb v most) (under_decides g most vs)
  where
    go : (b : Bool) → tried (needs g most vs) ≡ guard (all_under most vs) g (done tt) → guard b g (tried (needs g most vs)) ≡ guard (b && all_under most vs) g (done tt)
    go true e = e
    go false e = refl

pub end_decides : (w : ℕ) {P : Type 0} (b : RunEnd P) (s n : ℕ) → ((k : ℕ) → k < b.ends.len → start_of (end_of w b.ends) k < end_of w b.ends k)
    → s + n ≤ start_of (end_of w b.ends) b.ends.len → (most : ℕ) → tried (needs 7 most (ends_of w b s n)) ≡ guard (end_fits most n) 7 (done tt)
end_decides w b s zero rises covers most = refl
end_decides w b s (suc n) rises covers most = ends_decide w b s n rises covers most

-- ---- what an answer is

not_stop : {A : Type 0} {x : A} {g : ℕ} → ◌≡◌ {A = Try A} (done x) (stop g) → ⊥
not_stop e = let z : ◌≡◌ {A = ℕ} 0 1 = cc in omega arith

stop_is : {A : Type 0} {g h : ℕ} → ◌≡◌ {A = Try A} (stop g) (stop h) → g ≡ h
stop_is e = cc

done_is : {A : Type 0} {x y : A} → ◌≡◌ {A = Try A} (done x) (done y) → x ≡ y
done_is e = cc

-- the same walk with another value for what is made
pub goes_value : {A B : Type 0} {μ : Memory} {Q : A → List ℕ → Memory → Type 0} {R : B → List ℕ → Memory → Type 0} {o : Out} (m : Try (Unit {0})) (y : A) (z : B)
    → ((c : List ℕ) (ν : Memory) → Q y c ν → R z c ν) → Goes μ Q (then m (λ u. done y)) o → Goes μ R (then m (λ u. done z)) o
goes_value {A} {B} {μ} {Q} {R} m y z f h = go h m refl
  where
    go : {t : Try A} {o : Out} → Goes μ Q t o → (m : Try (Unit {0})) → t ≡ then m (λ u. done y) → Goes μ R (then m (λ u. done z)) o
    go (good a o e p q) (done u) k = good z o e p (f o.counters (after o.log μ) (subst (λ w. Q w o.counters (after o.log μ)) (done_is k) q))
    go (good a o e p q) (stop g) k = absurd (not_stop k)
    go (over g o e p) (done u) k = absurd (not_stop (sym k))
    go (over g o e p) (stop h) k = subst (λ w. Goes μ R (stop w) o) (stop_is k) (over g o e p)
