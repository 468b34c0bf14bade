-- An answer of the model and the walk that goes with it, step by step. Assumes nothing.
use mathlib.Core.Path.{◌≡◌, refl, sym, ap, subst, ◌∙◌}
use mathlib.Core.Bool.{Bool, true, false, cond}
use mathlib.Core.List.{List, [], ◌∷◌, ◌++◌}
use Prim.Native.Nat.{ℕ, zero, suc, ◌+◌, ◌<◌, ◌≤◌}
use native.Mathlib.Nat.{add-zero, add-suc, suc-add}
use native.Mathlib.Omega.{arith}
use lib.ListN.{length}
use lib.Dec.{ltb, eqb}
use borrow.Author.Tests.{lt-ltb, eq-eqb, ne_eqb}
use Rattle.model.specs.Try.{Try, done, stop, then, guard, steps_t}
use Rattle.walk.specs.Log.{Entry, Log, Out, fail, wrote, need, found, next, each}
use Rattle.refinement.specs.walk_is_model.Memory.{Memory, noted, InPlace, after, AllInPlace}

-- both are done, and then the counters and the memory are as wanted; or both stop by the same ground
pub data Goes {A : Type 0} (μ : Memory) (Q : A → List ℕ → Memory → Type 0) : Try A → Out → Type 0 where
  good : (x : A) (o : Out) → o.ans ≡ 0 → AllInPlace o.log μ → Q x o.counters (after o.log μ) → Goes μ Q (done x) o
  over : (g : ℕ) (o : Out) → o.ans ≡ g → 0 < g → Goes μ Q (stop g) o

-- ---- logs

pub after_append : (l k : Log) (μ : Memory) → after (l ++ k) μ ≡ after k (after l μ)
unfolding after
after_append [] k μ = refl
after_append (e ∷ l) k μ = after_append l k (noted e μ)

pub in_place_append : (l k : Log) (μ : Memory) → AllInPlace l μ → AllInPlace k (after l μ) → AllInPlace (l ++ k) μ
unfolding after AllInPlace
in_place_append [] k μ h g = g
in_place_append (e ∷ l) k μ h g = (h.0, in_place_append l k (noted e μ) h.1 g)

-- ---- steps

-- a walk that is done, with no log
pub goes_done : {A : Type 0} {μ : Memory} {Q : A → List ℕ → Memory → Type 0} (x : A) (c : List ℕ) → Q x c μ → Goes μ Q (done x) (Rattle.walk.specs.Log.done c)
unfolding Rattle.walk.specs.Log.done after AllInPlace
goes_done {μ = μ} {Q} x c q = good x (Rattle.walk.specs.Log.done c) refl tt q

pub goes_map : {A : Type 0} {μ : Memory} {Q R : A → List ℕ → Memory → Type 0} {t : Try A} {o : Out}
    → ((x : A) (c : List ℕ) (ν : Memory) → Q x c ν → R x c ν) → Goes μ Q t o → Goes μ R t o
goes_map f (good x o e p q) = good x o e p (f x o.counters _ q)
goes_map f (over g o e p) = over g o e p

-- the same test in both, with the same ground
pub goes_guard : {A : Type 0} {μ : Memory} {Q : A → List ℕ → Memory → Type 0} {t : Try A} {o : Out} (b b' : Bool) (g : ℕ) (c : List ℕ) → 0 < g → b' ≡ b
    → (b ≡ true → Goes μ Q t o) → Goes μ Q (guard b g t) (need b' g c o)
unfolding need fail
goes_guard {A} {μ} {Q} {t} {o} b b' g c p e h = subst (λ z. Goes μ Q (guard b g t) (need z g c o)) (sym e) (go b h)
  where
    go : (b : Bool) → (b ≡ true → Goes μ Q t o) → Goes μ Q (guard b g t) (need b g c o)
    go true h = h refl
    go false h = over g (fail g c) refl p

-- the same choice in both
pub goes_cond : {A : Type 0} {μ : Memory} {Q : A → List ℕ → Memory → Type 0} {t t' : Try A} {o o' : Out} (b : Bool) → (b ≡ true → Goes μ Q t o) → (b ≡ false → Goes μ Q t' o')
    → Goes μ Q (cond b t t') (cond b o o')
goes_cond true h k = h refl
goes_cond false h k = k refl

-- a test of the walk alone, which holds
pub goes_need : {A : Type 0} {μ : Memory} {Q : A → List ℕ → Memory → Type 0} {t : Try A} {o : Out} (b : Bool) (g : ℕ) (c : List ℕ) → b ≡ true
    → Goes μ Q t o → Goes μ Q t (need b g c o)
unfolding need
goes_need b g c e h = rw e h

-- a number that is found
pub goes_found : {A : Type 0} {μ : Memory} {Q : A → List ℕ → Memory → Type 0} {t : Try A} (m x g : ℕ) (c : List ℕ) (k : ℕ → Out) → x < m
    → Goes μ Q t (k x) → Goes μ Q t (found m x g c k)
unfolding found
goes_found m x g c k p h = rw (lt-ltb x m p) h

wrote_next : (e : Entry) (c : List ℕ) (k : List ℕ → Out) → next (wrote e c) k ≡ record { ans = (k c).ans; counters = (k c).counters; log = e ∷ (k c).log }
unfolding next wrote
wrote_next e c k = refl

module _ {A : Type 0} {Q : A → List ℕ → Memory → Type 0} where
  goes_entry : {μ : Memory} {t : Try A} {o : Out} (e : Entry) → InPlace e μ → Goes (noted e μ) Q t o
      → Goes μ Q t (record { ans = o.ans; counters = o.counters; log = e ∷ o.log })
  unfolding after AllInPlace
  goes_entry e p (good x o r s w) = good x (record { ans = o.ans; counters = o.counters; log = e ∷ o.log }) r (p, s) w
  goes_entry e p (over g o r s) = over g (record { ans = o.ans; counters = o.counters; log = e ∷ o.log }) r s

  -- a write of the walk, in place
  pub goes_wrote : {μ : Memory} {t : Try A} (e : Entry) (c : List ℕ) (k : List ℕ → Out) → InPlace e μ → Goes (noted e μ) Q t (k c) → Goes μ Q t (next (wrote e c) k)
  goes_wrote {μ} {t} e c k p h = subst (Goes μ Q t) (sym (wrote_next e c k)) (goes_entry e p h)

next_done : (o : Out) (k : List ℕ → Out) → o.ans ≡ 0
    → next o k ≡ record { ans = (k o.counters).ans; counters = (k o.counters).counters; log = o.log ++ (k o.counters).log }
unfolding next
next_done o k e = rw (eq-eqb o.ans 0 e)

next_stop : (o : Out) (k : List ℕ → Out) → 0 < o.ans → next o k ≡ o
unfolding next
next_stop o k p = rw (ne_eqb o.ans 0 (λ z. omega (arith, z)))

-- a log before a walk
goes_behind : {A : Type 0} {R : A → List ℕ → Memory → Type 0} {μ : Memory} {t : Try A} {o : Out} (l : Log) → AllInPlace l μ → Goes (after l μ) R t o
    → Goes μ R t (record { ans = o.ans; counters = o.counters; log = l ++ o.log })
goes_behind {R = R} {μ} l p (good y o r s w) = good y _ r (in_place_append l o.log μ p s) (subst (R y o.counters) (sym (after_append l o.log μ)) w)
goes_behind l p (over g o r s) = over g _ r s

-- one step and then another
pub goes_then : {A B : Type 0} {μ : Memory} {Q : A → List ℕ → Memory → Type 0} {R : B → List ℕ → Memory → Type 0} {t : Try A} {o : Out} (f : A → Try B) (k : List ℕ → Out)
    → Goes μ Q t o → ((x : A) (c : List ℕ) (ν : Memory) → Q x c ν → Goes ν R (f x) (k c)) → Goes μ R (then t f) (next o k)
goes_then {μ = μ} {R = R} f k (good x o e p q) h =
    subst (Goes μ R (f x)) (sym (next_done o k e)) (goes_behind o.log p (h x o.counters (after o.log μ) q))
goes_then {μ = μ} {R = R} f k (over g o e p) h = subst (Goes μ R (stop g)) (sym (next_stop o k (omega (arith, e)))) (over g o e p)

-- a step of the walk alone: it is done, and leaves the counters and the memory as wanted
pub record Quiet (μ : Memory) (Q : List ℕ → Memory → Type 0) (o : Out) : Type 0 where
  pub is_done : o.ans ≡ 0
  pub in_place : AllInPlace o.log μ
  pub leaves : Q o.counters (after o.log μ)

pub quiet_done : {μ : Memory} {Q : List ℕ → Memory → Type 0} (c : List ℕ) → Q c μ → Quiet μ Q (Rattle.walk.specs.Log.done c)
unfolding Rattle.walk.specs.Log.done after AllInPlace
quiet_done c q = record { is_done = refl; in_place = tt; leaves = q }

pub quiet_wrote : {μ : Memory} {Q : List ℕ → Memory → Type 0} (e : Entry) (c : List ℕ) → InPlace e μ → Q c (noted e μ) → Quiet μ Q (wrote e c)
unfolding wrote after AllInPlace
quiet_wrote e c p q = record { is_done = refl; in_place = (p, tt); leaves = q }

pub quiet_need : {μ : Memory} {Q : List ℕ → Memory → Type 0} {o : Out} (b : Bool) (g : ℕ) (c : List ℕ) → b ≡ true → Quiet μ Q o → Quiet μ Q (need b g c o)
unfolding need
quiet_need b g c e h = rw e h

pub quiet_then : {μ : Memory} {Q R : List ℕ → Memory → Type 0} {o : Out} (k : List ℕ → Out) → Quiet μ Q o → ((c : List ℕ) (ν : Memory) → Q c ν → Quiet ν R (k c))
    → Quiet μ R (next o k)
quiet_then {μ} {Q} {R} {o} k q h =
    let r = h o.counters (after o.log μ) q.leaves in
    subst (Quiet μ R) (sym (next_done o k q.is_done))
    (record {
      is_done = r.is_done;
      in_place = in_place_append o.log (k o.counters).log μ q.in_place r.in_place;
      leaves = subst (R (k o.counters).counters) (sym (after_append o.log (k o.counters).log μ)) r.leaves;
    })

pub goes_quiet : {A : Type 0} {μ : Memory} {Q : List ℕ → Memory → Type 0} {R : A → List ℕ → Memory → Type 0} {t : Try A} {o : Out} (k : List ℕ → Out)
    → Quiet μ Q o → ((c : List ℕ) (ν : Memory) → Q c ν → Goes ν R t (k c)) → Goes μ R t (next o k)
goes_quiet {μ = μ} {R = R} {t} {o} k q h =
    subst (Goes μ R t) (sym (next_done o k q.is_done)) (goes_behind o.log q.in_place (h o.counters (after o.log μ) q.leaves))

-- rows one after the other: the model counts slots from `base` on, the walk rows from 0 on
pub goes_each : {A : Type 0} (base : ℕ) (f : ℕ → A → Try A) (k : ℕ → List ℕ → Out) (I : ℕ → A → List ℕ → Memory → Type 0)
    (step : (r : ℕ) (x : A) (c : List ℕ) (ν : Memory) → I r x c ν → Goes ν (I (suc r)) (f (base + r) x) (k r c))
    (n r : ℕ) (x : A) (c : List ℕ) (μ : Memory) → I r x c μ → Goes μ (I (r + n)) (steps_t f (base + r) n x) (each k n r c)
unfolding each
goes_each base f k I step zero r x c μ i = goes_done x c (rw add-zero i)
goes_each base f k I step (suc n) r x c μ i =
    goes_then (steps_t f (suc (base + r)) n) (λ c2. each k n (suc r) c2) (step r x c μ i)
    (λ y c2 ν j. let g = goes_each base f k I step n (suc r) y c2 ν j in rw (add-suc r n, ← suc-add r n, ← add-suc base r) g)
