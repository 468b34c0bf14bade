-- Answers that are done, taken apart and put together. Assumes nothing.
use mathlib.Core.Path.{◌≡◌, refl, ap, ◌∙◌}
use mathlib.Core.Bool.{Bool, true}
use mathlib.Core.List.Memᴰ
use mathlib.Core.List.{List, [], ◌∷◌, Memᴰ}
use Prim.Native.Nat.{ℕ, zero, suc, ◌+◌}
use native.Mathlib.Nat.{add-zero, zero-add}
use native.Mathlib.Omega.{arith}
use Rattle.model.specs.Try.{Try, done, stop, then, guard, steps_t}
use Rattle.model.specs.Grounds.{Counts, each}

pub done_is : {A : Type 0} {x y : A} → done x ≡ done y → x ≡ y
done_is e = cc

-- ---- `then`

pub record Then {A B : Type 0} (t : Try A) (f : A → Try B) (z : B) : Type 0 where
  pub first : A
  pub first_done : t ≡ done first
  pub rest_done : f first ≡ done z

pub then_done : {A B : Type 0} (t : Try A) (f : A → Try B) (z : B) → then t f ≡ done z → Then t f z
then_done (done x) f z e = record { first = x; first_done = refl; rest_done = e }
then_done (stop g) f z e = absurd (let y : ◌≡◌ {A = ℕ} 0 1 = cc e in omega arith)

pub then_is : {A B : Type 0} (t : Try A) (f : A → Try B) (x : A) → t ≡ done x → then t f ≡ f x
then_is t f x e = ap (λ s. then s f) e

-- a test that holds
pub guard_is : {A : Type 0} (b : Bool) (g : ℕ) (t : Try A) → b ≡ true → guard b g t ≡ t
guard_is b g t e = ap (λ x. guard x g t) e

-- ---- steps

-- n + m steps are n steps and then m
pub steps_cut : {A : Type 0} (f : ℕ → A → Try A) (a n m : ℕ) (x : A) → steps_t f a (n + m) x ≡ then (steps_t f a n x) (steps_t f (a + n) m)
steps_cut f a zero m x = rw (zero-add, add-zero)
steps_cut {A} f a (suc n) m x =
    let e : suc n + m ≡ suc (n + m) = omega arith in
    let g : a + suc n ≡ suc a + n = omega arith in
    rw (e, g) (go (f a x) (steps_cut f (suc a) n m))
  where
    go : (t : Try A) → ((y : A) → steps_t f (suc a) (n + m) y ≡ then (steps_t f (suc a) n y) (steps_t f (suc a + n) m))
        → then t (steps_t f (suc a) (n + m)) ≡ then (then t (steps_t f (suc a) n)) (steps_t f (suc a + n) m)
    go (done y) k = k y
    go (stop g) k = refl

-- ---- each child of a union

pub record IsDone {A : Type 0} (t : Try A) : Type 0 where
  pub value : A
  pub is : t ≡ done value

pub record Each (f : ℕ → Try Counts) (ids : List ℕ) (t : Try Counts) (d : Counts) : Type 0 where
  pub last_done : t ≡ done d
  pub all_done : (e : ℕ) → Memᴰ e ids → IsDone (f e)

pub each_done : (f : ℕ → Try Counts) (ids : List ℕ) (t : Try Counts) (d : Counts) → each f ids t ≡ done d → Each f ids t d
each_done f [] t d h = record { last_done = h; all_done = λ e m. absurd (Memᴰ.not-nil m) }
each_done f (c ∷ cs) t d h =
    let p = then_done (f c) (λ x. each f cs t) d h in
    let r = each_done f cs t d p.rest_done in
    record { last_done = r.last_done; all_done = go p.first p.first_done r.all_done }
  where
    go : (x : Counts) → f c ≡ done x → ((e : ℕ) → Memᴰ e cs → IsDone (f e)) → (e : ℕ) → Memᴰ e (c ∷ cs) → IsDone (f e)
    go x p k e (Memᴰ.head z) = record { value = x; is = ap f z ∙ p }
    go x p k e (Memᴰ.tail m) = k e m

pub each_is : (f : ℕ → Try Counts) (ids : List ℕ) (t : Try Counts) → ((e : ℕ) → Memᴰ e ids → IsDone (f e)) → each f ids t ≡ t
each_is f [] t k = refl
each_is f (c ∷ cs) t k =
    let p = k c (Memᴰ.head refl) in
    then_is (f c) (λ x. each f cs t) p.value p.is ∙ each_is f cs t (λ e m. k e (Memᴰ.tail m))
