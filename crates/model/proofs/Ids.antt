-- The ids of a union: membership computed, the counts of declared children, the first nullable field. Assumes nothing.
use mathlib.Core.Path.{◌≡◌, refl, sym, subst, fun_ext}
use mathlib.Core.Bool.{Bool, true, false, cond}
use mathlib.Core.List.{List, [], ◌∷◌, Memᴰ}
use Prim.Native.Nat.{ℕ}
use lib.Dec.{T, eqb, eqb_refl}
use borrow.Author.Tests.{eqb-true}
use Rattle.model.specs.Try.{Try, done, stop}
use Rattle.model.specs.Ordered.{first_nullable, home}
use Rattle.model.specs.Grounds.{Counts, absent, has, among}

-- ---- tests on ids

pub cond_same : {A : Type 0} (n : ℕ) (x y : A) → cond (eqb n n) x y ≡ x
cond_same n x y = go (eqb n n) (eqb_refl n)
  where
    go : (b : Bool) → T b → cond b x y ≡ x
    go true t = refl
    go false t = absurd t

pub cond_case : {A : Type 0} (Q : A → Type 0) (m n : ℕ) (x y : A) → (m ≡ n → Q x) → Q y → Q (cond (eqb m n) x y)
cond_case Q m n x y f g = go (eqb m n) refl
  where
    go : (b : Bool) → eqb m n ≡ b → Q (cond b x y)
    go true e = f (eqb-true m n e)
    go false e = g

-- ---- membership

pub mem_has : {c : ℕ} {ids : List ℕ} → Memᴰ c ids → T (has ids c)
mem_has {c} (Memᴰ.head {x} {xs} e) = rw (sym e, cond_same c true (has xs c)) tt
mem_has {c} (Memᴰ.tail {x} {xs} m) = cond_case T c x true (has xs c) (λ e. tt) (mem_has m)

pub has_mem : (ids : List ℕ) (c : ℕ) → T (has ids c) → Memᴰ c ids
has_mem [] c t = absurd t
has_mem (x ∷ ids) c t = go (eqb c x) refl t (has_mem ids c)
  where
    go : (b : Bool) → eqb c x ≡ b → T (cond b true (has ids c)) → (T (has ids c) → Memᴰ c ids) → Memᴰ c (x ∷ ids)
    go true e t f = Memᴰ.head (eqb-true c x e)
    go false e t f = Memᴰ.tail (f t)

-- ---- counts

pub among_in : {ids : List ℕ} (f : ℕ → Counts) {e : ℕ} → Memᴰ e ids → among ids f e ≡ f e
among_in {ids} f {e} m = go (has ids e) (mem_has m)
  where
    go : (b : Bool) → T b → cond b (f e) absent ≡ f e
    go true t = refl
    go false t = absurd t

pub among_same : (ids : List ℕ) (f g : ℕ → Counts) → ((e : ℕ) → Memᴰ e ids → f e ≡ g e) → among ids f ≡ among ids g
among_same ids f g h = fun_ext (λ e. go e (has ids e) (has_mem ids e))
  where
    go : (e : ℕ) (b : Bool) → (T b → Memᴰ e ids) → cond b (f e) absent ≡ cond b (g e) absent
    go e true m = h e (m tt)
    go e false m = refl

-- ---- the first nullable field is declared

-- where an answer is done, Q of it
abbrev Holds : {A : Type 0} → (A → Type 0) → Try A → Type 0
Holds Q (done x) = Q x
Holds Q (stop g) = Unit {0}

holds_map : {A : Type 0} {Q R : A → Type 0} → ((x : A) → Q x → R x) → (t : Try A) → Holds Q t → Holds R t
holds_map f (done x) q = f x q
holds_map f (stop g) q = tt

first_mem : (nullable : ℕ → Bool) (ids : List ℕ) → Holds (λ h. Memᴰ h ids) (first_nullable nullable ids)
first_mem nullable [] = tt
first_mem nullable (c ∷ ids) = go (nullable c) (first_mem nullable ids)
  where
    go : (b : Bool) → Holds (λ h. Memᴰ h ids) (first_nullable nullable ids) → Holds (λ h. Memᴰ h (c ∷ ids)) (elim b [ true ↦ done c | false ↦ first_nullable nullable ids ])
    go true f = Memᴰ.head refl
    go false f = holds_map {Q = λ h. Memᴰ h ids} {R = λ h. Memᴰ h (c ∷ ids)} (λ x m. Memᴰ.tail m) (first_nullable nullable ids) f

home_holds : (nullable : ℕ → Bool) (ids : List ℕ) → Holds (λ h. Memᴰ h ids) (home nullable ids)
home_holds nullable [] = tt
home_holds nullable (c ∷ ids) = first_mem nullable (c ∷ ids)

pub home_mem : (nullable : ℕ → Bool) (ids : List ℕ) (h : ℕ) → home nullable ids ≡ done h → Memᴰ h ids
home_mem nullable ids h e = subst (Holds (λ h. Memᴰ h ids)) e (home_holds nullable ids)
