-- An answer that follows another: where the one is done, it is done with the same; where the one is refused, it may be anything.
-- Assumes nothing.
use mathlib.Core.Path.{◌≡◌, refl, ap, subst, fun_ext}
use mathlib.Core.Bool.{Bool, true, false, cond}
use mathlib.Core.List.{List, [], ◌∷◌, Memᴰ}
use Prim.Native.Nat.{ℕ, zero, suc, ◌+◌, ◌≤◌, ◌<◌}
use native.Mathlib.Nat.{add-zero}
use native.Mathlib.Omega.{arith}
use lib.Dec.{ltb, eqb}
use borrow.Author.Tests.{ltb-true, eqb-true, lt-ltb}
use Rattle.model.specs.Try.{Try, done, stop, then, guard, after, steps_t}
use Rattle.model.specs.Grounds.{Counts, counts, absent, each, has, among, sparse_all}

pub data Follows {A : Type 0} : Try A → Try A → Type 0 where
  same : (x : A) → Follows (done x) (done x)
  free : (g : ℕ) (s : Try A) → Follows (stop g) s

abbrev Stops : {A : Type 0} → Try A → Type 0
Stops (done x) = ⊥
Stops (stop g) = Unit {0}

-- what it is for
pub follows_done : {A : Type 0} {t s : Try A} (x : A) → Follows t s → t ≡ done x → s ≡ done x
follows_done x (same y) e = e
follows_done x (free g s) e = absurd (subst Stops e tt)

pub follows_refl : {A : Type 0} (t : Try A) → Follows t t
follows_refl (done x) = same x
follows_refl (stop g) = free g (stop g)

pub follows_then : {A B : Type 0} {t s : Try A} (f h : A → Try B) → Follows t s → ((x : A) → Follows (f x) (h x)) → Follows (then t f) (then s h)
follows_then f h (same x) k = k x
follows_then f h (free g s) k = free g (then s h)

-- a test that holds again where it holds
pub follows_when : {A : Type 0} {t s : Try A} (b b' : Bool) (g g' : ℕ) → (b ≡ true → b' ≡ true) → (b ≡ true → Follows t s) → Follows (guard b g t) (guard b' g' s)
follows_when {t} {s} true b' g g' e k = rw (e refl) (k refl)
follows_when {t} {s} false b' g g' e k = free g (guard b' g' s)

pub follows_guard : {A : Type 0} {t s : Try A} (b b' : Bool) (g g' : ℕ) → (b ≡ true → b' ≡ true) → Follows t s → Follows (guard b g t) (guard b' g' s)
follows_guard b b' g g' e k = follows_when b b' g g' e (λ z. k)

-- a guarded answer that is done
pub guard_done : {A : Type 0} (b : Bool) (g : ℕ) (t : Try A) (x : A) → guard b g t ≡ done x → (b ≡ true) × (t ≡ done x)
guard_done true g t x e = (refl, e)
guard_done false g t x e = absurd (subst Stops e tt)

-- a limit that is not lower
pub ltb_up : (x l l' : ℕ) → l ≤ l' → ltb x l ≡ true → ltb x l' ≡ true
ltb_up x l l' h e = lt-ltb x l' (omega (arith, ltb-true x l e))

pub follows_steps : {A : Type 0} (f h : ℕ → A → Try A) (a n : ℕ) → ((i : ℕ) → i < n → (x : A) → Follows (f (a + i) x) (h (a + i) x)) → (x : A)
    → Follows (steps_t f a n x) (steps_t h a n x)
follows_steps f h a zero k x = same x
follows_steps f h a (suc n) k x =
    follows_then (steps_t f (suc a) n) (steps_t h (suc a) n) (rw add-zero at (k 0 (omega arith) x))
    (follows_steps f h (suc a) n (λ i q. let e : suc a + i ≡ a + suc i = omega arith in rw e (k (suc i) (omega arith))))

-- ---- the children of a union

has_mem : (ids : List ℕ) (e : ℕ) → has ids e ≡ true → Memᴰ e ids
has_mem [] e h = absurd (let z : false ≡ true = h in let y : ◌≡◌ {A = ℕ} 0 1 = cc in omega arith)
has_mem (c ∷ cs) e h = go (eqb e c) refl (has_mem cs e)
  where
    go : (b : Bool) → eqb e c ≡ b → (has cs e ≡ true → Memᴰ e cs) → Memᴰ e (c ∷ cs)
    go true z f = Memᴰ.head (eqb-true e c z)
    go false z f = Memᴰ.tail (f (rw z at h))

pub among_same : (ids : List ℕ) (f g : ℕ → Counts) → ((c : ℕ) → Memᴰ c ids → f c ≡ g c) → among ids f ≡ among ids g
among_same ids f g h = fun_ext (λ e. go e (has ids e) (λ z. h e (has_mem ids e z)))
  where
    go : (e : ℕ) (b : Bool) → (b ≡ true → f e ≡ g e) → cond b (f e) absent ≡ cond b (g e) absent
    go e true k = k refl
    go e false k = refl

-- where all are done, their answers are the same
follows_each : (f h : ℕ → Try Counts) (ids : List ℕ) (t s : Try Counts) → ((c : ℕ) → Memᴰ c ids → Follows (f c) (h c))
    → (((c : ℕ) → Memᴰ c ids → f c ≡ h c) → Follows t s) → Follows (each f ids t) (each h ids s)
follows_each f h [] t s k e = e (λ c m. elim m [ ])
follows_each f h (c ∷ cs) t s k e =
    go (k c (Memᴰ.head refl)) refl refl (λ z. follows_each f h cs t s (λ x m. k x (Memᴰ.tail m)) (λ y. e (both z y)))
  where
    both : f c ≡ h c → ((x : ℕ) → Memᴰ x cs → f x ≡ h x) → (x : ℕ) → Memᴰ x (c ∷ cs) → f x ≡ h x
    both z y x (Memᴰ.head w) = rw w z
    both z y x (Memᴰ.tail m) = y x m

    go : {p q : Try Counts} → Follows p q → f c ≡ p → h c ≡ q → (f c ≡ h c → Follows (each f cs t) (each h cs s))
        → Follows (then p (λ x. each f cs t)) (then q (λ x. each h cs s))
    go (same x) u v r = r cc
    go (free g q) u v r = free g (then q (λ x. each h cs s))

pub follows_all : (ids : List ℕ) (f h : ℕ → Try Counts) (l : ℕ) → ((c : ℕ) → Memᴰ c ids → Follows (f c) (h c)) → Follows (sparse_all ids f l) (sparse_all ids h l)
follows_all ids f h l k =
    follows_each f h ids _ _ k
    (λ e.
    subst (λ z. Follows (done (counts l 0 (among ids (λ c. after (f c) absent)))) (done (counts l 0 z)))
    (among_same ids (λ c. after (f c) absent) (λ c. after (h c) absent) (λ c m. ap (λ t. after t absent) (e c m)))
    (same (counts l 0 (among ids (λ c. after (f c) absent)))))
