-- The children of a union, asked in order. Assumes nothing.
use mathlib.Core.Path.{◌≡◌, refl, sym, subst}
use mathlib.Core.List.Memᴰ
use mathlib.Core.List.{List, [], ◌∷◌, Memᴰ}
use Prim.Native.Nat.{ℕ}
use Rattle.model.specs.Try.{Try, done, stop, then}
use Rattle.model.specs.Grounds.{Counts, each}
use Rattle.model.specs.Mutable.{Mutable}
use Rattle.model.specs.Unions.{in_order}
use Rattle.model.proofs.Agree.{Agrees, both, neither}

-- two answers that are both done
pub record Did {A C : Type 0} (see : A → C) (Q : A → Type 0) (t : Try A) (s : Try C) : Type 0 where
  pub value : A
  pub is : t ≡ done value
  pub is_seen : s ≡ done (see value)
  pub holds : Q value

-- the first, and where it is done the second, which knows of it
pub agrees_both : {A B C E : Type 0} {see : A → C} {Q : A → Type 0} {look : B → E} {R : B → Type 0} {t : Try A} {s : Try C} (f : A → Try B) (h : C → Try E)
    → Agrees see Q t s → ((q : Did see Q t s) → Agrees look R (f q.value) (h (see q.value))) → Agrees look R (then t f) (then s h)
agrees_both f h (both x q) k = k (record { value = x; is = refl; is_seen = refl; holds = q })
agrees_both f h (neither g) k = neither g

-- one of them answers, and both go on with that
pub agrees_from : {A B C : Type 0} {look : B → C} {R : B → Type 0} (t : Try A) (f : A → Try B) (h : A → Try C)
    → ((x : A) → t ≡ done x → Agrees look R (f x) (h x)) → Agrees look R (then t f) (then t h)
agrees_from (done x) f h k = k x refl
agrees_from (stop g) f h k = neither g

module _ {D : ℕ → Type 0} (see : (c : ℕ) → Mutable (D c) → Counts) (Q : (c : ℕ) → Mutable (D c) → Type 0) (f : (c : ℕ) → Try (Mutable (D c))) (g : ℕ → Try Counts) where
  abbrev pub DidAll : List ℕ → Type 0
  DidAll cs = (c : ℕ) → Memᴰ c cs → Did (see c) (Q c) (f c) (g c)

  did_cons : {c : ℕ} {cs : List ℕ} → Did (see c) (Q c) (f c) (g c) → DidAll cs → DidAll (c ∷ cs)
  did_cons q r b (Memᴰ.head e) = subst (λ b. Did (see b) (Q b) (f b) (g b)) (sym e) q
  did_cons q r b (Memᴰ.tail m) = r b m

  -- ALL CHILDREN IN ORDER
  pub in_order_lem : {B : Type 0} {look : B → Counts} {R : B → Type 0} (cs : List ℕ) (x : B) (y : Try Counts)
      → ((c : ℕ) → Memᴰ c cs → Agrees (see c) (Q c) (f c) (g c)) → (DidAll cs → Agrees look R (done x) y) → Agrees look R (in_order f cs x) (each g cs y)
  in_order_lem [] x y h k = k (λ c m. absurd (Memᴰ.not-nil m))
  in_order_lem (c ∷ cs) x y h k =
      agrees_both (λ v. in_order f cs x) (λ v. each g cs y) (h c (Memᴰ.head refl))
      (λ q. in_order_lem cs x y (λ b m. h b (Memᴰ.tail m)) (λ r. k (did_cons q r)))
