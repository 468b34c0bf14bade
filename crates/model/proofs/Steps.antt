-- A lawful copy of one row gives a lawful copy of n rows. Assumes nothing.
use mathlib.Core.Path.{◌≡◌, refl, ap, ◌∙◌}
use mathlib.Core.Bool.{Bool}
use Prim.Native.Nat.{ℕ, zero, suc, ◌+◌, ◌<◌}
use native.Mathlib.Nat.{add-zero}
use native.Mathlib.Numerals.{add-one}
use native.Mathlib.Omega.{arith}
use Rattle.columnar.specs.Row.{Row}
use Rattle.model.specs.Try.{Try, steps_t}
use Rattle.model.specs.Grounds.{Counts}
use Rattle.model.proofs.Agree.{Agrees, both_as, agrees_map, agrees_then}
use Rattle.model.proofs.Law.{Put}
use Rattle.model.proofs.Bits.{shift}

-- d' is d, of l rows, with n rows more, which hold what is wanted; here validity plays no part
pub record Added {D : Type 0} (see : D → ℕ → Row) (fine : D → ℕ → Type 0) (keep : D → Type 0) (d : D) (l n : ℕ) (want : ℕ → Row) (d' : D) : Type 0 where
  pub ends : fine d' (l + n)
  pub old : (i : ℕ) → i < l → see d' i ≡ see d i
  pub new : (i : ℕ) → i < n → see d' (l + i) ≡ want i
  pub keeps : keep d → keep d'

-- true of the one below 1
pub below_one : (Q : ℕ → Type 0) → Q 0 → (i : ℕ) → i < 1 → Q i
below_one Q q zero h = q
below_one Q q (suc i) h = absurd (omega arith)

module _ {D : Type 0} (see : D → ℕ → Row) (fine : D → ℕ → Type 0) (keep : D → Type 0) where
  pub added_as : {d d' : D} {l n : ℕ} {want want' : ℕ → Row} → ((i : ℕ) → i < n → want i ≡ want' i) → Added see fine keep d l n want d' → Added see fine keep d l n want' d'
  added_as e a = record { ends = a.ends; old = a.old; new = λ i q. a.new i q ∙ e i q; keeps = a.keeps }

  -- whatever the rows' validity is
  pub added_put : (b vs : ℕ → Bool) {d d' : D} {l n : ℕ} {want : ℕ → Row} → Added see fine keep d l n want d' → Put see (λ b. fine) keep b d l n vs want d'
  added_put b vs a = record { ends = λ b' e f. a.ends; old = a.old; new = λ i q t. a.new i q; keeps = a.keeps }

  added_none : (d : D) (l : ℕ) (want : ℕ → Row) → fine d l → Added see fine keep d l 0 want d
  added_none d l want h = record { ends = rw add-zero h; old = λ i q. refl; new = λ i q. absurd (omega arith); keeps = λ x. x }

  added_more : {d e f : D} {l n : ℕ} (want : ℕ → Row) (a : ℕ) → Added see fine keep d l 1 (λ i. want (a + i)) e
      → Added see fine keep e (suc l) n (λ i. want (suc a + i)) f → Added see fine keep d l (suc n) (λ i. want (a + i)) f
  added_more {d} {e} {f} {l} {n} want a p q =
      record {
        ends = rw shift at q.ends;
        old = λ i h. q.old i (omega arith) ∙ p.old i h;
        new = go;
        keeps = λ x. q.keeps (p.keeps x);
      }
    where
      go : (i : ℕ) → i < suc n → see f (l + i) ≡ want (a + i)
      go zero h = rw (add-zero l) (q.old l (omega arith)) ∙ rw (add-zero l) at (p.new 0 (omega arith))
      go (suc i) h = rw (← shift l i, ← shift a i) (q.new i (omega arith))

  module _ (held : D → ℕ → Counts) (f : ℕ → D → Try D) (g : ℕ → Counts → Try Counts) (from : ℕ → Type 0) (want : ℕ → Row) where
    -- what one step owes
    abbrev pub Step : Type 0
    Step = (a l : ℕ) (d : D) → from a → fine d l → Agrees (λ e. held e (l + 1)) (Added see fine keep d l 1 (λ i. want (a + i))) (f a d) (g a (held d l))

    steps_added : Step → (a n l : ℕ) (d : D) → ((i : ℕ) → i < n → from (a + i)) → fine d l
        → Agrees (λ e. held e (l + n)) (Added see fine keep d l n (λ i. want (a + i))) (steps_t f a n d) (steps_t g a n (held d l))
    steps_added one a zero l d h q = both_as d (ap (held d) (add-zero l)) (added_none d l (λ i. want (a + i)) q)
    steps_added one a (suc n) l d h q =
        agrees_then (steps_t f (suc a) n) (steps_t g (suc a) n) (one a l d (rw add-zero at (h 0 (omega arith))) q)
        (λ e p.
        rw (add-one l, ← shift l n)
        (agrees_map (λ x. added_more want a p)
        (steps_added one (suc a) n (suc l) e (λ i r. rw (shift a i) (h (suc i) (omega arith))) (rw add-one at p.ends))))

    pub steps_put : Step → (a n l : ℕ) (b vs : ℕ → Bool) (d : D) → ((i : ℕ) → i < n → from (a + i)) → fine d l
        → Agrees (λ e. held e (l + n)) (Put see (λ b. fine) keep b d l n vs (λ i. want (a + i))) (steps_t f a n d) (steps_t g a n (held d l))
    steps_put one a n l b vs d h q = agrees_map (λ x. added_put b vs) (steps_added one a n l d h q)
