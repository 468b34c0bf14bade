-- Walks one after another, as equations. Assumes nothing.
use mathlib.Core.Path.{◌≡◌, refl, sym, ap, ap₂}
use mathlib.Core.Bool.{Bool, true, false, cond}
use mathlib.Core.List.{List, [], ◌++◌, append-nil, append_assoc}
use Prim.Native.Nat.{ℕ, ◌<◌}
use native.Mathlib.Omega.{arith}
use lib.Dec.{eqb}
use borrow.Author.Tests.{eqb-true, ne_eqb}
use Rattle.walk.specs.Log.{Out, fail, done, need, next}

-- a walk's continuation counts only where it is asked
pub next_same : (o : Out) (k k' : List ℕ → Out) → ((c : List ℕ) → k c ≡ k' c) → next o k ≡ next o k'
unfolding next
next_same o k k' h = ap (λ z. cond (eqb o.ans 0) (record { ans = z.ans; counters = z.counters; log = o.log ++ z.log }) o) (h o.counters)

-- one walk's log before another
abbrev behind : Out → Out → Out
behind o z = record { ans = z.ans; counters = z.counters; log = o.log ++ z.log }

pub next_assoc : (o : Out) (k l : List ℕ → Out) → next (next o k) l ≡ next o (λ c. next (k c) l)
unfolding next
next_assoc o k l = go (eqb o.ans 0) refl (k o.counters)
  where
    inner : (b : Bool) (z : Out) → cond b (behind (behind o z) (l z.counters)) (behind o z) ≡ behind o (cond b (behind z (l z.counters)) z)
    inner false z = refl
    inner true z = ap (λ w. record { ans = (l z.counters).ans; counters = (l z.counters).counters; log = w }) (append_assoc o.log z.log (l z.counters).log)

    go : (b : Bool) → eqb o.ans 0 ≡ b → (z : Out)
        → cond (eqb (cond b (behind o z) o).ans 0) (behind (cond b (behind o z) o) (l (cond b (behind o z) o).counters)) (cond b (behind o z) o)
        ≡ cond b (behind o (cond (eqb z.ans 0) (behind z (l z.counters)) z)) o
    go false e z = rw e refl
    go true e z = inner (eqb z.ans 0) z

-- nothing behind it
pub next_end : (o : Out) → next o (λ c. done c) ≡ o
unfolding next done
next_end o = go (eqb o.ans 0) refl
  where
    go : (b : Bool) → eqb o.ans 0 ≡ b → cond b (record { ans = 0; counters = o.counters; log = o.log ++ [] }) o ≡ o
    go false e = refl
    go true e = ap₂ (λ a l. record { ans = a; counters = o.counters; log = l }) (sym (eqb-true o.ans 0 e)) (append-nil o.log)

-- nothing before it
pub next_start_lem : (c : List ℕ) (k : List ℕ → Out) → next (done c) k ≡ k c
unfolding next done
next_start_lem c k = refl

-- a test before it
pub next_need : (b : Bool) (g : ℕ) (c : List ℕ) (o : Out) (k : List ℕ → Out) → 0 < g → next (need b g c o) k ≡ need b g c (next o k)
unfolding next need fail
next_need true g c o k p = refl
next_need false g c o k p = rw (ne_eqb g 0 (λ z. omega arith)) refl

pub need_same : (b : Bool) (g : ℕ) (c : List ℕ) (o o' : Out) → o ≡ o' → need b g c o ≡ need b g c o'
need_same b g c o o' e = ap (need b g c) e
