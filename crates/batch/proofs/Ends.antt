-- Walks that answer 0: what they leave, step by step. Assumes nothing.
use mathlib.Core.Path.{◌≡◌, refl, sym, ap, ◌∙◌}
use mathlib.Core.Bool.{Bool, true, false, cond}
use mathlib.Core.List.{List, ◌++◌}
use Prim.Native.Nat.{ℕ, ◌<◌}
use lib.Dec.{ltb, eqb}
use borrow.Author.Tests.{eq-eqb, eqb-true, ltb-true, lt-ltb}
use Rattle.walk.specs.Log.{Entry, Out, fail, done, wrote, need, found, next}

-- o answers 0 and leaves the counters c
pub record Leaves (o : Out) (c : List ℕ) : Type 0 where
  pub ok : o.ans ≡ 0
  pub left : o.counters ≡ c

pub leaves_own : {o : Out} → o.ans ≡ 0 → Leaves o o.counters
leaves_own h = record { ok = h; left = refl }

pub leaves_done : (c : List ℕ) → Leaves (done c) c
unfolding done
leaves_done c = record { ok = refl; left = refl }

pub leaves_wrote : (e : Entry) (c : List ℕ) → Leaves (wrote e c) c
unfolding wrote
leaves_wrote e c = record { ok = refl; left = refl }

pub leaves_need : {b : Bool} {o : Out} (g : ℕ) (c : List ℕ) {d : List ℕ} → b ≡ true → Leaves o d → Leaves (need b g c o) d
unfolding need
leaves_need g c h l = rw h l

pub leaves_found : (m v g : ℕ) (c : List ℕ) (k : ℕ → Out) {d : List ℕ} → v < m → Leaves (k v) d → Leaves (found m v g c k) d
unfolding found
leaves_found m v g c k h l = rw (lt-ltb v m h) l

pub leaves_next : {o : Out} (k : List ℕ → Out) {c d : List ℕ} → Leaves o c → Leaves (k c) d → Leaves (next o k) d
unfolding next
leaves_next {o} k p q =
    rw (eq-eqb o.ans 0 p.ok)
    (record { ok = ap (λ l. (k l).ans) p.left ∙ q.ok; left = ap (λ l. (k l).counters) p.left ∙ q.left })

-- ---- the other way

pub need_was : (b : Bool) (g : ℕ) (c : List ℕ) (o : Out) → (g ≡ 0 → ⊥) → (need b g c o).ans ≡ 0 → b ≡ true
unfolding need fail
need_was true g c o z h = refl
need_was false g c o z h = absurd (z h)

pub need_is : {b : Bool} (g : ℕ) (c : List ℕ) (o : Out) → b ≡ true → need b g c o ≡ o
unfolding need
need_is g c o h = rw h

pub found_was : (m v g : ℕ) (c : List ℕ) (k : ℕ → Out) → (g ≡ 0 → ⊥) → (found m v g c k).ans ≡ 0 → v < m
unfolding found fail
found_was m v g c k z = go (ltb v m) refl
  where
    go : (t : Bool) → ltb v m ≡ t → (cond t (k v) (fail g c)).ans ≡ 0 → v < m
    go true e h = ltb-true v m e
    go false e h = absurd (z h)

pub found_is : (m v g : ℕ) (c : List ℕ) (k : ℕ → Out) → v < m → found m v g c k ≡ k v
unfolding found
found_is m v g c k h = rw (lt-ltb v m h)

pub next_first : (o : Out) (k : List ℕ → Out) → (next o k).ans ≡ 0 → o.ans ≡ 0
unfolding next
next_first o k = go (eqb o.ans 0) refl
  where
    go : (t : Bool) → eqb o.ans 0 ≡ t → (cond t (record { ans = (k o.counters).ans; counters = (k o.counters).counters; log = o.log ++ (k o.counters).log }) o).ans ≡ 0 → o.ans ≡ 0
    go true e h = eqb-true o.ans 0 e
    go false e h = h

-- both, one after the other
pub next_is : {o : Out} (k : List ℕ → Out) {c : List ℕ} → Leaves o c
    → next o k ≡ record { ans = (k c).ans; counters = (k c).counters; log = o.log ++ (k c).log }
unfolding next
next_is {o} k p = rw (eq-eqb o.ans 0 p.ok, ← p.left)

pub next_last : {o : Out} (k : List ℕ → Out) {c : List ℕ} → Leaves o c → (next o k).ans ≡ 0 → Leaves (k c) (next o k).counters
next_last {o} k {c} p h = record { ok = sym (ap (λ q. q.ans) (next_is k p)) ∙ h; left = sym (ap (λ q. q.counters) (next_is k p)) }

pub next_start_lem : (o : Out) (k : List ℕ → Out) {d : List ℕ} → Leaves (next o k) d → Leaves o o.counters
next_start_lem o k h = leaves_own (next_first o k h.ok)

pub next_rest : (o : Out) (k : List ℕ → Out) {d : List ℕ} → Leaves (next o k) d → Leaves (k o.counters) d
next_rest o k h =
    let l = next_last k (next_start_lem o k h) h.ok in
    record { ok = l.ok; left = l.left ∙ h.left }

pub need_rest : (b : Bool) (g : ℕ) (c : List ℕ) (o : Out) {d : List ℕ} → (g ≡ 0 → ⊥) → Leaves (need b g c o) d → Leaves o d
need_rest b g c o z h = rw (need_is g c o (need_was b g c o z h.ok)) at h

pub wrote_rest : (e : Entry) (c : List ℕ) (k : List ℕ → Out) {d : List ℕ} → Leaves (next (wrote e c) k) d → Leaves (k c) d
unfolding wrote
wrote_rest e c k h = next_rest (wrote e c) k h
