-- How an explanation goes along the steps of a walk: one law a step. Assumes nothing.
use mathlib.Core.Path.{◌≡◌, refl, sym, ◌∙◌}
use mathlib.Core.Bool.{Bool, true, false, cond}
use mathlib.Core.List.{List, ◌++◌}
use Prim.Native.Nat.{ℕ, zero, suc}
use lib.Dec.{ltb, eqb}
use borrow.Author.Tests.{eqb-true, eqb-false, eq-eqb}
use Rattle.walk.specs.Log.{Entry, Out, fail, done, wrote, need, found, next, each}
use Rattle.explain.specs.declared.stops.Why.{Why}
use Rattle.explain.specs.stops.Why.{only, nothing, unless, past, first_of}
use Rattle.explain.specs.stops.Table.{Blank, accepted, not_lent, Stated, blank}

-- the explanation has the walk's ground, and is a row of the table
pub record Says (w : Why) (o : Out) : Type 0 where
  pub refusal : w.refusal ≡ o.ans
  pub table : Stated w

pub says_done : (c : List ℕ) → Says nothing (done c)
unfolding done
says_done c = record { refusal = refl; table = blank 0 accepted }

pub says_fail : (c : List ℕ) → Says (only 12) (fail 12 c)
unfolding fail
says_fail c = record { refusal = refl; table = blank 12 not_lent }

-- a walk that names no node
pub says_only : (o : Out) → Blank o.ans → Says (only o.ans) o
says_only o b = record { refusal = refl; table = blank o.ans b }

pub says_cond : (b : Bool) {v w : Why} {o q : Out} → (b ≡ true → Says v o) → (b ≡ false → Says w q) → Says (cond b v w) (cond b o q)
says_cond true f g = f refl
says_cond false f g = g refl

-- a test, whose ground is w's
pub says_need : (b : Bool) (g : ℕ) (c : List ℕ) (w : Why) {rest : Why} {o : Out} → w.refusal ≡ g → (b ≡ false → Stated w) → (b ≡ true → Says rest o) → Says (unless b w rest) (need b g c o)
unfolding unless need fail
says_need true g c w e t f = f refl
says_need false g c w e t f = record { refusal = e; table = t refl }

pub says_needed : (b : Bool) (c : List ℕ) {rest : Why} {o : Out} → (b ≡ true → Says rest o) → Says (unless b (only 12) rest) (need b 12 c o)
says_needed b c f = says_need b 12 c (only 12) refl (λ e. blank 12 not_lent) f

pub says_found : (m v g : ℕ) (c : List ℕ) (k : ℕ → Out) (w : Why) {rest : Why} → w.refusal ≡ g → (ltb v m ≡ false → Stated w) → (ltb v m ≡ true → Says rest (k v)) → Says (unless (ltb v m) w rest) (found m v g c k)
unfolding found unless fail
says_found m v g c k w {rest} e t f = go (ltb v m) t f
  where
    go : (b : Bool) → (b ≡ false → Stated w) → (b ≡ true → Says rest (k v)) → Says (unless b w rest) (cond b (k v) (fail g c))
    go true t f = f refl
    go false t f = record { refusal = e; table = t refl }

-- a walk that comes first
pub says_past : (o : Out) (w : Why) (rest : List ℕ → Why) (k : List ℕ → Out) → ((o.ans ≡ 0 → ⊥) → Says w o) → ((c2 : List ℕ) → Says (rest c2) (k c2)) → Says (past o w rest) (next o k)
unfolding past next
says_past o w rest k f g = go (eqb o.ans 0) refl
  where
    go : (b : Bool) → eqb o.ans 0 ≡ b → Says (cond b (rest o.counters) w) (cond b (record { ans = (k o.counters).ans; counters = (k o.counters).counters; log = o.log ++ (k o.counters).log }) o)
    go true e = record { refusal = (g o.counters).refusal; table = (g o.counters).table }
    go false e = f (eqb-false _ _ e)

-- a write that comes first
pub says_wrote : (e : Entry) (c : List ℕ) {w : Why} (k : List ℕ → Out) → Says w (k c) → Says w (next (wrote e c) k)
unfolding wrote next
says_wrote e c k s = record { refusal = s.refusal; table = s.table }

-- a walk that nothing stops
pub record Passes (o : Out) : Type 0 where
  pub no_ground : o.ans ≡ 0

pub passes_done : (c : List ℕ) → Passes (done c)
unfolding done
passes_done c = record { no_ground = refl }

pub passes_wrote : (e : Entry) (c : List ℕ) → Passes (wrote e c)
unfolding wrote
passes_wrote e c = record { no_ground = refl }

pub passes_cond : (b : Bool) {o q : Out} → Passes o → Passes q → Passes (cond b o q)
passes_cond true f g = f
passes_cond false f g = g

pub passes_next : (o : Out) (k : List ℕ → Out) → Passes o → ((c : List ℕ) → Passes (k c)) → Passes (next o k)
unfolding next
passes_next o k h f = rw (eq-eqb o.ans 0 h.no_ground) (record { no_ground = (f o.counters).no_ground })

pub says_passes : {o : Out} → Passes o → Says nothing o
says_passes h = record { refusal = sym h.no_ground; table = blank 0 accepted }

-- what follows stops nothing
pub says_then : {w : Why} (o : Out) (k : List ℕ → Out) → ((c : List ℕ) → Passes (k c)) → Says w o → Says w (next o k)
unfolding next
says_then {w} o k h s = go (eqb o.ans 0) refl
  where
    go : (b : Bool) → eqb o.ans 0 ≡ b → Says w (cond b (record { ans = (k o.counters).ans; counters = (k o.counters).counters; log = o.log ++ (k o.counters).log }) o)
    go true e = record { refusal = s.refusal ∙ eqb-true _ _ e ∙ sym (h o.counters).no_ground; table = s.table }
    go false e = s

-- rows one after the other
pub says_each : (f : ℕ → List ℕ → Out) (why : ℕ → List ℕ → Why) → ((r : ℕ) (c : List ℕ) → Says (why r c) (f r c)) → (n r : ℕ) (c : List ℕ) → Says (first_of f why n r c) (each f n r c)
unfolding first_of each
says_each f why h zero r c = says_done c
says_each f why h (suc n) r c = says_past (f r c) (why r c) _ _ (λ z. h r c) (λ c2. says_each f why h n (suc r) c2)
