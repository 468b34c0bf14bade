-- Where rows stand beside a stretch, and the stretch with them. Assumes nothing.
use mathlib.Core.Path.{◌≡◌, refl, ap}
use mathlib.Core.Bool.{Bool, true, false, cond, ◌&&◌}
use mathlib.Core.List.{List}
use Prim.Native.Nat.{ℕ, suc, ◌+◌, ◌-◌, ◌≤◌, ◌<◌}
use native.Mathlib.Nat.{add-zero}
use native.Mathlib.Omega.{arith}
use lib.Dec.{leb, eqb}
use borrow.Author.Tests.{eq-eqb, ne_eqb, le-leb, lt-leb, eqb-true, eqb-false}
use Rattle.walk.specs.Log.{Out, next}
use Rattle.batch.specs.Stretch.{stretch}
use Rattle.batch.specs.batch_walk.Side.{side_of, next_start, next_size}

and_no : (b : Bool) → (b && false) ≡ false
and_no true = refl
and_no false = refl

module _ (a m s z : ℕ) where
  pub side_before_none : s < a → z ≡ 0 → 0 ≡ side_of a m s z
  unfolding side_of
  side_before_none h e = rw (ne_eqb s (a + m) (λ q. omega arith), eq-eqb z 0 e, le-leb s (a + m) (omega arith)) refl

  pub side_before : s < a → (z ≡ 0 → ⊥) → 3 ≡ side_of a m s z
  unfolding side_of
  side_before h e = rw (ne_eqb s (a + m) (λ q. omega arith), ne_eqb z 0 e, lt-leb a s h, and_no (eqb m 0)) refl

  pub side_follows : a ≤ s → s - a ≡ m → 1 ≡ side_of a m s z
  unfolding side_of
  side_follows h e = rw (eq-eqb s (a + m) (omega arith)) refl

  pub side_first : a ≤ s → (s - a ≡ m → ⊥) → m ≡ 0 → 2 ≡ side_of a m s z
  unfolding side_of
  side_first h d e =
      let g : s ≡ a + m → ⊥ = λ q. d (omega arith) in
      let l : a + m < s = beyond (eqb s (a + m)) refl g in
      rw (ne_eqb s (a + m) g, lt-leb s (a + m) l, and_no (eqb z 0), eq-eqb m 0 e, le-leb a s h) refl
    where
      beyond : (t : Bool) → eqb s (a + m) ≡ t → (s ≡ a + m → ⊥) → a + m < s
      beyond true q g = absurd (g (eqb-true s (a + m) q))
      beyond false q g = let w = eqb-false s (a + m) q in omega arith

  pub side_behind : a ≤ s → m < s - a → (m ≡ 0 → ⊥) → 3 ≡ side_of a m s z
  unfolding side_of
  side_behind h l e = rw (ne_eqb s (a + m) (λ q. omega arith), lt-leb s (a + m) (omega arith), and_no (eqb z 0), ne_eqb m 0 e) refl

  pub side_inside_none : a ≤ s → (s - a ≡ m → ⊥) → s - a ≤ m → z ≡ 0 → 0 ≡ side_of a m s z
  unfolding side_of
  side_inside_none h d l e = rw (ne_eqb s (a + m) (λ q. d (omega arith)), eq-eqb z 0 e, le-leb s (a + m) (omega arith)) refl

  pub side_inside : a ≤ s → (s - a ≡ m → ⊥) → s - a ≤ m → (m ≡ 0 → ⊥) → (z ≡ 0 → ⊥) → 3 ≡ side_of a m s z
  unfolding side_of
  side_inside h d l g e = rw (ne_eqb s (a + m) (λ q. d (omega arith)), ne_eqb z 0 e, ne_eqb m 0 g) refl

-- ---- one more row of the parent

module _ (walk : ℕ → ℕ → List ℕ → Out) (start size : ℕ → ℕ) (n r a m : ℕ) (c : List ℕ) where
  abbrev On : ℕ → ℕ → Out
  On b k = stretch walk start size n (suc r) b k c

  abbrev Cut : Out
  Cut = next (walk a m c) (λ c2. stretch walk start size n (suc r) (start r) (size r) c2)

  abbrev Picked : Bool → Bool → Bool → Out
  Picked t u v = cond t (On a m) (cond u (On a (m + size r)) (cond v (On (start r) (size r)) Cut))

  abbrev Side : Bool → Bool → Bool → ℕ
  Side t u v = cond u 1 (cond t 0 (cond v 2 3))

  on : (t u v : Bool) → (t ≡ true → size r ≡ 0) → (Side t u v ≡ 3 → ⊥)
      → Picked t u v ≡ On (next_start (Side t u v) a (start r)) (next_size (Side t u v) m (size r))
  unfolding next_start next_size
  on true true v e h = rw (e refl, add-zero m) refl
  on true false v e h = refl
  on false true v e h = refl
  on false false true e h = refl
  on false false false e h = absurd (h refl)

  cut : (t u v : Bool) → Side t u v ≡ 3 → Picked t u v ≡ Cut
  cut t true v h = let z : ◌≡◌ {A = ℕ} 1 3 = h in absurd (omega arith)
  cut true false v h = let z : ◌≡◌ {A = ℕ} 0 3 = h in absurd (omega arith)
  cut false false true h = let z : ◌≡◌ {A = ℕ} 2 3 = h in absurd (omega arith)
  cut false false false h = refl

  none_there : (eqb (size r) 0 && leb (start r) (a + m)) ≡ true → size r ≡ 0
  none_there = go (eqb (size r) 0) refl
    where
      go : (t : Bool) → eqb (size r) 0 ≡ t → (t && leb (start r) (a + m)) ≡ true → size r ≡ 0
      go true e h = eqb-true (size r) 0 e
      go false e h = let z : ◌≡◌ {A = ℕ} 0 1 = ap (λ b. cond b 1 0) h in absurd (omega arith)

  -- the stretch goes on
  pub stretch_on : {k : ℕ} → k ≡ suc n → (side_of a m (start r) (size r) ≡ 3 → ⊥)
      → stretch walk start size k r a m c ≡ On (next_start (side_of a m (start r) (size r)) a (start r)) (next_size (side_of a m (start r) (size r)) m (size r))
  unfolding stretch side_of
  stretch_on e h = rw e (on (eqb (size r) 0 && leb (start r) (a + m)) (eqb (start r) (a + m)) (eqb m 0 && leb a (start r)) none_there h)

  -- the stretch ends
  pub stretch_cut : {k : ℕ} → k ≡ suc n → side_of a m (start r) (size r) ≡ 3 → stretch walk start size k r a m c ≡ Cut
  unfolding stretch side_of
  stretch_cut e h = rw e (cut (eqb (size r) 0 && leb (start r) (a + m)) (eqb (start r) (a + m)) (eqb m 0 && leb a (start r)) h)

-- a stretch has no more rows than those of the parent's rows before it
pub next_size_most : (side m z : ℕ) → next_size side m z ≤ m + z
unfolding next_size
next_size_most side m z = go (eqb side 2) (eqb side 1)
  where
    go : (t u : Bool) → cond t z (cond u (m + z) m) ≤ m + z
    go true u = omega arith
    go false true = omega arith
    go false false = omega arith
