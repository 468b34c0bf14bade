-- Entries in use, run by run and block by block: what the ranks of a block say, and walks one behind the other. Assumes nothing.
use mathlib.Core.Path.{◌≡◌, refl, sym, subst, ◌∙◌}
use mathlib.Core.Bool.{Bool, true, false, cond}
use mathlib.Core.List.{List}
use Prim.Native.Nat.{ℕ, zero, suc, ◌+◌, ◌-◌, ◌≤◌, ◌<◌, min, max}
use native.Mathlib.Nat.{zero-add}
use native.Mathlib.Numerals.{add-one}
use native.Mathlib.Decide.{ℕ_discrete}
use native.Mathlib.Omega.{arith}
use lib.Dec.{eqb}
use borrow.Author.Tests.{lt-ltb, le-ltb, ne_eqb}
use Rattle.walk.specs.State.{Join}
use Rattle.walk.specs.Log.{Did, done, next}
use Rattle.walk.proofs.Laws.{done_did, next_ok, next_no}
use Rattle.reclaim.specs.used_entries.Keys.{rank}
use Rattle.reclaim.specs.reclaim_walk.Walk.{keys_of, run_of, copy_run, copy_runs, copy_blocks}
use Rattle.reclaim.proofs.reclaim_walk.Laws.{next_same, used_told}

-- ---- runs and blocks, in as many steps as there are entries

module _ (x : Join) where
  -- steps that are left over change nothing
  runs_fuel : (f g e n : ℕ) (c : List ℕ) → n ≤ f → n ≤ g → copy_runs x f e n c ≡ copy_runs x g e n c
  unfolding copy_runs
  runs_fuel zero zero e n c p q = refl
  runs_fuel zero (suc g) e n c p q = sym (let z : n ≡ 0 = omega arith in rw z)
  runs_fuel (suc f) zero e n c p q = let z : n ≡ 0 = omega arith in rw z
  runs_fuel (suc f) (suc g) e n c p q =
      go (eqb n 0) (λ c2. runs_fuel f g (e + max (run_of x e n) 1) (n - max (run_of x e n) 1) c2 (omega arith) (omega arith))
    where
      go : (b : Bool) → ((c2 : List ℕ) → copy_runs x f (e + max (run_of x e n) 1) (n - max (run_of x e n) 1) c2 ≡ copy_runs x g (e + max (run_of x e n) 1) (n - max (run_of x e n) 1) c2)
          → cond b (done c) (next (copy_run x e (run_of x e n) c) (λ c2. copy_runs x f (e + max (run_of x e n) 1) (n - max (run_of x e n) 1) c2))
          ≡ cond b (done c) (next (copy_run x e (run_of x e n) c) (λ c2. copy_runs x g (e + max (run_of x e n) 1) (n - max (run_of x e n) 1) c2))
      go true h = refl
      go false h = next_same (copy_run x e (run_of x e n) c) _ _ (h (copy_run x e (run_of x e n) c).counters)

  blocks_fuel : (f g e n : ℕ) (c : List ℕ) → n ≤ f → n ≤ g → copy_blocks x f e n c ≡ copy_blocks x g e n c
  unfolding copy_blocks
  blocks_fuel zero zero e n c p q = refl
  blocks_fuel zero (suc g) e n c p q = sym (let z : n ≡ 0 = omega arith in rw z)
  blocks_fuel (suc f) zero e n c p q = let z : n ≡ 0 = omega arith in rw z
  blocks_fuel (suc f) (suc g) e n c p q = go (eqb n 0) (λ c2. blocks_fuel f g (e + min n 512) (n - min n 512) c2 (omega arith) (omega arith))
    where
      go : (b : Bool) → ((c2 : List ℕ) → copy_blocks x f (e + min n 512) (n - min n 512) c2 ≡ copy_blocks x g (e + min n 512) (n - min n 512) c2)
          → cond b (done c) (next (copy_runs x (min n 512) e (min n 512) c) (λ c2. copy_blocks x f (e + min n 512) (n - min n 512) c2))
          ≡ cond b (done c) (next (copy_runs x (min n 512) e (min n 512) c) (λ c2. copy_blocks x g (e + min n 512) (n - min n 512) c2))
      go true h = refl
      go false h = next_same (copy_runs x (min n 512) e (min n 512) c) _ _ (h (copy_runs x (min n 512) e (min n 512) c).counters)

  -- one run, and then the others
  runs_one : (n e : ℕ) (c : List ℕ)
      → copy_runs x (suc n) e (suc n) c ≡ next (copy_run x e (run_of x e (suc n)) c) (λ c2. copy_runs x n (e + max (run_of x e (suc n)) 1) (suc n - max (run_of x e (suc n)) 1) c2)
  unfolding copy_runs
  runs_one n e c = rw (ne_eqb (suc n) 0 (λ h. omega (arith, h)))

  pub runs_open : (n e : ℕ) (c : List ℕ) → 0 < n
      → copy_runs x n e n c ≡ next (copy_run x e (run_of x e n) c) (λ c2. copy_runs x (n - max (run_of x e n) 1) (e + max (run_of x e n) 1) (n - max (run_of x e n) 1) c2)
  runs_open zero e c l = absurd (omega arith)
  runs_open (suc n) e c l =
      runs_one n e c
      ∙ next_same (copy_run x e (run_of x e (suc n)) c) (λ c2. copy_runs x n (e + max (run_of x e (suc n)) 1) (suc n - max (run_of x e (suc n)) 1) c2)
      (λ c2. copy_runs x (suc n - max (run_of x e (suc n)) 1) (e + max (run_of x e (suc n)) 1) (suc n - max (run_of x e (suc n)) 1) c2)
      (runs_fuel n (suc n - max (run_of x e (suc n)) 1) (e + max (run_of x e (suc n)) 1) (suc n - max (run_of x e (suc n)) 1) _ (omega arith) (omega arith))

  blocks_one : (n e : ℕ) (c : List ℕ)
      → copy_blocks x (suc n) e (suc n) c ≡ next (copy_runs x (min (suc n) 512) e (min (suc n) 512) c) (λ c2. copy_blocks x n (e + min (suc n) 512) (suc n - min (suc n) 512) c2)
  unfolding copy_blocks
  blocks_one n e c = rw (ne_eqb (suc n) 0 (λ h. omega (arith, h)))

  pub blocks_open : (n e : ℕ) (c : List ℕ) → 0 < n → copy_blocks x n e n c ≡ next (copy_runs x (min n 512) e (min n 512) c) (λ c2. copy_blocks x (n - min n 512) (e + min n 512) (n - min n 512) c2)
  blocks_open zero e c l = absurd (omega arith)
  blocks_open (suc n) e c l =
      blocks_one n e c
      ∙ next_same (copy_runs x (min (suc n) 512) e (min (suc n) 512) c) (λ c2. copy_blocks x n (e + min (suc n) 512) (suc n - min (suc n) 512) c2)
      (λ c2. copy_blocks x (suc n - min (suc n) 512) (e + min (suc n) 512) (suc n - min (suc n) 512) c2)
      (blocks_fuel n (suc n - min (suc n) 512) (e + min (suc n) 512) (suc n - min (suc n) 512) _ (omega arith) (omega arith))

  module _ {plan parts : List ℕ} where
    pub runs_none : (wr : Bool) (n e : ℕ) (c room : List ℕ) → n ≡ 0 → Did plan parts wr (copy_runs x n e n c) room 0 c room
    unfolding copy_runs
    runs_none wr n e c room z = rw z (done_did wr c room)

    pub runs_stop : (wr : Bool) (n e r : ℕ) (c room : List ℕ) {g : ℕ} {c1 room1 : List ℕ} → 0 < n → r ≡ run_of x e n → Did plan parts wr (copy_run x e r c) room g c1 room1 → (g ≡ 0 → ⊥)
        → Did plan parts wr (copy_runs x n e n c) room g c1 room1
    runs_stop wr n e r c room {g} {c1} {room1} l q d h = rw (runs_open n e c l) (next_no _ (subst (λ z. Did plan parts wr (copy_run x e z c) room g c1 room1) q d) h)

    pub runs_more : (wr : Bool) (n n' e e' r : ℕ) (c room : List ℕ) {g : ℕ} {c1 room1 : List ℕ} {g2 : ℕ} {c2 room2 : List ℕ} → 0 < n → r ≡ run_of x e n → n' ≡ n - max r 1 → e' ≡ e + max r 1
        → Did plan parts wr (copy_run x e r c) room g c1 room1 → g ≡ 0 → Did plan parts wr (copy_runs x n' e' n' c1) room1 g2 c2 room2 → Did plan parts wr (copy_runs x n e n c) room g2 c2 room2
    runs_more wr n n' e e' r c room {g} {c1} {room1} {g2} {c2} {room2} l q a b d h m =
        rw (runs_open n e c l)
        (next_ok _ (subst (λ z. Did plan parts wr (copy_run x e z c) room g c1 room1) q d) h
        (subst (λ z. Did plan parts wr (copy_runs x (n - max z 1) (e + max z 1) (n - max z 1) c1) room1 g2 c2 room2) q
        (subst (λ z. Did plan parts wr (copy_runs x z (e + max r 1) z c1) room1 g2 c2 room2) a (subst (λ z. Did plan parts wr (copy_runs x n' z n' c1) room1 g2 c2 room2) b m))))

    pub blocks_none : (wr : Bool) (n e : ℕ) (c room : List ℕ) → n ≡ 0 → Did plan parts wr (copy_blocks x n e n c) room 0 c room
    unfolding copy_blocks
    blocks_none wr n e c room z = rw z (done_did wr c room)

    pub blocks_stop : (wr : Bool) (n e r : ℕ) (c room : List ℕ) {g : ℕ} {c1 room1 : List ℕ} → 0 < n → r ≡ min n 512 → Did plan parts wr (copy_runs x r e r c) room g c1 room1 → (g ≡ 0 → ⊥)
        → Did plan parts wr (copy_blocks x n e n c) room g c1 room1
    blocks_stop wr n e r c room {g} {c1} {room1} l q d h = rw (blocks_open n e c l) (next_no _ (subst (λ z. Did plan parts wr (copy_runs x z e z c) room g c1 room1) q d) h)

    pub blocks_more : (wr : Bool) (n n' e e' r : ℕ) (c room : List ℕ) {g : ℕ} {c1 room1 : List ℕ} {g2 : ℕ} {c2 room2 : List ℕ} → 0 < n → r ≡ min n 512 → n' ≡ n - r → e' ≡ e + r
        → Did plan parts wr (copy_runs x r e r c) room g c1 room1 → g ≡ 0 → Did plan parts wr (copy_blocks x n' e' n' c1) room1 g2 c2 room2 → Did plan parts wr (copy_blocks x n e n c) room g2 c2 room2
    blocks_more wr n n' e e' r c room {g} {c1} {room1} {g2} {c2} {room2} l q a b d h m =
        rw (blocks_open n e c l)
        (next_ok _ (subst (λ z. Did plan parts wr (copy_runs x z e z c) room g c1 room1) q d) h
        (subst (λ z. Did plan parts wr (copy_blocks x (n - z) (e + z) (n - z) c1) room1 g2 c2 room2) q
        (subst (λ z. Did plan parts wr (copy_blocks x z (e + r) z c1) room1 g2 c2 room2) a (subst (λ z. Did plan parts wr (copy_blocks x n' z n' c1) room1 g2 c2 room2) b m))))

-- a dictionary of one block
pub one_block : (x : Join) {plan parts : List ℕ} (wr : Bool) (n : ℕ) (c room : List ℕ) {g : ℕ} {c1 room1 : List ℕ} → n ≤ 512 → Did plan parts wr (copy_runs x n 0 n c) room g c1 room1
    → Did plan parts wr (copy_blocks x n 0 n c) room g c1 room1
unfolding copy_runs copy_blocks
one_block x wr zero c room l d = d
one_block x {plan} {parts} wr (suc n) c room {g} {c1} {room1} l d = by (ℕ_discrete g 0)
  where
    by : Dec (g ≡ 0) → Did plan parts wr (copy_blocks x (suc n) 0 (suc n) c) room g c1 room1
    by (yes z) = subst (λ v. Did plan parts wr (copy_blocks x (suc n) 0 (suc n) c) room v c1 room1) (sym z) (blocks_more x wr (suc n) 0 0 (suc n) (suc n) c room (omega arith) (omega arith) (omega arith) (omega arith) d z (blocks_none x wr 0 (suc n) c1 room1 refl))
    by (no z) = blocks_stop x wr (suc n) 0 (suc n) c room (omega arith) (omega arith) d z

-- as many as there are
pub blocks_are : (x : Join) {plan parts : List ℕ} (wr : Bool) {n m : ℕ} (e : ℕ) (c room : List ℕ) {g : ℕ} {c1 room1 : List ℕ} → n ≡ m → Did plan parts wr (copy_blocks x n e n c) room g c1 room1
    → Did plan parts wr (copy_blocks x m e m c) room g c1 room1
blocks_are x {plan} {parts} wr e c room {g} {c1} {room1} q d = subst (λ n. Did plan parts wr (copy_blocks x n e n c) room g c1 room1) q d

-- ---- a run, by the ranks of its block

module _ (x : Join) where
  pub run_none : (e n : ℕ) → n ≡ 0 → 0 ≡ run_of x e n
  unfolding run_of
  run_none e n h = rw h

  pub run_ends_lem : (e n a b : ℕ) → 0 < n → a ≡ rank (keys_of x) e → b ≡ rank (keys_of x) (e + 1) → b ≤ a → 0 ≡ run_of x e n
  unfolding run_of
  run_ends_lem e zero a b l p q h = absurd (omega arith)
  run_ends_lem e (suc n) a b l p q h = rw (sym (used_told (keys_of x) e a b p q) ∙ le-ltb a b h)

  pub run_goes : (e n e' n' k k' a b : ℕ) → 0 < n → e' ≡ e + 1 → n' ≡ n - 1 → k' ≡ k + 1 → a ≡ rank (keys_of x) e → b ≡ rank (keys_of x) (e + 1) → a < b → k' + run_of x e' n' ≡ k + run_of x e n
  unfolding run_of
  run_goes e zero e' n' k k' a b l p1 p2 p3 p q h = absurd (omega arith)
  run_goes e (suc n) e' n' k k' a b l p1 p2 p3 p q h =
      let z : n' ≡ n = omega arith in
      rw (sym (used_told (keys_of x) e a b p q) ∙ lt-ltb a b h, z, p1 ∙ add-one e, p3) (omega arith)

  pub run_starts : (e n e' n' k : ℕ) → k ≡ 0 → e' ≡ e → n' ≡ n → k + run_of x e' n' ≡ run_of x e n
  run_starts e n e' n' k p q r = rw (p, q, r) (zero-add (run_of x e n))
