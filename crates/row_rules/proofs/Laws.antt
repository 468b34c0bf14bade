-- What the loops over rows go by, over the width. Assumes nothing.
use Rattle.std.proofs.Common.{◌≡◌, ℕ, zero, suc, ◌+◌, ◌<◌, ◌≤◌, Bool, true, false, ◌&&◌, T, ltb, leb, sym, refl, ◌∙◌, ⊎_elim, eq-or-lt_of_le, add-one, arith, ltb→lt, lt→ltb, le-ltb, lt-ltb}
use Rattle.columnar.specs.Types.{half}
use Rattle.columnar.specs.Test.{every}
use Rattle.columnar.specs.RunEnd.{start_of}
use Rattle.columnar.proofs.Test.{every_out, every_in}
use Rattle.row_rules.specs.Rules.{view_row, rises}

pub and_false : (a : Bool) → a && false ≡ false
and_false true = refl
and_false false = refl

and_true : (a : Bool) → a && true ≡ a
and_true true = refl
and_true false = refl

is_true : (a : Bool) → T a → a ≡ true
is_true true h = refl
is_true false h = absurd h

-- where b says that a holds, the two together are b
under : (a b : Bool) → (T b → T a) → a && b ≡ b
under a true f = rw (is_true a (f tt))
under a false f = and_false a

-- ---- one row more

-- a row that obeys leaves the answer as it is
pub row_good : (p : ℕ → Bool) (i : ℕ) {good new : Bool} → good ≡ every p i → p i ≡ true → new ≡ good → new ≡ every p (i + 1)
row_good p i e h q = rw (add-one, h, and_true) (q ∙ e)

pub row_bad : (p : ℕ → Bool) (i : ℕ) {new : Bool} → p i ≡ false → new ≡ false → new ≡ every p (i + 1)
row_bad p i h q = rw (add-one, h, and_false) q

-- ---- numbers f 0 .. f n, each held to the one before by a test t

module _ (t : ℕ → ℕ → Bool) (f : ℕ → ℕ) where
  -- after i steps: the number there, and whether every step passed
  pub record Steps (i last : ℕ) (good : Bool) : Type 0 where
    pub here : last ≡ f i
    pub so_far : good ≡ every (λ k. t (f k) (f (suc k))) i

  pub steps_none : {last : ℕ} → last ≡ f 0 → Steps 0 last true
  steps_none e = record { here = e; so_far = refl }

  module _ {i last next : ℕ} {good new : Bool} (h : Steps i last good) (e : next ≡ f (suc i)) where
    pub step_good : t last next ≡ true → new ≡ good → Steps (i + 1) next new
    step_good p q = record {
      here = rw add-one e;
      so_far = row_good (λ k. t (f k) (f (suc k))) i h.so_far (rw (← h.here, ← e) p) q;
    }

    pub step_bad : t last next ≡ false → new ≡ false → Steps (i + 1) next new
    step_bad p q = record {
      here = rw add-one e;
      so_far = row_bad (λ k. t (f k) (f (suc k))) i (rw (← h.here, ← e) p) q;
    }

climb : (f : ℕ → ℕ) (n : ℕ) → ((k : ℕ) → k < n → f k ≤ f (suc k)) → (i : ℕ) → i ≤ n → f i ≤ f n
climb f zero up i h = let e : i ≡ 0 = omega arith in rw e (omega arith)
climb f (suc n) up i h =
    ⊎_elim (λ (q : i ≡ suc n). rw q (omega arith))
    (λ (q : i < suc n). omega (arith, climb f n (λ k l. up k (omega arith)) i (omega arith), up n (omega arith)))
    (eq-or-lt_of_le h)

-- ---- run ends

module _ (e : ℕ → ℕ) (w n : ℕ) where
  ends_below : T (every (λ k. ltb (start_of e k) (e k)) n) → (i : ℕ) → i < n → e i ≤ start_of e n
  ends_below t i l =
      climb (start_of e) n
      (λ k q. omega (arith, ltb→lt (start_of e k) (e k) (every_out (λ k. ltb (start_of e k) (e k)) n t k q))) (suc i) l

  pub ends_end : {last : ℕ} {good : Bool} → Steps ltb (start_of e) n last good → last < half w → good ≡ rises e w n
  unfolding rises
  ends_end s h =
      let q : start_of e n < half w = rw s.here at h in
      s.so_far
      ∙ sym (under (every (λ k. ltb (e k) (half w)) n) (every (λ k. ltb (start_of e k) (e k)) n)
      (λ t. every_in (λ k. ltb (e k) (half w)) n (λ i g. lt→ltb (e i) (half w) (omega (arith, ends_below t i g)))))

  pub ends_over : {last : ℕ} {good : Bool} → Steps ltb (start_of e) n last good → half w ≤ last → 0 < half w → false ≡ rises e w n
  unfolding rises
  ends_over s h z = go n (rw s.here at h)
    where
      go : (m : ℕ) → half w ≤ start_of e m → false ≡ rises e w m
      go zero h = absurd (omega arith)
      go (suc m) h = rw (le-ltb (e m) (half w) h, and_false)

-- ---- one row of a list-view

module _ (w child o z : ℕ) where
  pub view_offset : half w ≤ o → false ≡ view_row w child o z
  unfolding view_row
  view_offset h = rw (le-ltb o (half w) h)

  pub view_size : half w ≤ z → false ≡ view_row w child o z
  unfolding view_row
  view_size h = rw (le-ltb z (half w) h, and_false)

  pub view_sum : o < half w → z < half w → leb (o + z) child ≡ view_row w child o z
  unfolding view_row
  view_sum h g = rw (lt-ltb o (half w) h, lt-ltb z (half w) g)
