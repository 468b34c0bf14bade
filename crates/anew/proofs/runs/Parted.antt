-- Rows that a test parts into runs: each row stands in the run that ends at the next row that passes. Assumes nothing.
use mathlib.Core.Path.{◌≡◌, refl, sym, ap, subst, ◌∙◌}
use mathlib.Core.Bool.{Bool, true, false, cond, true≢false}
use mathlib.Core.List.{List, [], ◌∷◌}
use mathlib.Core.Logic.{◌⊎◌, inl, inr}
use Prim.Native.Nat.{ℕ, zero, suc, ◌+◌, ◌≤◌, ◌<◌}
use native.Mathlib.Nat.{add-zero, eq-or-lt_of_le}
use native.Mathlib.Omega.{arith}
use lib.Dec.{ltb}
use lib.ListN.{length, get_or}
use borrow.Author.Tests.{lt-ltb, le-ltb}
use Rattle.columnar.specs.RunEnd.{first_above}
use Rattle.anew.specs.runs.Runs.{those}
use Rattle.anew.proofs.runs.Those.{Among, those_are}

-- ---- the run of a row among the last rows of runs

abbrev pub run_of : List ℕ → ℕ → ℕ
run_of [] i = 0
run_of (e ∷ es) i = cond (ltb i (suc e)) 0 (suc (run_of es i))

-- looking from the next run on
above_next : (e : ℕ → ℕ) (i k n : ℕ) → first_above e i (suc k) n ≡ suc (first_above (λ j. e (suc j)) i k n)
above_next e i k zero = refl
above_next e i k (suc n) = go (ltb i (e (suc k))) (above_next e i (suc k) n)
  where
    go : (b : Bool) → first_above e i (suc (suc k)) n ≡ suc (first_above (λ j. e (suc j)) i (suc k) n)
        → ◌≡◌ {A = ℕ} (elim b [ true ↦ suc k | false ↦ first_above e i (suc (suc k)) n ]) (suc (elim b [ true ↦ k | false ↦ first_above (λ j. e (suc j)) i (suc k) n ]))
    go true h = refl
    go false h = h

-- it is the first run whose end is above the row
pub first_run_lem : (es : List ℕ) (i : ℕ) → first_above (λ k. suc (get_or es k 0)) i 0 (length es) ≡ run_of es i
first_run_lem [] i = refl
first_run_lem (e ∷ es) i = go (ltb i (suc e)) (above_next (λ k. suc (get_or (e ∷ es) k 0)) i 0 (length es) ∙ ap suc (first_run_lem es i))
  where
    go : (b : Bool) → first_above (λ k. suc (get_or (e ∷ es) k 0)) i 1 (length es) ≡ suc (run_of es i)
        → ◌≡◌ {A = ℕ} (elim b [ true ↦ 0 | false ↦ first_above (λ k. suc (get_or (e ∷ es) k 0)) i 1 (length es) ]) (cond b 0 (suc (run_of es i)))
    go true h = refl
    go false h = h

-- a row that no run's last row stands before is in the first run
run_first : (es : List ℕ) (i : ℕ) → (0 < length es → i ≤ get_or es 0 0) → run_of es i ≡ 0
run_first [] i h = refl
run_first (e ∷ es) i h = rw (lt-ltb i (suc e) (omega (arith, h (omega arith)))) refl

-- ---- rows, where one that does not pass reads as the next

module _ {R : Type 0} (row : ℕ → R) (p : ℕ → Bool) (hi : ℕ) (chain : (j : ℕ) → suc j < hi → p j ≡ false → row j ≡ row (suc j)) where
  -- a row reads as the next one that passes
  first_row_lem : (n r : ℕ) → r + n ≡ hi → 0 < length (those p r n) → row (get_or (those p r n) 0 0) ≡ row r
  first_row_lem zero r e h = absurd (omega arith)
  first_row_lem (suc n) r e h = go (p r) refl (those p (suc r) n) (first_row_lem n (suc r) (omega arith)) (those_are p n (suc r) 0) h
    where
      go : (b : Bool) → p r ≡ b → (l : List ℕ) → (0 < length l → row (get_or l 0 0) ≡ row (suc r)) → (0 < length l → Among p (suc r) (suc r + n) (get_or l 0 0))
          → 0 < length (cond b (r ∷ l) l) → row (get_or (cond b (r ∷ l) l) 0 0) ≡ row r
      go true z l f g h = refl
      go false z l f g h = f h ∙ sym (chain r (omega (arith, (g h).from, (g h).below)) z)

  -- the last row of the next run reads as the row behind a run
  pub next_row : (n r k : ℕ) → r + n ≡ hi → suc k < length (those p r n) → row (get_or (those p r n) (suc k) 0) ≡ row (suc (get_or (those p r n) k 0))
  next_row zero r k e h = absurd (omega arith)
  next_row (suc n) r k e h = go (p r) (those p (suc r) n) (λ q. first_row_lem n (suc r) (omega arith) q) (λ j q. next_row n (suc r) j (omega arith) q) k h
    where
      go : (b : Bool) (l : List ℕ) → (0 < length l → row (get_or l 0 0) ≡ row (suc r)) → ((j : ℕ) → suc j < length l → row (get_or l (suc j) 0) ≡ row (suc (get_or l j 0))) → (k : ℕ)
          → suc k < length (cond b (r ∷ l) l) → row (get_or (cond b (r ∷ l) l) (suc k) 0) ≡ row (suc (get_or (cond b (r ∷ l) l) k 0))
      go true l f g zero h = f (omega arith)
      go true l f g (suc k) h = g k (omega arith)
      go false l f g k h = g k h

  -- EACH ROW READS AS THE LAST ROW OF ITS RUN
  pub run_row : ((j : ℕ) → suc j ≡ hi → p j ≡ true) → (n r i : ℕ) → r + n ≡ hi → r ≤ i → i < hi → row (get_or (those p r n) (run_of (those p r n) i) 0) ≡ row i
  run_row last zero r i e h u = absurd (omega arith)
  run_row last (suc n) r i e h u =
      go (p r) refl (those p (suc r) n) (λ q. (those_are p n (suc r) 0 q).from) (λ j a b. run_row last n (suc r) j (omega arith) a b) (eq-or-lt_of_le h)
    where
      -- row r does not pass: there is a next one, and both are in the first run
      into_next : (l : List ℕ) → p r ≡ false → (0 < length l → suc r ≤ get_or l 0 0) → ((j : ℕ) → suc r ≤ j → j < hi → row (get_or l (run_of l j) 0) ≡ row j) → (suc r ≡ hi) ⊎ (suc r < hi)
          → row (get_or l (run_of l r) 0) ≡ row r
      into_next l z f g (inl q) = absurd (true≢false (sym (last r q) ∙ z))
      into_next l z f g (inr q) =
          ap (λ k. row (get_or l k 0)) (run_first l r (λ o. omega (arith, f o)) ∙ sym (run_first l (suc r) f)) ∙ g (suc r) (omega arith) q ∙ sym (chain r q z)

      go : (b : Bool) → p r ≡ b → (l : List ℕ) → (0 < length l → suc r ≤ get_or l 0 0) → ((j : ℕ) → suc r ≤ j → j < hi → row (get_or l (run_of l j) 0) ≡ row j)
          → (r ≡ i) ⊎ (r < i) → row (get_or (cond b (r ∷ l) l) (run_of (cond b (r ∷ l) l) i) 0) ≡ row i
      go true z l f g (inl q) = rw (lt-ltb i (suc r) (omega arith)) (ap row q)
      go true z l f g (inr q) = rw (le-ltb i (suc r) (omega arith)) (g i q u)
      go false z l f g (inl q) = subst (λ j. row (get_or l (run_of l j) 0) ≡ row j) q (into_next l z f g (eq-or-lt_of_le (let y : suc r ≤ hi = omega arith in y)))
      go false z l f g (inr q) = g i q u

-- ---- how many runs there must be

module _ (p : ℕ → Bool) (run : ℕ → ℕ) (hi : ℕ) (later : (i : ℕ) → suc i < hi → run i ≤ run (suc i)) (apart : (i : ℕ) → suc i < hi → p i ≡ true → run i < run (suc i)) where
  -- WHERE ROWS THAT PASS ARE NOT IN THE NEXT ROW'S RUN, THERE IS A RUN FOR EACH OF THEM
  pub counted : (n r : ℕ) → r + suc n ≡ hi → length (those p r (suc n)) + run r ≤ run (r + n) + 1
  counted zero r e = rw add-zero (go (p r))
    where
      go : (b : Bool) → length (cond b (r ∷ []) []) + run r ≤ run r + 1
      go true = omega arith
      go false = omega arith
  counted (suc n) r e = go (p r) refl (those p (suc r) (suc n)) (let z : suc r + n ≡ r + suc n = omega arith in rw z at (counted n (suc r) (omega arith)))
    where
      go : (b : Bool) → p r ≡ b → (l : List ℕ) → length l + run (suc r) ≤ run (r + suc n) + 1 → length (cond b (r ∷ l) l) + run r ≤ run (r + suc n) + 1
      go true z l h = omega (arith, apart r (omega arith) z)
      go false z l h = omega (arith, later r (omega arith))
