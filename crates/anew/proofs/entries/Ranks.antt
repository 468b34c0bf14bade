-- Entries in use and their ranks: each stands once, in the old order, at its rank. Assumes nothing.
use mathlib.Core.Path.{◌≡◌, refl, sym, ap, ◌∙◌}
use mathlib.Core.Bool.{Bool, true, false, cond, ◌&&◌, ◌||◌, true≢false}
use mathlib.Core.List.{List, ◌∷◌}
use mathlib.Core.Logic.{◌⊎◌, inl, inr}
use Prim.Native.Nat.{ℕ, zero, suc, ◌+◌, ◌≤◌, ◌<◌}
use native.Mathlib.Nat.{add-zero, zero-add, eq-or-lt_of_le}
use native.Mathlib.Omega.{arith}
use lib.ListN.{length, get_or}
use borrow.Author.Tests.{eqb-true, eq-eqb}
use Rattle.columnar.specs.Row.{seg}
use Rattle.columnar.specs.Types.{Number}
use Rattle.columnar.specs.Array.{Array}
use Rattle.columnar.specs.Dictionary.{Dictionary}
use Rattle.anew.specs.runs.Runs.{ok_at, those}
use Rattle.anew.proofs.runs.Those.{Among, those_are, those_rise, those_few}
use Rattle.anew.specs.entries.Used.{some_below, key_at, names, used, rank, kept}

shift : (a i : ℕ) → suc a + i ≡ a + suc i
shift a i = omega arith

-- ---- some number below n

pub record Found (f : ℕ → Bool) (n : ℕ) : Type 0 where
  pub at : ℕ
  pub below : at < n
  pub holds : f at ≡ true

pub some_found : (f : ℕ → Bool) (n : ℕ) → some_below f n ≡ true → Found f n
some_found f zero e = absurd (true≢false (sym e))
some_found f (suc n) e = go (some_below f n) refl (f n) refl e (some_found f n)
  where
    go : (b : Bool) → some_below f n ≡ b → (c : Bool) → f n ≡ c → b || c ≡ true → (some_below f n ≡ true → Found f n) → Found f (suc n)
    go true p c q h g = let z = g p in record { at = z.at; below = omega (arith, z.below); holds = z.holds }
    go false p c q h g = record { at = n; below = omega arith; holds = q ∙ h }

pub found_some : (f : ℕ → Bool) (n i : ℕ) → i < n → f i ≡ true → some_below f n ≡ true
found_some f zero i h e = absurd (omega arith)
found_some f (suc n) i h e = go (eq-or-lt_of_le h) (found_some f n i)
  where
    left : (b c : Bool) → b ≡ true → b || c ≡ true
    left true c q = refl
    left false c q = absurd (true≢false (sym q))

    right : (b c : Bool) → c ≡ true → b || c ≡ true
    right true c q = refl
    right false c q = q

    go : (suc i ≡ suc n) ⊎ (suc i < suc n) → (i < n → f i ≡ true → some_below f n ≡ true) → some_below f n || f n ≡ true
    go (inl q) g = right (some_below f n) (f n) (let z : n ≡ i = omega arith in ap f z ∙ e)
    go (inr q) g = left (some_below f n) (f n) (g (omega arith) e)

-- ---- those that pass, by how many pass before

module _ (p : ℕ → Bool) where
  -- there are more before a later number
  pub rank_below : (n r j : ℕ) → j < n → p (r + j) ≡ true → length (those p r j) < length (those p r n)
  rank_below zero r j h e = absurd (omega arith)
  rank_below (suc n) r zero h e = rw (ap p (sym (add-zero r)) ∙ e) (omega arith)
  rank_below (suc n) r (suc j) h e = go (p r) (those p (suc r) j) (those p (suc r) n) (rank_below n (suc r) j (omega arith) (ap p (shift r j) ∙ e))
    where
      go : (b : Bool) (s l : List ℕ) → length s < length l → length (cond b (r ∷ s) s) < length (cond b (r ∷ l) l)
      go true s l q = omega arith
      go false s l q = q

  -- A NUMBER THAT PASSES STANDS WHERE AS MANY PASS BEFORE IT
  pub rank_at : (n r j : ℕ) → j < n → p (r + j) ≡ true → get_or (those p r n) (length (those p r j)) 0 ≡ r + j
  rank_at zero r j h e = absurd (omega arith)
  rank_at (suc n) r zero h e = rw (ap p (sym (add-zero r)) ∙ e) (sym (add-zero r))
  rank_at (suc n) r (suc j) h e = go (p r) (those p (suc r) j) (those p (suc r) n) (rank_at n (suc r) j (omega arith) (ap p (shift r j) ∙ e) ∙ shift r j)
    where
      go : (b : Bool) (s l : List ℕ) → get_or l (length s) 0 ≡ r + suc j → get_or (cond b (r ∷ l) l) (length (cond b (r ∷ s) s)) 0 ≡ r + suc j
      go true s l q = q
      go false s l q = q

  -- .. and the one at place e has e before it
  pub place_rank : (n r e j : ℕ) → e < length (those p r n) → get_or (those p r n) e 0 ≡ r + j → length (those p r j) ≡ e
  place_rank zero r e j h q = absurd (omega arith)
  place_rank (suc n) r e j h q = go (p r) refl (those p (suc r) n) (λ i o. (those_are p n (suc r) i o).from) (λ i o m d. place_rank n (suc r) i m o d) e j h q
    where
      later : (b : Bool) → p r ≡ b → (e j c : ℕ) → (suc r ≤ c) → c ≡ r + j → ((m : ℕ) → c ≡ suc r + m → length (those p (suc r) m) ≡ e) → length (those p r j) ≡ cond b (suc e) e
      later b z e zero c o q f = absurd (omega arith)
      later true z e (suc j) c o q f = rw z (ap suc (f j (omega arith)))
      later false z e (suc j) c o q f = rw z (f j (omega arith))

      go : (b : Bool) → p r ≡ b → (l : List ℕ) → ((i : ℕ) → i < length l → suc r ≤ get_or l i 0)
          → ((i : ℕ) → i < length l → (m : ℕ) → get_or l i 0 ≡ suc r + m → length (those p (suc r) m) ≡ i) → (e j : ℕ) → e < length (cond b (r ∷ l) l)
          → get_or (cond b (r ∷ l) l) e 0 ≡ r + j → length (those p r j) ≡ e
      go true z l f g zero j h q = let y : j ≡ 0 = omega arith in rw y
      go true z l f g (suc e) j h q = later true z e j (get_or l e 0) (f e (omega arith)) q (g e (omega arith))
      go false z l f g e j h q = later false z e j (get_or l e 0) (f e h) q (g e h)

  -- where all pass, they are all of them
  pub all_those : (n r : ℕ) → ((j : ℕ) → j < n → p (r + j) ≡ true) → those p r n ≡ seg (λ i. i) r n
  all_those zero r h = refl
  all_those (suc n) r h =
      rw (ap p (sym (add-zero r)) ∙ h 0 (omega arith)) (ap (r ∷◌) (all_those n (suc r) (λ j q. ap p (shift r j) ∙ h (suc j) (omega arith))))

-- ---- entries of a dictionary

and_left : (b c : Bool) → b && c ≡ true → b ≡ true
and_left true c e = refl
and_left false c e = e

and_right : (b c : Bool) → b && c ≡ true → c ≡ true
and_right true c e = e
and_right false c e = absurd (true≢false (sym e))

module _ {P : Type 0} (k : Number) (x : Array (Dictionary P)) where
  -- a row that names entry e
  pub record Naming (e : ℕ) : Type 0 where
    pub row : ℕ
    pub below : row < x.len
    pub valid : ok_at x row ≡ true
    pub names_it : key_at k x row ≡ e

  -- an entry in use is named by a valid key of some row ..
  pub used_named : (e : ℕ) → used k x e ≡ true → Naming e
  used_named e h =
      let z = some_found (names k x e) x.len h in
      record {
        row = z.at;
        below = z.below;
        valid = and_left (ok_at x z.at) _ z.holds;
        names_it = eqb-true (key_at k x z.at) e (and_right (ok_at x z.at) _ z.holds);
      }

  -- .. and every entry that a valid key names is in use
  pub named_used : (i : ℕ) → i < x.len → ok_at x i ≡ true → used k x (key_at k x i) ≡ true
  named_used i q v = found_some (names k x (key_at k x i)) x.len i q (rw (v, eq-eqb (key_at k x i) (key_at k x i) refl))

  -- NO RANK IS ABOVE THE OLD KEY
  pub rank_le : (e : ℕ) → rank k x e ≤ e
  rank_le e = those_few (used k x) e 0

  -- THE ORDER IS KEPT
  pub order_kept : (e f : ℕ) → used k x e ≡ true → e < f → rank k x e < rank k x f
  order_kept e f h q = rank_below (used k x) f 0 e q (ap (used k x) (zero-add e) ∙ h)

  -- an entry in use stands at its rank
  pub kept_at : (e : ℕ) → e < x.body.values.len → used k x e ≡ true → get_or (kept k x) (rank k x e) 0 ≡ e
  kept_at e q h = rank_at (used k x) x.body.values.len 0 e q (ap (used k x) (zero-add e) ∙ h) ∙ zero-add e

  pub kept_below : (e : ℕ) → e < x.body.values.len → used k x e ≡ true → rank k x e < length (kept k x)
  kept_below e q h = order_kept e x.body.values.len h q

  -- every entry kept is in use, in rising order
  pub kept_are : (j : ℕ) → j < length (kept k x) → Among (used k x) 0 x.body.values.len (get_or (kept k x) j 0)
  kept_are j q = rw zero-add at (those_are (used k x) x.body.values.len 0 j q)

  pub kept_rise : (j : ℕ) → suc j < length (kept k x) → get_or (kept k x) j 0 < get_or (kept k x) (suc j) 0
  kept_rise j q = those_rise (used k x) x.body.values.len 0 j q

  -- the entry kept at place e has rank e
  pub kept_rank : (e : ℕ) → e < length (kept k x) → rank k x (get_or (kept k x) e 0) ≡ e
  kept_rank e q = place_rank (used k x) x.body.values.len 0 e (get_or (kept k x) e 0) q (sym (zero-add (get_or (kept k x) e 0)))

  -- and is not below it
  pub kept_high : (j : ℕ) → j < length (kept k x) → j ≤ get_or (kept k x) j 0
  kept_high zero q = omega arith
  kept_high (suc j) q = omega (arith, kept_rise j q, kept_high j (omega arith))

  -- no entry is kept twice
  pub kept_once : (a b : ℕ) → a < length (kept k x) → b < length (kept k x) → get_or (kept k x) a 0 ≡ get_or (kept k x) b 0 → a ≡ b
  kept_once a b p q e = sym (kept_rank a p) ∙ ap (rank k x) e ∙ kept_rank b q
