-- Numbers that fit, and the ground of the first that does not. Assumes nothing.
use mathlib.Core.Path.{◌≡◌, refl, sym, ap, subst, ◌∙◌}
use mathlib.Core.Logic.{◌⊎◌, inl, inr}
use mathlib.Core.Bool.{Bool, true, false}
use mathlib.Core.List.Memᴰ
use mathlib.Core.List.{List, [], ◌∷◌, ◌++◌, Memᴰ}
use Prim.Native.Nat.{ℕ, zero, suc, ◌+◌, ◌≤◌, ◌<◌}
use native.Mathlib.Nat.{add-zero}
use native.Mathlib.Omega.{arith}
use lib.Dec.{T, ltb}
use borrow.Author.Tests.{ltb-true, ltb-false, lt-ltb, le-ltb}
use Rattle.columnar.specs.Row.{seg}
use Rattle.model.specs.Try.{Try, done, stop, guard}
use Rattle.anew.specs.widths.Converted.{pick}
use Rattle.anew.specs.widths.Fitting.{Demand, needs, gather, tried, AllFit}

-- ---- lists of numbers

pub all_left : (l r : List Demand) → AllFit (l ++ r) → AllFit l
all_left [] r h = tt
all_left (x ∷ l) r h = (h.0, all_left l r h.1)

pub all_right : (l r : List Demand) → AllFit (l ++ r) → AllFit r
all_right [] r h = h
all_right (x ∷ l) r h = all_right l r h.1

pub all_both : (l r : List Demand) → AllFit l → AllFit r → AllFit (l ++ r)
all_both [] r h k = k
all_both (x ∷ l) r h k = (h.0, all_both l r h.1 k)

shift : (a i : ℕ) → suc a + i ≡ a + suc i
shift a i = omega arith

-- the numbers of a stretch
pub seg_fits : (g most : ℕ) (f : ℕ → ℕ) (a n : ℕ) → AllFit (needs g most (seg f a n)) → (i : ℕ) → i < n → f (a + i) < most
seg_fits g most f a zero h i q = absurd (omega arith)
seg_fits g most f a (suc n) h zero q = rw add-zero h.0
seg_fits g most f a (suc n) h (suc i) q = rw (← shift a i) (seg_fits g most f (suc a) n h.1 i (omega arith))

pub fits_seg : (g most : ℕ) (f : ℕ → ℕ) (a n : ℕ) → ((i : ℕ) → i < n → f (a + i) < most) → AllFit (needs g most (seg f a n))
fits_seg g most f a zero h = tt
fits_seg g most f a (suc n) h = (rw add-zero at (h 0 (omega arith)), fits_seg g most f (suc a) n (λ i q. rw (shift a i) (h (suc i) (omega arith))))

-- .. before others
pub seg_then : (g most : ℕ) (f : ℕ → ℕ) (a n : ℕ) (r : List Demand) → ((i : ℕ) → i < n → f (a + i) < most) → AllFit r → AllFit (needs g most (seg f a n) ++ r)
seg_then g most f a n r h k = all_both (needs g most (seg f a n)) r (fits_seg g most f a n h) k

-- the numbers of a field
pub gather_one : (cs : List ℕ) (f : ℕ → List Demand) → AllFit (gather cs f) → (c : ℕ) → Memᴰ c cs → AllFit (f c)
gather_one [] f h c m = absurd (Memᴰ.not-nil m)
gather_one (x ∷ cs) f h c m = go (Memᴰ.cases_cons m) (gather_one cs f (all_right (f x) (gather cs f) h) c)
  where
    go : (c ≡ x) ⊎ Memᴰ c cs → (Memᴰ c cs → AllFit (f c)) → AllFit (f c)
    go (inl e) k = subst (λ y. AllFit (f y)) (sym e) (all_left (f x) (gather cs f) h)
    go (inr e) k = k e

pub gather_all : (cs : List ℕ) (f : ℕ → List Demand) → ((c : ℕ) → AllFit (f c)) → AllFit (gather cs f)
gather_all [] f h = tt
gather_all (c ∷ cs) f h = all_both (f c) (gather cs f) (h c) (gather_all cs f h)

-- what is picked of an id that a field has
pub picked : {A : Type 0} (b : Bool) (f : T b → A) (z : A) (m : T b) → pick b f z ≡ f m
picked true f z m = refl
picked false f z m = absurd m

-- ---- the first that does not fit

pub record Misfit (l : List Demand) (g : ℕ) : Type 0 where
  pub before : List Demand
  pub bad : Demand
  pub behind : List Demand
  pub split : l ≡ before ++ (bad ∷ behind)
  pub fit : AllFit before
  pub over : bad.most ≤ bad.number
  pub ground_is : bad.refusal ≡ g

not_stop : {g : ℕ} → ◌≡◌ {A = Try (Unit {0})} (done tt) (stop g) → ⊥
not_stop e = let z : ◌≡◌ {A = ℕ} 0 1 = cc in omega arith

stop_is : {g h : ℕ} → ◌≡◌ {A = Try (Unit {0})} (stop g) (stop h) → g ≡ h
stop_is e = cc

-- DONE EXACTLY WHERE ALL FIT
pub tried_done : (l : List Demand) → tried l ≡ done tt → AllFit l
tried_done [] e = tt
tried_done (x ∷ l) e = go (ltb x.number x.most) refl e (tried_done l)
  where
    go : (b : Bool) → ltb x.number x.most ≡ b → guard b x.refusal (tried l) ≡ done tt → (tried l ≡ done tt → AllFit l) → (x.number < x.most) × AllFit l
    go true p e f = (ltb-true x.number x.most p, f e)
    go false p e f = absurd (not_stop (sym e))

pub done_tried : (l : List Demand) → AllFit l → tried l ≡ done tt
done_tried [] h = refl
done_tried (x ∷ l) h = rw (lt-ltb x.number x.most h.0) (done_tried l h.1)

-- STOPPED EXACTLY BY THE FIRST THAT DOES NOT FIT, with its ground
pub tried_stop : (l : List Demand) (g : ℕ) → tried l ≡ stop g → Misfit l g
tried_stop [] g e = absurd (not_stop e)
tried_stop (x ∷ l) g e = go (ltb x.number x.most) refl e (tried_stop l g)
  where
    go : (b : Bool) → ltb x.number x.most ≡ b → guard b x.refusal (tried l) ≡ stop g → (tried l ≡ stop g → Misfit l g) → Misfit (x ∷ l) g
    go true p e f =
        let m = f e in
        record {
          before = x ∷ m.before;
          bad = m.bad;
          behind = m.behind;
          split = ap (x ∷◌) m.split;
          fit = (ltb-true x.number x.most p, m.fit);
          over = m.over;
          ground_is = m.ground_is;
        }
    go false p e f =
        record { before = []; bad = x; behind = l; split = refl; fit = tt; over = ltb-false x.number x.most p; ground_is = stop_is e }

pub stop_tried : (l : List Demand) (g : ℕ) → Misfit l g → tried l ≡ stop g
stop_tried l g m = ap tried m.split ∙ go m.before m.fit
  where
    go : (b : List Demand) → AllFit b → tried (b ++ (m.bad ∷ m.behind)) ≡ stop g
    go [] h = rw (le-ltb m.bad.number m.bad.most m.over) (ap stop m.ground_is)
    go (x ∷ b) h = rw (lt-ltb x.number x.most h.0) (go b h.1)
