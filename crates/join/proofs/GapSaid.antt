-- ONE RUN FOR A GAP, where it is chosen: at a run-end node a run grows exactly as W14 says, by what was added to the node before (specs/Gap.antt).
-- Assumes nothing.
use mathlib.Core.Path.{◌≡◌, refl, sym, ap, subst, ◌∙◌}
use mathlib.Core.Logic.{◌↔◌}
use mathlib.Core.Bool.{Bool, true, false, cond, false≢true}
use mathlib.Core.List.{List, [], ◌∷◌, ◌++◌}
use Prim.Native.Nat.{ℕ, zero, suc, ◌+◌, ◌-◌, min}
use native.Mathlib.Omega.{arith}
use lib.Dec.{ltb, eqb}
use borrow.Author.Tests.{eqb-true, eqb-false, eq-eqb, ne_eqb}
use Rattle.number.specs.Number.{encode}
use Rattle.columnar.specs.Types.{half}
use Rattle.columnar.specs.RunEnd.{RunEnd}
use Rattle.model.specs.Try.{Try, done}
use Rattle.model.specs.Grounds.{first_run, run_count}
use Rattle.model.specs.Mutable.{Mutable}
use Rattle.model.specs.Runs.{Runs, last_end, more_ends, over_end, runs_extend, runs_null}
use Rattle.model.proofs.Follow.{guard_done}
use Rattle.model.proofs.CutTries.{done_is, then_done}
use Rattle.join.specs.Gap.{Added, copied, nulled, OnlyNulls, ByNulls, nulls_latest, Came, begun, copy_came, nulls_came, Grows}

-- ---- what was added

first_is : {x y : Added} {hs gs : List Added} → ◌≡◌ {A = List Added} (x ∷ hs) (y ∷ gs) → x ≡ y
first_is e = cc e

rest_is : {x y : Added} {hs gs : List Added} → ◌≡◌ {A = List Added} (x ∷ hs) (y ∷ gs) → hs ≡ gs
rest_is e = cc e

-- nothing was added
none_by : (s b : List Added) (n : ℕ) → ◌≡◌ {A = List Added} [] (s ++ nulled (suc n) ∷ b) → ⊥
none_by [] b n e = let z : ◌≡◌ {A = ℕ} 0 1 = cc e in omega arith
none_by (x ∷ s) b n e = let z : ◌≡◌ {A = ℕ} 0 1 = cc e in omega arith

copy_null : (n k : ℕ) → copied n ≡ nulled k → ⊥
copy_null n k e = let z : ◌≡◌ {A = ℕ} 0 1 = cc e in omega arith

-- an addition of no rows changes nothing
copied_none : (hs : List Added) → ByNulls (copied 0 ∷ hs) ↔ ByNulls hs
copied_none hs = (
  λ q. go q.since q.count q.before q.in_order_lem q.only_nulls,
  λ q. record { since = copied 0 ∷ q.since; count = q.count; before = q.before; in_order_lem = ap (copied 0 ∷◌) q.in_order_lem; only_nulls = (refl, q.only_nulls) },
)
  where
    go : (s : List Added) (n : ℕ) (b : List Added) → copied 0 ∷ hs ≡ s ++ nulled (suc n) ∷ b → OnlyNulls s → ByNulls hs
    go [] n b e o = absurd (copy_null 0 (suc n) (first_is e))
    go (copied k ∷ s) n b e o = record { since = s; count = n; before = b; in_order_lem = rest_is e; only_nulls = o.1 }
    go (nulled k ∷ s) n b e o = absurd (copy_null 0 k (first_is e))

nulled_none : (hs : List Added) → ByNulls (nulled 0 ∷ hs) ↔ ByNulls hs
nulled_none hs = (
  λ q. go q.since q.count q.before q.in_order_lem q.only_nulls,
  λ q. record { since = nulled 0 ∷ q.since; count = q.count; before = q.before; in_order_lem = ap (nulled 0 ∷◌) q.in_order_lem; only_nulls = q.only_nulls },
)
  where
    go : (s : List Added) (n : ℕ) (b : List Added) → nulled 0 ∷ hs ≡ s ++ nulled (suc n) ∷ b → OnlyNulls s → ByNulls hs
    go [] n b e o = absurd (let z : ◌≡◌ {A = Added} (nulled 0) (nulled (suc n)) = first_is e in let y : ◌≡◌ {A = ℕ} 0 (suc n) = cc z in omega arith)
    go (copied k ∷ s) n b e o = absurd (copy_null k 0 (sym (first_is e)))
    go (nulled k ∷ s) n b e o = record { since = s; count = n; before = b; in_order_lem = rest_is e; only_nulls = o }

-- rows of a copy end it
copied_some : (n : ℕ) (hs : List Added) → ByNulls (copied (suc n) ∷ hs) → ⊥
copied_some n hs q = go q.since q.count q.before q.in_order_lem q.only_nulls
  where
    go : (s : List Added) (k : ℕ) (b : List Added) → copied (suc n) ∷ hs ≡ s ++ nulled (suc k) ∷ b → OnlyNulls s → ⊥
    go [] k b e o = copy_null (suc n) (suc k) (first_is e)
    go (copied i ∷ s) k b e o = let z : ◌≡◌ {A = Added} (copied (suc n)) (copied i) = first_is e in let y : suc n ≡ i = cc z in omega (arith, o.0)
    go (nulled i ∷ s) k b e o = copy_null (suc n) i (first_is e)

nulled_some : (n : ℕ) (hs : List Added) → ByNulls (nulled (suc n) ∷ hs)
nulled_some n hs = record { since = []; count = n; before = hs; in_order_lem = refl; only_nulls = tt }

-- the test of it
pub latest : (hs : List Added) → (nulls_latest hs ≡ true) ↔ ByNulls hs
latest [] = (λ e. absurd (false≢true e), λ q. absurd (none_by q.since q.before q.count q.in_order_lem))
latest (copied zero ∷ hs) = (λ e. (copied_none hs).1 ((latest hs).0 e), λ q. (latest hs).1 ((copied_none hs).0 q))
latest (copied (suc n) ∷ hs) = (λ e. absurd (false≢true e), λ q. absurd (copied_some n hs q))
latest (nulled zero ∷ hs) = (λ e. (nulled_none hs).1 ((latest hs).0 e), λ q. (latest hs).1 ((nulled_none hs).0 q))
latest (nulled (suc n) ∷ hs) = (λ e. nulled_some n hs, λ q. refl)

-- ---- the gap says so

-- g is 2 or 1
data Kept (hs : List Added) : ℕ → Type 0 where
  going : ByNulls hs → Kept hs 2
  ended : (ByNulls hs → ⊥) → Kept hs 1

kept_as : {hs gs : List Added} {g : ℕ} → ByNulls gs ↔ ByNulls hs → Kept hs g → Kept gs g
kept_as e (going q) = going (e.1 q)
kept_as e (ended q) = ended (λ z. q (e.0 z))

kept_some : {hs : List Added} {g : ℕ} → Kept hs g → g ≡ 0 → ⊥
kept_some (going q) e = omega arith
kept_some (ended q) e = omega arith

kept_one : {hs : List Added} {g : ℕ} → Kept hs g → min g 1 ≡ 1
kept_one (going q) = refl
kept_one (ended q) = refl

module _ {D : Type 0} (w : ℕ) where
  -- the gap behind rows of a copy
  copy_gap : {P : Type 0} (extend : ℕ → ℕ → Mutable D → Try (Mutable D)) (s : RunEnd P) (a n : ℕ) (d e : Runs D) → runs_extend w extend s a (suc n) d ≡ done e → e.gap ≡ min d.gap 1
  copy_gap extend s a n d e p =
      let g = guard_done (ltb (last_end w d.ends + suc n) (half w)) 7 _ e p in
      let t = then_done (extend (first_run w s a) (run_count w s a (suc n)) d.values) _ e g.1 in
      ap (λ (x : Runs D). x.gap) (sym (done_is t.rest_done))

  -- .. and what n nulls make
  pub null_grown : (fill : ℕ → Mutable D → Try (Mutable D)) (n : ℕ) (d e : Runs D) → d.gap ≡ 2 → runs_null w fill n d ≡ done e
      → record { ends = over_end w (last_end w d.ends + n) d.ends; values = d.values; gap = 2 } ≡ e
  null_grown fill n d e h p = done_is (guard_done (ltb (last_end w d.ends + n) (half w)) 7 _ e (rw (eq-eqb d.gap 2 h) at p)).1

  null_added : (fill : ℕ → Mutable D → Try (Mutable D)) (n : ℕ) (d e : Runs D) → (d.gap ≡ 2 → ⊥) → (d.gap ≡ 0 → ⊥) → runs_null w fill n d ≡ done e
      → (e.ends ≡ more_ends (encode w (last_end w d.ends + n)) 1 d.ends) × (e.gap ≡ 2)
  null_added fill n d e h o p =
      let t = then_done (fill 1 d.values) _ e (rw (ne_eqb d.gap 2 h) at p) in
      let g = guard_done (ltb (last_end w d.ends + n) (half w)) 7 _ e t.rest_done in
      let z = sym (done_is g.1) in
      (ap (λ (x : Runs D). x.ends) z, ap (λ (x : Runs D). x.gap) z ∙ ap (λ b. cond b 0 2) (ne_eqb d.gap 0 o))

  -- after rows of a null order it is 2
  null_gap : (fill : ℕ → Mutable D → Try (Mutable D)) (n : ℕ) (d e : Runs D) → (d.gap ≡ 0 → ⊥) → runs_null w fill n d ≡ done e → e.gap ≡ 2
  null_gap fill n d e o p = go (eqb d.gap 2) refl
    where
      go : (b : Bool) → eqb d.gap 2 ≡ b → e.gap ≡ 2
      go true h = ap (λ (x : Runs D). x.gap) (sym (null_grown fill n d e (eqb-true d.gap 2 h) p))
      go false h = (null_added fill n d e (eqb-false d.gap 2 h) o p).1

  module _ (P : Type 0) where
    kept : {hs : List Added} {d : Runs D} → Came P w hs d → Kept hs d.gap
    kept (begun d h z) = subst (Kept []) (sym h) (ended (λ q. none_by q.since q.before q.count q.in_order_lem))
    kept (copy_came {hs} {d} e c extend s a zero p) = kept_as (copied_none hs) (subst (λ (x : Runs D). Kept hs x.gap) (done_is p) (kept c))
    kept (copy_came {hs} {d} e c extend s a (suc n) p) = subst (Kept (copied (suc n) ∷ hs)) (sym (copy_gap extend s a n d e p ∙ kept_one (kept c))) (ended (copied_some n hs))
    kept (nulls_came {hs} {d} e c fill zero p) = kept_as (nulled_none hs) (subst (λ (x : Runs D). Kept hs x.gap) (done_is p) (kept c))
    kept (nulls_came {hs} {d} e c fill (suc n) p) = subst (Kept (nulled (suc n) ∷ hs)) (sym (null_gap fill (suc n) d e (kept_some (kept c)) p)) (going (nulled_some n hs))

    -- THE GAP IS 2 exactly where null orders alone wrote the last run
    pub gap_says : {hs : List Added} {d : Runs D} → Came P w hs d → (d.gap ≡ 2) ↔ ByNulls hs
    gap_says {hs} {d} c = go d.gap (kept c)
      where
        go : (g : ℕ) → Kept hs g → (g ≡ 2) ↔ ByNulls hs
        go g (going q) = (λ e. q, λ z. refl)
        go g (ended q) = (λ e. absurd (omega (arith, e)), λ z. absurd (q z))

    -- A NULL ORDER LENGTHENS THE LAST RUN EXACTLY THERE, and adds one elsewhere
    pub node_grows : {hs : List Added} {d : Runs D} (e : Runs D) → Came P w hs d → (fill : ℕ → Mutable D → Try (Mutable D)) (n : ℕ) → runs_null w fill n d ≡ done e → Grows w hs n d e
    node_grows {hs} {d} e c fill n p =
        record {
          longer = λ q. let z = sym (null_grown fill n d e ((gap_says c).1 q) p) in (ap (λ (x : Runs D). x.ends) z, ap (λ (x : Runs D). x.values) z);
          one_more = λ q. (null_added fill n d e (λ z. q ((gap_says c).0 z)) (kept_some (kept c)) p).0;
        }
