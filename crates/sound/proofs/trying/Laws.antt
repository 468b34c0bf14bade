-- Counters that agree in rows and bytes, and what is done to both of them. Assumes nothing.
use mathlib.Core.Path.{◌≡◌, refl, sym, ap, subst, ◌∙◌}
use mathlib.Core.Bool.{Bool, cond}
use mathlib.Core.List.{List, [], ◌∷◌}
use Prim.Native.Nat.{ℕ, zero, suc, ◌+◌, ◌*◌, ◌≤◌, ◌<◌, min}
use native.Mathlib.Omega.{arith}
use lib.ListN.{length, get_or, set, length-set}
use lib.Dec.{eqb}
use lib.Seq.{get_or-set_same, get_or-set_other}
use borrow.Author.Count.{below_more}
use Rattle.columnar.specs.Test.{every}
use Rattle.walk.specs.State.{nulls, grown, top, add_rows, set_bytes, end_gap, begin_gap}
use Rattle.plan.specs.parts.Parts.{nodes_of, part_holds, parts_hold}
use Rattle.sound.specs.trying.Alike.{Alike, Full}

pub alike_refl : (c : List ℕ) → Alike c c
alike_refl c = record { size = refl; rows_same = λ j. refl; bytes_same = λ j. refl }

pub alike_to : {c d e : List ℕ} → Alike c d → d ≡ e → Alike c e
alike_to {c} h q = subst (λ z. Alike c z) q h

-- the same number written at the same place
set_same : (l m : List ℕ) (k v w j : ℕ) → length l ≡ length m → v ≡ w → get_or l j 0 ≡ get_or m j 0 → get_or (set l k v) j 0 ≡ get_or (set m k w) j 0
set_same [] [] k v w j h e q = q
set_same [] (y ∷ m) k v w j h e q = absurd (omega (arith, h))
set_same (x ∷ l) [] k v w j h e q = absurd (omega (arith, h))
set_same (x ∷ l) (y ∷ m) zero v w zero h e q = e
set_same (x ∷ l) (y ∷ m) zero v w (suc j) h e q = q
set_same (x ∷ l) (y ∷ m) (suc k) v w zero h e q = q
set_same (x ∷ l) (y ∷ m) (suc k) v w (suc j) h e q = set_same l m k v w j (omega (arith, h)) e q

module _ {c d : List ℕ} (h : Alike c d) (i : ℕ) where
  written : (k v w : ℕ) → v ≡ w → Alike (set c k v) (set d k w)
  written k v w e =
      record {
        size = length-set c k v ∙ h.size ∙ sym (length-set d k w);
        rows_same = λ j. set_same c d k v w (3 * j) h.size e (h.rows_same j);
        bytes_same = λ j. set_same c d k v w (3 * j + 2) h.size e (h.bytes_same j);
      }

  pub alike_rows : (n : ℕ) → Alike (add_rows i n c) (add_rows i n d)
  alike_rows n = written (3 * i) _ _ (ap (λ v. grown v n) (h.rows_same i))

  pub alike_bytes : (n : ℕ) → Alike (set_bytes i n c) (set_bytes i n d)
  alike_bytes n = written (3 * i + 2) n n refl

  -- the gap of a run-end node behind a copy
  pub alike_gap : Alike (end_gap i c) (end_gap i d)
  alike_gap = written (3 * i + 2) _ _ (ap (λ v. min v 1) (h.bytes_same i))

  -- .. and behind an order of nulls
  pub alike_begun : Alike (begin_gap i c) (begin_gap i d)
  alike_begun = written (3 * i + 2) _ _ (ap (λ v. cond (eqb v 0) 0 2) (h.bytes_same i))

  -- null counters may be set to anything
  pub alike_other : (v w : ℕ) → Alike (set c (3 * i + 1) v) (set d (3 * i + 1) w)
  alike_other v w =
      record {
        size = length-set c (3 * i + 1) v ∙ h.size ∙ sym (length-set d (3 * i + 1) w);
        rows_same = λ j. get_or-set_other c (3 * i + 1) (3 * j) v 0 (λ (e : 3 * j ≡ 3 * i + 1). omega arith)
            ∙ h.rows_same j
            ∙ sym (get_or-set_other d (3 * i + 1) (3 * j) w 0 (λ (e : 3 * j ≡ 3 * i + 1). omega arith));
        bytes_same = λ j. get_or-set_other c (3 * i + 1) (3 * j + 2) v 0 (λ (e : 3 * j + 2 ≡ 3 * i + 1). omega arith)
            ∙ h.bytes_same j
            ∙ sym (get_or-set_other d (3 * i + 1) (3 * j + 2) w 0 (λ (e : 3 * j + 2 ≡ 3 * i + 1). omega arith));
      }

-- ---- the parts hold the bytes of both, or of neither

every_same : (p q : ℕ → Bool) (n : ℕ) → ((i : ℕ) → p i ≡ q i) → every p n ≡ every q n
every_same p q zero h = refl
every_same p q (suc n) h = rw (every_same p q n h, h n)

pub hold_alike : (plan parts : List ℕ) {c d : List ℕ} → Alike c d → parts_hold plan c parts ≡ parts_hold plan d parts
unfolding parts_hold part_holds
hold_alike plan parts {c} {d} h =
    every_same (λ i. every (λ b. part_holds plan c parts i b) 3) (λ i. every (λ b. part_holds plan d parts i b) 3) (nodes_of plan)
    (λ i. every_same (λ b. part_holds plan c parts i b) (λ b. part_holds plan d parts i b) 3 (λ b. rw (h.rows_same i, h.bytes_same i)))

-- ---- filling null counters

-- the first i null counters are full
abbrev pub Filled : List ℕ → List ℕ → ℕ → Type 0
Filled counters tried i = (Alike tried counters) × (length counters ≡ 96 → Full i tried)

pub filled_none : (counters : List ℕ) → Filled counters counters 0
filled_none counters = (alike_refl counters, λ h j q. absurd (omega arith))

pub filled_more : (counters tried : List ℕ) (i : ℕ) → i < 32 → Filled counters tried i → Filled counters (set tried (3 * i + 1) top) (i + 1)
filled_more counters tried i h f = (
  record {
    size = length-set tried (3 * i + 1) top ∙ f.0.size;
    rows_same = λ j. get_or-set_other tried (3 * i + 1) (3 * j) top 0 (λ (e : 3 * j ≡ 3 * i + 1). omega arith) ∙ f.0.rows_same j;
    bytes_same = λ j. get_or-set_other tried (3 * i + 1) (3 * j + 2) top 0 (λ (e : 3 * j + 2 ≡ 3 * i + 1). omega arith) ∙ f.0.bytes_same j;
  },
  λ l. below_more (λ j. nulls (set tried (3 * i + 1) top) j ≡ top) i
      (λ j q. get_or-set_other tried (3 * i + 1) (3 * j + 1) top 0 (λ (e : 3 * j + 1 ≡ 3 * i + 1). omega arith) ∙ f.1 l j q)
      (get_or-set_same tried (3 * i + 1) top 0 (omega (arith, f.0.size))),
)

pub filled_all : (counters tried : List ℕ) (i n : ℕ) → n ≤ i → Filled counters tried i → (Alike tried counters) × (length counters ≡ 96 → Full n tried)
filled_all counters tried i n h f = (f.0, λ l j q. f.1 l j (omega arith))
