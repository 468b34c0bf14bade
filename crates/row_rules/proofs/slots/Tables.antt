-- The tables of 256 entries that the rows of a union are tested by: what they hold, one more id written, and what an entry says of a row.
-- Assumes nothing.
use Rattle.std.proofs.Common.{◌≡◌, ℕ, zero, suc, [], ◌∷◌, take, take_all, ◌||◌, ◌+◌, ◌<◌, ◌≤◌, min, Bool, true, false, cond, ◌&&◌, eqb, ltb, List, length, get_or, drop, set, replicate, sym, refl, ap, ◌∙◌, add-zero, zero-add, add-one, arith, length-set, drop-cons, get_or-set_other, get_or-set_same, le-ltb, lt-ltb, eq-eqb, ne_eqb, eqb-true}
use lib.ListN.{length-replicate, get_or-replicate}
use lib.Seq.{drop-length}
use borrow.Author.Tests.{eqb-false}
use Rattle.columnar.specs.Types.{half}
use Rattle.columnar.specs.Test.{every, member}
use Rattle.number.specs.Number.{entry}
use Rattle.row_rules.specs.slots.Slots.{field_of, bound_of, ids_declared, position_good, positions_within}
use Rattle.row_rules.proofs.slots.Laws.{pass, fail, field_here, field_later}
use Rattle.row_rules.proofs.slots.Tests.{every_same, every_both, ltb_min}

-- the table t has the 256 entries f 0, f 1, ..
pub record Holds (t : List ℕ) (f : ℕ → ℕ) : Type 0 where
  pub size : length t ≡ 256
  pub at : (c : ℕ) → c < 256 → get_or t c 0 ≡ f c

holds_none : (f : ℕ → ℕ) → ((c : ℕ) → f c ≡ 0) → Holds (replicate 256 0) f
holds_none f z = record { size = length-replicate {A = ℕ} 256 0; at = λ c m. get_or-replicate {A = ℕ} 256 c 0 0 m ∙ sym (z c) }

-- one entry written
holds_set : {t : List ℕ} {f : ℕ → ℕ} (g : ℕ → ℕ) (d v : ℕ) → Holds t f → d < 256 → g d ≡ v → ((c : ℕ) → (c ≡ d → ⊥) → g c ≡ f c) → Holds (set t d v) g
holds_set {t} {f} g d v h l e o =
    record {
      size = length-set t d v ∙ h.size;
      at = λ c m. go c m (eqb c d) refl;
    }
  where
    go : (c : ℕ) → c < 256 → (b : Bool) → eqb c d ≡ b → get_or (set t d v) c 0 ≡ g c
    go c m true q = let k : c ≡ d = eqb-true c d q in rw k (get_or-set_same t d v 0 (omega (arith, h.size)) ∙ sym e)
    go c m false q = get_or-set_other t d c v 0 (eqb-false c d q) ∙ h.at c m ∙ sym (o c (eqb-false c d q))

or_true : (b : Bool) → b || true ≡ true
or_true true = refl
or_true false = refl

module _ (ids : List ℕ) (i : ℕ) (l : i < length ids) where
  member_here : member (get_or ids i 0) (drop i ids) ≡ true
  member_here = rw (drop-cons ids i 0 l, eq-eqb (get_or ids i 0) (get_or ids i 0) refl)

  member_later : (c : ℕ) → (c ≡ get_or ids i 0 → ⊥) → member c (drop i ids) ≡ member c (drop (suc i) ids)
  member_later c h = rw (drop-cons ids i 0 l, ne_eqb c (get_or ids i 0) h)

-- ---- declared ids

-- 1 where c is one of the first i ids
abbrev pub flag_to : List ℕ → ℕ → ℕ → ℕ
flag_to ids i c = cond (member c (take i ids)) 1 0

member_new : (ids : List ℕ) (i : ℕ) → i < length ids → member (get_or ids i 0) (take (suc i) ids) ≡ true
member_new [] i l = absurd (omega arith)
member_new (d ∷ ids) zero l = rw (eq-eqb d d refl)
member_new (d ∷ ids) (suc i) l = rw (member_new ids i (omega arith)) (or_true (eqb (get_or ids i 0) d))

member_old : (ids : List ℕ) (i c : ℕ) → (c ≡ get_or ids i 0 → ⊥) → i < length ids → member c (take (suc i) ids) ≡ member c (take i ids)
member_old [] i c h l = absurd (omega arith)
member_old (d ∷ ids) zero c h l = rw (ne_eqb c d h)
member_old (d ∷ ids) (suc i) c h l = ap (λ b. eqb c d || b) (member_old ids i c h (omega arith))

pub flags_none : (ids : List ℕ) → Holds (replicate 256 0) (flag_to ids 0)
flags_none ids = holds_none _ (λ c. refl)

pub flags_all : (ids : List ℕ) {t : List ℕ} (i : ℕ) → length ids ≤ i → Holds t (flag_to ids i) → (c : ℕ) → c < 256 → get_or t c 0 ≡ cond (member c ids) 1 0
flags_all ids i l h c m = h.at c m ∙ rw (take_all i ids l)

pub flags_set : (ids : List ℕ) {t : List ℕ} (i : ℕ) → i < length ids → get_or ids i 0 < 256 → Holds t (flag_to ids i) → Holds (set t (get_or ids i 0) 1) (flag_to ids (i + 1))
flags_set ids {t} i l m h =
    rw add-one (holds_set (flag_to ids (suc i)) (get_or ids i 0) 1 h m (rw (member_new ids i l)) (λ c o. rw (member_old ids i c o l)))

-- ---- positions

-- what a position of c must be below, over the ids from number i on
abbrev pub bound_from : List ℕ → List ℕ → ℕ → ℕ → ℕ
bound_from ids lens i c = cond (member c (drop i ids)) (min (half 4) (get_or lens (i + field_of (drop i ids) c) 0)) 0

pub bounds_none : (ids lens : List ℕ) → Holds (replicate 256 0) (bound_from ids lens (length ids))
bounds_none ids lens = holds_none _ (λ c. rw drop-length)

pub bounds_all : (ids lens : List ℕ) {t : List ℕ} (i : ℕ) → i ≡ 0 → Holds t (bound_from ids lens i) → (c : ℕ) → c < 256 → get_or t c 0 ≡ bound_of ids lens c
bounds_all ids lens i e h c m = h.at c m ∙ rw (e, zero-add)

pub bounds_set : (ids lens : List ℕ) {t : List ℕ} (i j v : ℕ) → i ≡ suc j → i ≤ length ids → get_or ids j 0 < 256 → v ≡ min (half 4) (get_or lens j 0)
    → Holds t (bound_from ids lens i) → Holds (set t (get_or ids j 0) v) (bound_from ids lens j)
bounds_set ids lens {t} i j v e l m q h =
    let k : Holds t (bound_from ids lens (suc j)) = rw e at h in
    holds_set (bound_from ids lens j) (get_or ids j 0) v k m
    (rw (member_here ids j (omega arith), field_here ids (get_or ids j 0) j (omega arith) refl, add-zero) (sym q))
    (λ c o. later c o)
  where
    later : (c : ℕ) → (c ≡ get_or ids j 0 → ⊥) → bound_from ids lens j c ≡ bound_from ids lens (suc j) c
    later c o =
        let f : j + field_of (drop j ids) c ≡ suc j + field_of (drop (suc j) ids) c = omega (arith, field_later ids c j (omega arith) (λ g. o (sym g)), ap (λ (k : ℕ). field_of (drop k ids) c) (add-one j)) in
        rw (member_later ids j (omega arith) c o, f)

-- a position is below the bound of its id where the id is declared and the position good
bound_is : (ids lens : List ℕ) (c p : ℕ) → ltb p (bound_of ids lens c) ≡ member c ids && position_good ids lens c p
bound_is ids lens c p = go (member c ids)
  where
    go : (b : Bool) → ltb p (cond b (min (half 4) (get_or lens (field_of ids c) 0)) 0) ≡ b && position_good ids lens c p
    go true = sym (ltb_min p (half 4) (get_or lens (field_of ids c) 0))
    go false = le-ltb p 0 (omega arith)

module _ (s : List ℕ) (at too : ℕ) (ids lens : List ℕ) where
  -- row i as the table has it
  abbrev pub dense_row : ℕ → Bool
  dense_row i = ltb (entry 4 s too i) (bound_of ids lens (get_or s (at + i) 0))

  pub dense_are : {r : Bool} (n : ℕ) → r ≡ every dense_row n → r ≡ ids_declared s at ids n && positions_within s at too ids lens n
  dense_are n e =
      e
      ∙ every_same dense_row (λ i. member (get_or s (at + i) 0) ids && position_good ids lens (get_or s (at + i) 0) (entry 4 s too i)) n (λ i l. bound_is ids lens (get_or s (at + i) 0) (entry 4 s too i))
      ∙ sym (every_both (λ i. member (get_or s (at + i) 0) ids) (λ i. position_good ids lens (get_or s (at + i) 0) (entry 4 s too i)) n)

  module _ (t : List ℕ) (h : (c : ℕ) → c < 256 → get_or t c 0 ≡ bound_of ids lens c) (i : ℕ) {p : ℕ} (m : get_or s (at + i) 0 < 256) (q : p ≡ entry 4 s too i) where
    pub dense_pass : true ≡ every dense_row i → p < get_or t (get_or s (at + i) 0) 0 → true ≡ every dense_row (i + 1)
    dense_pass e o = pass dense_row i e (lt-ltb (entry 4 s too i) (bound_of ids lens (get_or s (at + i) 0)) (omega (arith, h (get_or s (at + i) 0) m, o, q)))

    pub dense_fail : (n : ℕ) → i < n → get_or t (get_or s (at + i) 0) 0 ≤ p → false ≡ every dense_row n
    dense_fail n l o = fail dense_row i n l (le-ltb (entry 4 s too i) (bound_of ids lens (get_or s (at + i) 0)) (omega (arith, h (get_or s (at + i) 0) m, o, q)))
