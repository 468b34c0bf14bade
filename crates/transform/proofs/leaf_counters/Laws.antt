-- Counters that are raised and put back, and what the parts are asked with. Assumes nothing.
use mathlib.Core.Path.{◌≡◌, refl, sym, ap, ◌∙◌}
use mathlib.Core.List.{List, [], ◌∷◌}
use Prim.Native.Nat.{ℕ, zero, suc, ◌+◌, ◌*◌, ◌<◌}
use native.Mathlib.Omega.{arith}
use lib.ListN.{length, get_or, set, length-set}
use lib.Seq.{get_or-set_same, get_or-set_other}
use Rattle.walk.specs.State.{rows, nulls, bytes, add_rows, set_bytes, grown, top}
use Rattle.plan.specs.parts.Parts.{parts_hold}
use Rattle.sound.specs.trying.Alike.{Alike}
use Rattle.sound.proofs.trying.Laws.{alike_rows, alike_bytes, hold_alike}

-- a number that is written where it stands
pub set_same : (l : List ℕ) (k v : ℕ) → get_or l k 0 ≡ v → set l k v ≡ l
set_same [] k v h = refl
set_same (y ∷ l) zero v h = ap (λ z. z ∷ l) (sym h)
set_same (y ∷ l) (suc k) v h = ap (λ z. y ∷ z) (set_same l k v h)

-- two places, in any order
pub set_both : (l : List ℕ) (a b v w : ℕ) → (a ≡ b → ⊥) → set (set l a v) b w ≡ set (set l b w) a v
set_both [] a b v w h = refl
set_both (y ∷ l) zero zero v w h = absurd (h refl)
set_both (y ∷ l) zero (suc b) v w h = refl
set_both (y ∷ l) (suc a) zero v w h = refl
set_both (y ∷ l) (suc a) (suc b) v w h = ap (λ z. y ∷ z) (set_both l a b v w (λ e. h (ap suc e)))

-- written twice
pub set_again : (l : List ℕ) (k v w : ℕ) → set (set l k v) k w ≡ set l k w
set_again [] k v w = refl
set_again (y ∷ l) zero v w = refl
set_again (y ∷ l) (suc k) v w = ap (λ z. y ∷ z) (set_again l k v w)

-- TWO COUNTERS ARE PUT BACK
pub put_back : (l : List ℕ) (a b v w : ℕ) → (a ≡ b → ⊥) → set (set (set (set l a v) b w) a (get_or l a 0)) b (get_or l b 0) ≡ l
put_back l a b v w h =
    ap (λ z. set z b (get_or l b 0)) (set_both (set l a v) b a w (get_or l a 0) (λ e. h (sym e)) ∙ ap (λ z. set z b w) (set_again l a v (get_or l a 0) ∙ set_same l a (get_or l a 0) refl))
    ∙ set_again l b w (get_or l b 0)
    ∙ set_same l b (get_or l b 0) refl

-- the nulls of node i full: what a copy is tried on
abbrev pub full : ℕ → List ℕ → List ℕ
full i c = set c (3 * i + 1) top

pub full_alike : (i : ℕ) (c : List ℕ) → Alike (full i c) c
full_alike i c =
    record {
      size = length-set c (3 * i + 1) top;
      rows_same = λ j. get_or-set_other c (3 * i + 1) (3 * j) top 0 (λ (e : 3 * j ≡ 3 * i + 1). omega arith);
      bytes_same = λ j. get_or-set_other c (3 * i + 1) (3 * j + 2) top 0 (λ (e : 3 * j + 2 ≡ 3 * i + 1). omega arith);
    }

pub full_top : (i : ℕ) (c : List ℕ) → i < 32 → length c ≡ 96 → nulls (full i c) i ≡ top
full_top i c l h = get_or-set_same c (3 * i + 1) top 0 (omega arith)

-- ---- what the parts are asked with

module _ (plan parts : List ℕ) (i n : ℕ) (c : List ℕ) where
  -- rows that bring no bytes of data, from counters that differ in nulls
  pub holds_rows : {b : ℕ} {d : List ℕ} → Alike d c → b ≡ bytes c i → parts_hold plan (set_bytes i b (add_rows i n c)) parts ≡ parts_hold plan (add_rows i n d) parts
  holds_rows {b} h e =
      ap (λ z. parts_hold plan z parts) (set_same (add_rows i n c) (3 * i + 2) b (get_or-set_other c (3 * i) (3 * i + 2) (grown (rows c i) n) 0 (λ (q : 3 * i + 2 ≡ 3 * i). omega arith) ∙ sym e))
      ∙ sym (hold_alike plan parts (alike_rows h i n))

  pub holds_bytes : (b : ℕ) → parts_hold plan (set_bytes i b (add_rows i n c)) parts ≡ parts_hold plan (add_rows i n (set_bytes i b (full i c))) parts
  holds_bytes b =
      sym (hold_alike plan parts (alike_bytes (alike_rows (full_alike i c) i n) i b))
      ∙ ap (λ z. parts_hold plan z parts)
      (set_both (full i c) (3 * i) (3 * i + 2) (grown (rows (full i c) i) n) b (λ (q : 3 * i ≡ 3 * i + 2). omega arith)
      ∙ ap (λ v. set (set_bytes i b (full i c)) (3 * i) (grown v n)) (sym (get_or-set_other (full i c) (3 * i + 2) (3 * i) b 0 (λ (q : 3 * i ≡ 3 * i + 2). omega arith))))
