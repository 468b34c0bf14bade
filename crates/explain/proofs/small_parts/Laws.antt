-- The bytes due in a part, and which part is the first that cannot hold them. Assumes nothing.
use mathlib.Core.Path.{◌≡◌, refl, sym, ap, subst, ◌∙◌}
use mathlib.Core.Bool.{Bool, true, false, not, cond, ◌&&◌}
use mathlib.Core.List.{List}
use Prim.Native.Nat.{ℕ, zero, suc, ◌+◌, ◌*◌, ◌-◌, ◌/◌, ◌≤◌, ◌<◌, min, max}
use native.Mathlib.Decide.{dec_lt}
use native.Mathlib.Omega.{arith}
use native.Mathlib.Numerals.{add-one}
use native.Mathlib.Nat.{mul-zero, min-eq_left, min-eq_right, le-mul_of_pos_right}
use lib.Dec.{leb, ltb, eqb}
use borrow.Author.Tests.{eq-eqb, ne_eqb, le-leb, lt-leb, leb-true, leb-false}
use Rattle.columnar.specs.Test.{only_if}
use Rattle.schema.specs.formats.Code.{is_string, is_list_view, width_of}
use Rattle.walk.specs.State.{code_of, rows, bytes, grown, top}
use Rattle.plan.specs.parts.Parts.{nodes_of, has_part, has_offsets, entry_size, needed_by, needed, size_of, part_holds}
use Rattle.explain.specs.declared.stops.Why.{Why}
use Rattle.explain.specs.stops.Why.{nothing, clash, unless}
use Rattle.explain.specs.stops.Parts.{rows_due, bytes_due, why_part, why_parts_from, why_parts}
use Rattle.explain.specs.Sizes.{SmallPart}

-- ---- a number that is cut before it is multiplied

at_top : (k l w : ℕ) → top ≤ k → top ≤ l → min (k * w) top ≡ min (l * w) top
at_top k l zero p q = rw (mul-zero k, mul-zero l) refl
at_top k l (suc w) p q =
    let z : 0 < suc w = omega arith in
    let f = le-mul_of_pos_right k z in
    let g = le-mul_of_pos_right l z in
    min-eq_right (omega arith) ∙ sym (min-eq_right (omega arith))

-- .. all but the bits
pub cut_rows : (z r m b : ℕ) → (b ≡ 0 → ⊥) → min (needed_by z (min r top) m b) top ≡ min (needed_by z r m b) top
cut_rows z r m b h = go (dec_lt top r) b h
  where
    over : top < r → (b : ℕ) → (b ≡ 0 → ⊥) → min (needed_by z top m b) top ≡ min (needed_by z r m b) top
    over y zero h = absurd (h refl)
    over y (suc zero) h = by (has_offsets z)
      where
        by : (t : Bool) → min (cond t ((top + 1) * width_of z) (top * entry_size z)) top ≡ min (cond t ((r + 1) * width_of z) (r * entry_size z)) top
        by true = at_top (top + 1) (r + 1) (width_of z) (omega arith) (omega arith)
        by false = at_top top r (entry_size z) (omega arith) (omega arith)
    over y (suc (suc b)) h = by (is_string z) (is_list_view z)
      where
        by : (t u : Bool) → min (cond t m (cond u (top * width_of z) (top * 4))) top ≡ min (cond t m (cond u (r * width_of z) (r * 4))) top
        by true u = refl
        by false true = at_top top r (width_of z) (omega arith) (omega arith)
        by false false = at_top top r 4 (omega arith) (omega arith)

    go : Dec (top < r) → (b : ℕ) → (b ≡ 0 → ⊥) → min (needed_by z (min r top) m b) top ≡ min (needed_by z r m b) top
    go (yes y) b h = let e : min r top ≡ top = min-eq_right (omega arith) in subst (λ v. min (needed_by z v m b) top ≡ min (needed_by z r m b) top) (sym e) (over y b h)
    go (no y) b h = let e : min r top ≡ r = min-eq_left (omega arith) in ap (λ v. min (needed_by z v m b) top) e

module _ (z m b rows r n : ℕ) {sum : ℕ} (g : sum ≡ grown r n) where
  pub root_counter : {s : ℕ} → rows ≤ top → sum < rows → s ≡ min (needed_by z rows m b) top → s ≡ min (needed_by z (max (r + n) rows) m b) top
  unfolding grown
  root_counter k l e = let q : max (r + n) rows ≡ rows = omega (arith, g, k, l) in rw q e

  pub root_bits : {s : ℕ} → rows ≤ sum → b ≡ 0 → s ≡ min ((r + n + 7) / 8) top → s ≡ min (needed_by z (max (r + n) rows) m b) top
  unfolding grown
  root_bits l h e = let q : max (r + n) rows ≡ r + n = omega (arith, g, l) in rw (h, q) e

  pub root_cut : {s : ℕ} → rows ≤ sum → (b ≡ 0 → ⊥) → s ≡ min (needed_by z sum m b) top → s ≡ min (needed_by z (max (r + n) rows) m b) top
  unfolding grown
  root_cut l h e = let q : max (r + n) rows ≡ r + n = omega (arith, g, l) in rw q (e ∙ ap (λ v. min (needed_by z v m b) top) g ∙ cut_rows z (r + n) m b h)

-- ---- parts

module _ (plan counters : List ℕ) {i code r m : ℕ} (e : code ≡ code_of plan i) (f : r ≡ rows counters i) (g : m ≡ bytes counters i) (b all : ℕ) {s : ℕ} (parts : List ℕ) where
  pub due_root : i ≡ 0 → s ≡ min (needed_by code (max all r) m b) top → s ≡ min (bytes_due plan counters parts all i b) top
  due_root z h = rw (eq-eqb i 0 z, ← e, ← g, ap (rows counters) (sym z), ← f) h

  pub due_other : (i ≡ 0 → ⊥) → s ≡ min (needed_by code r m b) top → s ≡ min (bytes_due plan counters parts all i b) top
  due_other z h = rw (ne_eqb i 0 z, ← e, ← g, ← f) h

module _ (plan counters parts : List ℕ) (i b : ℕ) {h : Bool} (p : h ≡ has_part plan i b) where
  pub no_part : not h ≡ true → true ≡ part_holds plan counters parts i b
  unfolding part_holds
  no_part z = rw (sym p ∙ off h z) refl
    where
      off : (t : Bool) → not t ≡ true → t ≡ false
      off true q = absurd (let y : ◌≡◌ {A = ℕ} 0 1 = cc in omega arith)
      off false q = refl

  pub part_size : not h ≡ false → {code r m s size : ℕ} → code ≡ code_of plan i → r ≡ rows counters i → m ≡ bytes counters i → s ≡ min (needed_by code r m b) top → size ≡ size_of plan parts i b → SmallPart plan parts i b
      → {t : Bool} → t ≡ leb s size → t ≡ part_holds plan counters parts i b
  unfolding part_holds
  part_size z {s = s} {size} e f g q k l {t} u =
      rw (sym p ∙ on h z) (u ∙ same (leb (needed plan counters i b) (size_of plan parts i b)) refl)
    where
      on : (t : Bool) → not t ≡ false → t ≡ true
      on true q = refl
      on false q = absurd (let y : ◌≡◌ {A = ℕ} 0 1 = cc in omega arith)

      cut : s ≡ min (needed plan counters i b) top
      cut = rw (e, f, g) at q

      same : (v : Bool) → leb (needed plan counters i b) (size_of plan parts i b) ≡ v → leb s size ≡ v
      same true y = le-leb s size (let w = leb-true (needed plan counters i b) (size_of plan parts i b) y in omega (arith, cut, k, w))
      same false y = lt-leb s size (let w = leb-false (needed plan counters i b) (size_of plan parts i b) y in omega (arith, cut, k, l (sym p ∙ on h z), w))

module _ (plan counters parts : List ℕ) (all i b : ℕ) where
  pub part_on : {t : Bool} → t ≡ part_holds plan counters parts i b → t ≡ true → nothing ≡ why_part plan counters parts all i b nothing
  unfolding why_part unless
  part_on e h = rw (sym e ∙ h) refl

  pub part_over : {t : Bool} → t ≡ part_holds plan counters parts i b → t ≡ false → {s size : ℕ} → s ≡ min (bytes_due plan counters parts all i b) top → size ≡ size_of plan parts i b
      → record { refusal = 13; node = i; row = 0; needed = s; allowed = size } ≡ why_part plan counters parts all i b nothing
  unfolding why_part unless
  part_over e h p q = rw (sym e ∙ h, p, q) refl

  -- what a part says, and what follows it
  pub part_stops : {w : Why} → w ≡ why_part plan counters parts all i b nothing → (w.refusal ≡ 0 → ⊥) → (rest : Why) → why_part plan counters parts all i b rest ≡ w
  unfolding why_part unless
  part_stops {w} e h rest = go (part_holds plan counters parts i b) e
    where
      go : (t : Bool) → w ≡ cond t nothing (clash 13 i 0 (bytes_due plan counters parts all i b) (size_of plan parts i b)) → cond t rest (clash 13 i 0 (bytes_due plan counters parts all i b) (size_of plan parts i b)) ≡ w
      go true q = absurd (h (ap (λ z. z.refusal) q))
      go false q = sym q

  pub part_goes : {w : Why} → w ≡ why_part plan counters parts all i b nothing → w.refusal ≡ 0 → (rest : Why) → why_part plan counters parts all i b rest ≡ rest
  unfolding why_part unless
  part_goes {w} e h rest = go (part_holds plan counters parts i b) e
    where
      go : (t : Bool) → w ≡ cond t nothing (clash 13 i 0 (bytes_due plan counters parts all i b) (size_of plan parts i b)) → cond t rest (clash 13 i 0 (bytes_due plan counters parts all i b) (size_of plan parts i b)) ≡ rest
      go true q = refl
      go false q = absurd (let z : 0 ≡ 13 = sym h ∙ ap (λ y. y.refusal) q in omega arith)

-- ---- nodes

module _ (plan counters parts : List ℕ) (all : ℕ) where
  abbrev says : ℕ → Why → Why
  says i rest = why_part plan counters parts all i 0 (why_part plan counters parts all i 1 (why_part plan counters parts all i 2 rest))

  node_cases : (i : ℕ) (rest : Why) → says i rest ≡ cond (eqb (says i nothing).refusal 0) rest (says i nothing)
  unfolding why_part unless
  node_cases i rest = go (part_holds plan counters parts i 0) (part_holds plan counters parts i 1) (part_holds plan counters parts i 2)
    where
      over : ℕ → Why
      over b = clash 13 i 0 (bytes_due plan counters parts all i b) (size_of plan parts i b)

      go : (a b d : Bool) → cond a (cond b (cond d rest (over 2)) (over 1)) (over 0) ≡ cond (eqb (cond a (cond b (cond d nothing (over 2)) (over 1)) (over 0)).refusal 0) rest (cond a (cond b (cond d nothing (over 2)) (over 1)) (over 0))
      go true true true = refl
      go true true false = refl
      go true false d = refl
      go false b d = refl

  pub nodes_none : (n i : ℕ) → n ≡ 0 → why_parts_from plan counters parts all n i ≡ nothing
  unfolding why_parts_from
  nodes_none n i e = rw e refl

  module _ (n n2 i : ℕ) (e : n ≡ suc n2) {w : Why} (h : w ≡ says i nothing) where
    pub nodes_stop : (w.refusal ≡ 0 → ⊥) → why_parts_from plan counters parts all n i ≡ w
    unfolding why_parts_from
    nodes_stop z = rw e (node_cases i (why_parts_from plan counters parts all n2 (suc i)) ∙ rw (← h, ne_eqb w.refusal 0 z) refl)

    pub nodes_on : {i2 : ℕ} → i2 ≡ i + 1 → w.refusal ≡ 0 → why_parts_from plan counters parts all n i ≡ why_parts_from plan counters parts all n2 i2
    unfolding why_parts_from
    nodes_on q z = rw (e, q, add-one i) (node_cases i (why_parts_from plan counters parts all n2 (suc i)) ∙ rw (← h, eq-eqb w.refusal 0 z) refl)
