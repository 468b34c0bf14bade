-- What a turn of each loop adds. Assumes nothing.
use Rattle.std.proofs.Common.{◌≡◌, ℕ, ◌+◌, ◌-◌, ◌*◌, ◌<◌, ◌≤◌, min, Bool, true, false, cond, not, ltb, List, sym, refl, ap, ◌∙◌, subst, arith, le-ltb, lt-ltb, eq-eqb, ne_eqb}
use Rattle.aggregates.specs.declared.tally.Cell.{Cell}
use Rattle.aggregates.specs.declared.tally.Tally.{Tally}
use Rattle.aggregates.specs.tally.Cells.{cell, value_of, Tallied}
use Rattle.aggregates.proofs.tally.Sums.{stretched, none_yet, hi_low}
use Rattle.aggregates.specs.cells.Cells.{cell_at}
use Rattle.aggregates.specs.declared.cell_sums.Numbers.{Numbers}
use Rattle.aggregates.specs.declared.cell_sums.Stretch.{Stretch}
use Rattle.std.specs.Prelude.{Ok}
use Rattle.run_ends.specs.declared.PhysicalRun.{PhysicalRun}
use Rattle.aggregates.specs.cell_sums.Steps.{until_by, until_of}
use Rattle.aggregates.specs.cell_sums.Numbers.{asked, cell_in, mask_cell, both_cells, Bounded, Flat}

-- what `added` ensures
abbrev pub Adds : Tally → Cell → ℕ → Tally → Type 0
Adds t c n r = (r.count ≡ t.count + c.count * n) × (r.below ≡ t.below + c.below * n) × (value_of r ≡ value_of t + c.bits * n)

-- rows row .. stop - 1 of one cell
pub turn : (g : ℕ → Cell) (start row stop : ℕ) (t r : Tally) (c : Cell) → start ≤ row → row ≤ stop → Tallied g start (row - start) t → Bounded c
    → ((k : ℕ) → row ≤ k → k < stop → g k ≡ c) → Adds t c (stop - row) r → Tallied g start (stop - start) r
turn g start row stop t r c a b s d h e =
    let z : row - start + (stop - row) ≡ stop - start = omega arith in
    subst (λ n. Tallied g start n r) z
    (stretched g start (row - start) (stop - row) t r c s (λ j l. h (start + (row - start) + j) (omega arith) (omega arith)) d.count d.below d.bits e.0 e.1 e.2)

-- one row
pub turn_one : (g : ℕ → Cell) (start row : ℕ) (t r : Tally) (c : Cell) → start ≤ row → Tallied g start (row - start) t → Bounded c → g row ≡ c → Adds t c 1 r
    → Tallied g start (row + 1 - start) r
turn_one g start row t r c a s d h e =
    let z : row + 1 - row ≡ 1 = omega arith in
    turn g start row (row + 1) t r c a (omega arith) s d (λ k l m. let q : row ≡ k = omega arith in subst (λ i. g i ≡ c) q h) (subst (λ n. Adds t c n r) (sym z) e)

pub mask_same : (f g : ℕ → Cell) (c d : Cell) (k : ℕ) → f k ≡ c → g k ≡ d → (m : Cell) → m ≡ mask_cell c d → both_cells f g k ≡ m
mask_same f g c d k p q m e = rw (p, q) (sym e)

pub no_bounded : Bounded (cell 0 0 0)
no_bounded = record { count = omega arith; below = omega arith; bits = omega arith }

-- an empty stretch
pub none_flat : (g : ℕ → Cell) (row : ℕ) (s : Stretch) → s.until ≡ row → Bounded s.cell → Flat g row s
none_flat g row s e b = record { bounded = b; same = λ k l m. absurd (omega (arith, e)) }

-- a stretch seen from a later row
pub later_flat : (g : ℕ → Cell) (row stop : ℕ) (s : Stretch) → row ≤ stop → Flat g row s → Flat g stop s
later_flat g row stop s l f = record { bounded = f.bounded; same = λ k a b. f.same k (omega arith) b }

pub bounded_by : (r : Cell) → (r.count ≤ 1) × (r.below ≤ 1) × (r.bits ≤ 18446744073709551615) → Bounded r
bounded_by r h = record { count = h.0; below = h.1; bits = h.2 }

-- a run's rows
pub run_flat : (g : ℕ → Cell) (row left : ℕ) (v r : Cell) → ((j : ℕ) → j < left → g (row + j) ≡ v) → r ≡ v → Bounded r → Flat g row (record { cell = r; until = row + left })
run_flat g row left v r h e b =
    record { bounded = b; same = λ k l m. let z : row + (k - row) ≡ k = omega arith in subst (λ i. g i ≡ r) z (h (k - row) (omega arith) ∙ sym e) }

-- one row
pub one_flat : (g : ℕ → Cell) (row : ℕ) (r : Cell) → r ≡ g row → Bounded r → Flat g row (record { cell = r; until = row + 1 })
one_flat g row r e b = record { bounded = b; same = λ k l m. let z : row ≡ k = omega arith in subst (λ i. g i ≡ r) z (sym e) }

pub flip : (v b : Bool) → not v ≡ b → v ≡ not b
flip true true e = sym e
flip true false e = refl
flip false true e = refl
flip false false e = sym e

pub plain_in : (body : List ℕ) (n : Numbers) (row : ℕ) → n.runs ≡ false → cell_at body n.cells (n.skip + row) ≡ cell_in body n row
unfolding cell_in
plain_in body n row h = rw h

-- where a stretch ends

pub until_plain : (body : List ℕ) (n : Numbers) (row : ℕ) → n.runs ≡ false → row + 1 ≡ until_of body n row
unfolding until_of
until_plain body n row h = rw h

pub until_run : (body : List ℕ) (n : Numbers) (row left : ℕ) (k : PhysicalRun) → n.runs ≡ true → asked body n row ≡ Ok (record { run = k; left = left }) → row + left ≡ until_of body n row
unfolding until_of
until_run body n row left k h e = sym (ap (λ b. cond b (until_by row (asked body n row)) (row + 1)) h ∙ ap (until_by row) e)

pub until_kept : (row u w : ℕ) → row < u → u ≡ cond (ltb row u) u w
until_kept row u w l = rw (lt-ltb row u l)

pub until_next : (row u v w : ℕ) → u ≤ row → v ≡ w → v ≡ cond (ltb row u) u w
until_next row u v w l e = rw (le-ltb row u l) e

pub mask_none : (c d : Cell) → d.count ≡ 0 → cell 0 0 0 ≡ mask_cell c d
unfolding mask_cell
mask_none c d h = rw (eq-eqb d.count 0 h)

pub mask_some : (c d : Cell) → (d.count ≡ 0 → ⊥) → c ≡ mask_cell c d
unfolding mask_cell
mask_some c d h = rw (ne_eqb d.count 0 h)

-- ---- numbers of a loop

few_room : (a n k : ℕ) → a ≤ n → n + k ≤ 9223372036854775808 → a + k < 18446744073709551615
few_room a n k h e = omega arith

-- a tally has room for k rows more
pub room : (g : ℕ → Cell) (start row k : ℕ) (t : Tally) → Tallied g start (row - start) t → row + k ≤ 9223372036854775808
    → (t.count + k < 18446744073709551615) × (t.below + k < 18446744073709551615) × (t.hi + k < 18446744073709551615)
room g start row k t s h =
    let e : row - start + k ≤ 9223372036854775808 = less_than start row k h in
    (few_room t.count (row - start) k s.few e, few_room t.below (row - start) k s.few_below e, few_room t.hi (row - start) k (hi_low s) e)
  where
    less_than : (start row k : ℕ) → row + k ≤ 9223372036854775808 → row - start + k ≤ 9223372036854775808
    less_than start row k h = omega arith

pub room_of : (c : Cell) → Bounded c → (c.count ≤ 1) × (c.below ≤ 1) × (c.bits ≤ 18446744073709551615)
room_of c b = (b.count, b.below, b.bits)

pub before_any : (g : ℕ → Cell) (start : ℕ) (t : Tally) → (t.count ≡ 0) × (t.below ≡ 0) × (t.hi ≡ 0) × (t.lo ≡ 0) → Tallied g start (start - start) t
before_any g start t e = let z : 0 ≡ start - start = omega arith in subst (λ k. Tallied g start k t) z (none_yet g start t e.0 e.1 e.2 e.3)

pub at_end : (g : ℕ → Cell) (start row end : ℕ) (t : Tally) → row ≤ end → end ≤ row → Tallied g start (row - start) t → Tallied g start (end - start) t
at_end g start row end t a b s = let z : row ≡ end = omega arith in subst (λ k. Tallied g start (k - start) t) z s

pub fits_next : (row end : ℕ) → row < end → end < 9223372036854775808 → row + 1 < 18446744073709551616
fits_next row end h l = omega arith

pub next_low : (row end : ℕ) → row < end → end < 9223372036854775808 → row + 1 ≤ 9223372036854775808
next_low row end h l = omega arith

pub next_in : (row end : ℕ) → row < end → row + 1 ≤ end
next_in row end h = omega arith

pub next_from : (start row : ℕ) → start ≤ row → start ≤ row + 1
next_from start row h = omega arith

pub nearer : (row stop end : ℕ) → row < stop → stop ≤ end → end - stop < end - row
nearer row stop end h l = omega arith

pub row_low : (row end : ℕ) → row < end → end < 9223372036854775808 → row < 9223372036854775808
row_low row end h l = omega arith

pub same_start : (start : ℕ) → start ≤ start
same_start start = omega arith

-- ---- the end of a stretch

pub stop_above : (row until end stop : ℕ) → stop ≡ min until end → row < until → row < end → row < stop
stop_above row until end stop e a b = omega arith

pub stop_until : (until end stop : ℕ) → stop ≡ min until end → stop ≤ until
stop_until until end stop e = omega arith

pub stop_end : (until end stop : ℕ) → stop ≡ min until end → stop ≤ end
stop_end until end stop e = omega arith

pub stop_low : (row stop end : ℕ) → row < stop → stop ≤ end → end < 9223372036854775808 → row + (stop - row) ≤ 9223372036854775808
stop_low row stop end a b c = omega arith

pub in_order_lem : (row stop : ℕ) → row < stop → row ≤ stop
in_order_lem row stop h = omega arith

pub further : (start row stop : ℕ) → start ≤ row → row < stop → start ≤ stop
further start row stop a b = omega arith

-- a stretch's rows up to a stop within it
pub flat_to : (g : ℕ → Cell) (row stop : ℕ) (s : Stretch) → Flat g row s → stop ≤ s.until → (k : ℕ) → row ≤ k → k < stop → g k ≡ s.cell
flat_to g row stop s f h k l m = f.same k l (omega arith)

-- rows of both in which both stretches last
pub both_flat : (f g : ℕ → Cell) (row stop : ℕ) (p q : Stretch) → Flat f row p → Flat g row q → stop ≤ p.until → stop ≤ q.until
    → (m : Cell) → m ≡ mask_cell p.cell q.cell → (k : ℕ) → row ≤ k → k < stop → both_cells f g k ≡ m
both_flat f g row stop p q a b u v m e k l h =
    mask_same f g p.cell q.cell k (flat_to f row stop p a u k l h) (flat_to g row stop q b v k l h) m e

-- the least of three
module _ (row a b end m stop : ℕ) (e : m ≡ min a b) (f : stop ≡ min m end) where
  pub least_above : row < a → row < b → row < end → row < stop
  least_above h k l = omega arith

  pub least_first : stop ≤ a
  least_first = omega arith

  pub least_second : stop ≤ b
  least_second = omega arith

  pub least_end : stop ≤ end
  least_end = omega arith
