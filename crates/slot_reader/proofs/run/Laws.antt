-- The cases of a lookup, what it answers where the run ends rise, and that the rows that it counts are those of the run. Assumes nothing.
use mathlib.Core.Path.{◌≡◌, refl, sym, ap, ◌∙◌}
use mathlib.Core.Bool.{Bool, true, false, cond}
use mathlib.Core.List.{List}
use Prim.Native.Nat.{ℕ, ◌+◌, ◌/◌, ◌^◌, ◌≤◌, ◌<◌}
use native.Mathlib.Omega.{arith}
use lib.ListN.{length}
use lib.Dec.{ltb}
use borrow.Author.Tests.{lt-ltb, ltb-true}
use Rattle.number.specs.Number.{entry}
use Rattle.run_ends.specs.Lookup.{Rising, Covers, first_above, left_of, found_at, found_run}
use Rattle.run_ends.proofs.Laws.{bisect_first}
use Rattle.run_ends.proofs.Left.{Left, found_left, found_some}
use Rattle.run_ends.specs.declared.PhysicalRun.{PhysicalRun}
use Rattle.std.specs.Prelude.{Option, Some, None, Ok, Err}
use Rattle.run_ends.specs.declared.RunRow.{RunRow}
use Rattle.slot_reader.specs.run.Rows.{is_width, ends_run, as_row, row_run_by, row_run, row_run_first}

module _ (look : ℕ → ℕ → Option RunRow) (offset len row : ℕ) where
  pub looked : row < len → offset + len < 2 ^ 64 → (f : Option RunRow) → f ≡ look (offset + len) (offset + row) → as_row f ≡ row_run_by look offset len row
  looked h g f e = ap as_row e ∙ simp (lt-ltb row len h, lt-ltb (offset + len) (2 ^ 64) g)

-- where the run ends rise, the answer is by the first run whose end is above the row
pub rising : (s : List ℕ) (offset len w row : ℕ) → Rising w s 0 (length s / w) → row_run s offset len w row ≡ row_run_first s offset len w row
rising s offset len w row h =
    ap (λ (k : ℕ). cond (ltb row len) (cond (ltb (offset + len) (2 ^ 64))
    (as_row (cond (is_width w) (found_at w s 0 (length s / w) (offset + len) (offset + row) k) None)) (Err 12)) (Err 2))
    (bisect_first w s 0 (length s / w) (offset + row) h)

-- .. and the rows that it counts are exactly those of the column that still fall in the run
pub row_left : (s : List ℕ) (offset len w row : ℕ) → is_width w ≡ true → Rising w s 0 (length s / w) → Covers (entry w s 0) (length s / w) (offset + len) → offset + len < 2 ^ 64 → row < len
    → (row_run s offset len w row
    ≡ Ok (record { run = record { 0 = first_above w s 0 (length s / w) (offset + row) }; left = left_of (entry w s 0 (first_above w s 0 (length s / w) (offset + row))) (offset + len) (offset + row) }))
    × Left (entry w s 0) (length s / w) (offset + len) (offset + row) (first_above w s 0 (length s / w) (offset + row))
    (left_of (entry w s 0 (first_above w s 0 (length s / w) (offset + row))) (offset + len) (offset + row))
row_left s offset len w row wide r v g h =
    let f = found_left w s 0 (length s / w) (offset + len) (offset + row) r v (omega arith) in
    (sym (looked (ends_run s w) offset len row h g (found_run w s 0 (length s / w) (offset + len) (offset + row)) (rw wide)) ∙ ap as_row f.0, f.1)

-- ---- what an answer holds, whatever the run ends are

-- the rows that an answer counts: at least the row itself, and none past the column's last
pub counted : (s : List ℕ) (offset len w row : ℕ) (k : PhysicalRun) (left : ℕ) → row_run s offset len w row ≡ Ok (record { run = k; left = left }) → (0 < left) × (row + left ≤ len)
counted s offset len w row k left h = go (ltb row len) refl (ltb (offset + len) (2 ^ 64)) (is_width w) (found_run w s 0 (length s / w) (offset + len) (offset + row)) refl h
  where
    go : (a : Bool) → ltb row len ≡ a → (b t : Bool) → (f : Option RunRow) → f ≡ found_run w s 0 (length s / w) (offset + len) (offset + row)
        → cond a (cond b (as_row (cond t f None)) (Err 12)) (Err 2) ≡ Ok (record { run = k; left = left })
        → (0 < left) × (row + left ≤ len)
    go true p true true (Some r) q g =
        let i : row < len = ltb-true _ _ p in
        let u = found_some w s 0 (length s / w) (offset + len) (offset + row) q refl (omega arith) in
        let v : r.left ≡ left = cc in
        (omega (arith, u.0), omega (arith, u.1))
    go true p true true None q g = let z : ◌≡◌ {A = ℕ} 0 1 = cc in absurd (omega arith)
    go true p true false f q g = let z : ◌≡◌ {A = ℕ} 0 1 = cc in absurd (omega arith)
    go true p false t f q g = let z : ◌≡◌ {A = ℕ} 0 1 = cc in absurd (omega arith)
    go false p b t f q g = let z : ◌≡◌ {A = ℕ} 0 1 = cc in absurd (omega arith)
