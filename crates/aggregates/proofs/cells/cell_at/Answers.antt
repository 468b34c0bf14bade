-- `whole_cells::cell_at` meets its contract. Assumes nothing.
use Rattle.std.proofs.Common.{◌≡◌, ℕ, Bool, true, false, not, List, sym, refl, ◌∙◌, arith}
use Rattle.aggregates.specs.tally.Cells.{cell}
use Rattle.aggregates.specs.declared.cells.Cells.{Cells}
use Rattle.aggregates.specs.cells.Cells.{valid_at, below_at, pattern_at, cell_at}
use Rattle.aggregates.proofs.cells.cell_at.Goals as goal

flip : (v b : Bool) → not v ≡ b → v ≡ not b
flip true true e = sym e
flip true false e = refl
flip false true e = refl
flip false false e = sym e

module _ (body : List ℕ) (k : Cells) (slot : ℕ) (v : Bool) (e : v ≡ valid_at body k slot) where
  no_cell : v ≡ false → cell 0 0 0 ≡ cell_at body k slot
  unfolding cell_at
  no_cell h = rw (sym e ∙ h)

  its_cell : v ≡ true → (p b : ℕ) → p ≡ pattern_at body k slot → b ≡ below_at k.top p → cell 1 p b ≡ cell_at body k slot
  unfolding cell_at
  its_cell h p b f g = rw (sym e ∙ h, g, f)

pub returns-then-not-is_valid : goal.returns-then-not-is_valid
returns-then-not-is_valid c =
    record { value = no_cell _ c.args.c c.args.slot _ c.is_valid.ensures (flip _ _ c.if-not-is_valid.true-raw); count_bound = (omega arith, omega arith, omega arith) }

pub returns : goal.returns
returns c =
    record { value = its_cell _ c.args.c c.args.slot _ c.is_valid.ensures (flip _ _ c.if-not-is_valid.false-raw) _ _ c.read_pattern-bits.ensures c.count_below.ensures.0; count_bound = (omega arith, c.count_below.ensures.1, omega (arith, c.read_pattern-bits.type_inv)) }
