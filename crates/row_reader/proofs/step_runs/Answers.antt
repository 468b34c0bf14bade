-- `row_reader::step_runs` meets its contract. Assumes nothing.
use mathlib.Core.Path.{ap, ◌∙◌}
use mathlib.Core.List.{[]}
use Prim.Native.Nat.{ℕ, suc, ◌-◌}
use native.Mathlib.Omega.{arith}
use Rattle.array_data.specs.entries.Entries.{column}
use Rattle.row_reader.specs.Walk.{code_width, run_of, ran}
use Rattle.row_reader.proofs.Laws.{ran_run, ran_past}
use Rattle.row_reader.proofs.step_runs.Goals as goal

pub overflow_sub-row : goal.overflow_sub-row
overflow_sub-row c = omega (arith, c.offset_at.ensures, c.requires.i_bound_2)

pub returns : goal.returns
returns c =
    let z = c.args in
    let y = column z.lengths.now z.places.now [] z.body.now z.first in
    ran_run z.i _ _ _ c.in-Ok.is (omega arith) ∙ ap (ran z.i) (c.run_of.ensures ∙ ap (λ (k : ℕ). run_of y z.i (code_width z.tree.now (suc z.i)) (z.slot - k)) c.offset_at.ensures)

pub returns-in_default : goal.returns-in_default
returns-in_default c =
    let z = c.args in
    let y = column z.lengths.now z.places.now [] z.body.now z.first in
    ran_past z.i _ _ c.in_default.is ∙ ap (ran z.i) (c.run_of.ensures ∙ ap (λ (k : ℕ). run_of y z.i (code_width z.tree.now (suc z.i)) (z.slot - k)) c.offset_at.ensures)
