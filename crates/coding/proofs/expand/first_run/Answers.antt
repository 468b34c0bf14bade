-- `coding::expand::first_run` meets its contract. Assumes nothing.
use mathlib.Core.Path.{◌≡◌, refl, sym, ap, ◌∙◌}
use mathlib.Core.List.{List}
use Prim.Native.Nat.{ℕ, ◌-◌, ◌≤◌}
use lib.ListN.{length}
use Rattle.array_data.specs.Tables.{part}
use Rattle.slot_reader.specs.run.Rows.{row_run}
use Rattle.aggregates.specs.declared.stretches.Ends.{Ends}
use Rattle.coding.specs.Expand.{run_or}
use Rattle.coding.proofs.expand.first_run.Goals as goal

held_as : (m : ℕ) {e d : Ends} → e ≡ d → (d.start ≤ d.stop) × (d.stop ≤ m) → (e.start ≤ e.stop) × (e.stop ≤ m)
held_as m h f = rw h f

asked_as : (body : List ℕ) (row : ℕ) {e d : Ends} → e ≡ d → row_run (part body e.start (e.stop - e.start)) e.offset e.len e.width row ≡ row_run (part body d.start (d.stop - d.start)) d.offset d.len d.width row
asked_as body row h = rw h refl

pub stretch_at-requires : goal.stretch_at-requires
stretch_at-requires c = held_as (length c.args.body.now) c.find_ends-e.ensures c.requires.fact_2

pub returns-in-Ok : goal.returns-in-Ok
returns-in-Ok c = ap run_or (sym c.in-Ok.is ∙ c.stretch_at.ensures ∙ asked_as c.args.body.now c.args.row c.find_ends-e.ensures)

pub returns-in-Err : goal.returns-in-Err
returns-in-Err c = ap run_or (sym c.in-Err.is ∙ c.stretch_at.ensures ∙ asked_as c.args.body.now c.args.row c.find_ends-e.ensures)
