-- `transform::run_nulls::add_run_nulls` meets its contract. Assumes nothing.
use mathlib.Core.Path.{sym, ap, ◌∙◌}
use native.Mathlib.Omega.{arith}
use Prim.Native.Nat.{ℕ, ◌+◌}
use lib.Dec.{ltb}
use Rattle.columnar.specs.Types.{half}
use Rattle.schema.specs.formats.Code.{is_fixed}
use Rattle.plan.specs.parts.Parts.{entry_size}
use Rattle.array_data.proofs.lent_tables.Laws.{yes}
use Rattle.transform.proofs.null_ways.Laws.{runs_known}
use Rattle.transform.proofs.run_nulls.Laws.{width_is, ends_size, value_left, run_stopped, run_refused, run_made}
use Rattle.transform.proofs.run_nulls.add_run_nulls.Goals as goal

pub returns-then-not-sum_fits : goal.returns-then-not-sum_fits
returns-then-not-sum_fits c =
    let a = c.args in
    let r = runs_known a.plan.now c.requires.3 in
    let w = c.number_size-w.ensures ∙ ap entry_size c.code_of.ensures in
    λ sources lengths places body. run_stopped a.plan.now a.parts.now a.n a.counters.now a.room.now c.requires.1 c.requires.2 r c.requires.0 (omega (arith, c.well_formed)) (ends_size a.plan.now r w).0 sources lengths places body c.at_u64.ensures c.sum_fits.ensures c.if-not-sum_fits.true-raw

pub returns-then-g-ne0 : goal.returns-then-g-ne0
returns-then-g-ne0 c =
    let a = c.args in
    let r = runs_known a.plan.now c.requires.3 in
    let w = c.number_size-w.ensures ∙ ap entry_size c.code_of.ensures in
    λ sources lengths places body. run_refused a.plan.now a.parts.now a.n a.counters.now a.room.now c.requires.1 c.requires.2 r c.requires.0 (omega (arith, c.well_formed)) (ends_size a.plan.now r w).0 sources lengths places body c.at_u64.ensures c.sum_fits.ensures c.if-not-sum_fits.false-raw c.at_u64-2.ensures c.grow-ends.ensures c.at_u64-3.ensures c.grow-values.ensures c.room_ground-g.ensures c.if-g-ne0.true

pub put_end-requires : goal.put_end-requires
put_end-requires c =
    let a = c.args in
    let r = runs_known a.plan.now c.requires.3 in
    let w = c.number_size-w.ensures ∙ ap entry_size c.code_of.ensures in
    let left = value_left a.plan.now a.parts.now a.n a.counters.now a.room.now c.requires.1 c.requires.2 r c.requires.0 (omega (arith, c.well_formed)) c.put_value.ensures in
    let s = ends_size a.plan.now r w in
    record { counters_len = (left.0, s.0, s.1, left.1); w_value = ap (λ (z : ℕ). ltb (z + a.n) (half c.number_size-w.result)) (left.2 ∙ sym c.at_u64.ensures) ∙ yes c.sum_fits.ensures c.if-not-sum_fits.false-raw }

pub returns : goal.returns
returns c =
    let a = c.args in
    let r = runs_known a.plan.now c.requires.3 in
    let w = c.number_size-w.ensures ∙ ap entry_size c.code_of.ensures in
    λ sources lengths places body. run_made a.plan.now a.parts.now a.n a.counters.now a.room.now c.requires.1 c.requires.2 r c.requires.0 (omega (arith, c.well_formed)) (ends_size a.plan.now r w).0 sources lengths places body c.at_u64.ensures c.sum_fits.ensures c.if-not-sum_fits.false-raw c.at_u64-2.ensures c.grow-ends.ensures c.at_u64-3.ensures c.grow-values.ensures c.room_ground-g.ensures c.if-g-ne0.false c.put_value.ensures c.put_end.ensures (c.count_nulls.ensures a.parts.now _) c.add_to.ensures

pub sum_fits-requires : goal.sum_fits-requires
sum_fits-requires c = width_is c.number_size-w.result (ends_size c.args.plan.now (runs_known c.args.plan.now c.requires.3) (c.number_size-w.ensures ∙ ap entry_size c.code_of.ensures)).1

pub put_value-requires : goal.put_value-requires
put_value-requires c = (c.requires.0, (runs_known c.args.plan.now c.requires.3).values.fixed)
