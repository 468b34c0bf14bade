-- `rows::longer_end` meets its contract. Assumes nothing.
use native.Mathlib.Omega.{arith}
use native.Mathlib.Numerals.{add-one}
use Prim.Native.Nat.{◌+◌}
use Rattle.columnar.specs.Types.{half}
use borrow.Author.Tests.{ltb-true}
use Rattle.array_data.proofs.lent_tables.Laws.{yes}
use Rattle.nested_rows.proofs.Laws.{wide_in, longer_none, longer_no, longer_yes, half_top}
use borrow.Author.Rules.{rules}
use Rattle.nested_rows.proofs.longer_end.Goals as goal

pub returns-then-runs-eq0 : goal.returns-then-runs-eq0
returns-then-runs-eq0 c =
    let a = c.args in
    longer_none a.plan.now a.parts.now a.write a.i a.counters.now a.room.now a.n (add-one a.i) c.rows_of-runs.ensures c.if-runs-eq0.true

pub sum_fits-requires : goal.sum_fits-requires
sum_fits-requires c = rw (← add-one c.args.i, ← c.width_at-w.ensures) at c.requires.i_value

pub returns-then-not-sum_fits : goal.returns-then-not-sum_fits
returns-then-not-sum_fits c =
    let a = c.args in
    longer_no a.plan.now a.parts.now a.write a.i a.counters.now a.room.now a.n (add-one a.i) c.rows_of-runs.ensures c.if-runs-eq0.false c.width_at-w.ensures c.rows_of-last.ensures c.sum_fits.ensures c.if-not-sum_fits.true-raw

pub scale-o-requires : goal.scale-o-requires
scale-o-requires c = omega (arith, wide_in c.width_at-w.result (rw (← add-one c.args.i, ← c.width_at-w.ensures) at c.requires.i_value))

pub overflow_add-last : goal.overflow_add-last
overflow_add-last c = omega (arith, ltb-true (c.rows_of-last.result + c.args.n) (half c.width_at-w.result) (yes c.sum_fits.ensures c.if-not-sum_fits.false-raw), half_top c.width_at-w.result (rw (← add-one c.args.i, ← c.width_at-w.ensures) at c.requires.i_value))

pub put_number-requires : goal.put_number-requires
put_number-requires c = record { i_bound = search rules; w_value = λ p. rw (← add-one c.args.i, ← c.width_at-w.ensures) at c.requires.i_value }

pub returns : goal.returns
returns c =
    let a = c.args in
    longer_yes a.plan.now a.parts.now a.write a.i a.counters.now a.room.now a.n (add-one a.i) c.rows_of-runs.ensures c.if-runs-eq0.false c.width_at-w.ensures c.rows_of-last.ensures c.sum_fits.ensures c.if-not-sum_fits.false-raw c.scale-o.ensures
    (omega (arith, c.well_formed)) c.put_number.ensures
