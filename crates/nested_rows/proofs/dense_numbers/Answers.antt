-- `rows::dense_numbers` meets its contract. Assumes nothing.
use mathlib.Core.Path.{refl}
use native.Mathlib.Omega.{arith}
use Rattle.nested_rows.proofs.Laws.{dense_no, dense_yes}
use borrow.Author.Rules.{rules}
use Rattle.nested_rows.proofs.dense_numbers.Goals as goal

pub returns-then-position-ge2147483648 : goal.returns-then-position-ge2147483648
returns-then-position-ge2147483648 c =
    let a = c.args in
    dense_no a.plan.now a.parts.now a.write a.i a.counters.now a.room.now a.r a.k a.id c.rows_of-position.ensures c.if-position-ge2147483648.true

pub put_number-requires : goal.put_number-requires
put_number-requires c = record { i_bound = search rules; w_value = λ p q r. absurd (r refl) }

pub returns : goal.returns
returns c =
    let a = c.args in
    dense_yes a.plan.now a.parts.now a.write a.i a.counters.now a.room.now a.r a.k a.id c.rows_of-position.ensures c.if-position-ge2147483648.false c.rows_of.ensures c.grow-behind.ensures c.scale-o.ensures (omega (arith, c.well_formed)) (omega (arith, c.well_formed, c.room-1)) c.put_same.ensures c.put_number.ensures
