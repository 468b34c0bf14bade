-- `rows::list_numbers` meets its contract. Assumes nothing.
use native.Mathlib.Numerals.{add-one}
use native.Mathlib.Omega.{arith}
use Rattle.room_writes.proofs.Bytes.{width_in_lem}
use Rattle.nested_rows.proofs.Laws.{list_no, list_yes}
use borrow.Author.Rules.{rules}
use Rattle.nested_rows.proofs.list_numbers.Goals as goal

pub sum_fits-requires : goal.sum_fits-requires
sum_fits-requires c = λ p. c.requires.w_value

pub returns-then-not-sum_fits : goal.returns-then-not-sum_fits
returns-then-not-sum_fits c =
    let a = c.args in
    list_no a.plan.now a.parts.now a.write a.i a.counters.now a.room.now a.w a.r a.size (add-one a.i) c.rows_of-offset.ensures c.sum_fits.ensures c.if-not-sum_fits.true-raw

pub scale-o-requires : goal.scale-o-requires
scale-o-requires c = width_in_lem c.args.w (λ p q. c.requires.w_value)

pub put_number-requires : goal.put_number-requires
put_number-requires c = record { i_bound = search rules; w_value = λ p q. c.requires.w_value }

pub put_number-requires-2 : goal.put_number-requires-2
put_number-requires-2 c = record { i_bound = search rules; w_value = λ p q. c.requires.w_value }

pub returns : goal.returns
returns c =
    let a = c.args in
    list_yes a.plan.now a.parts.now a.write a.i a.counters.now a.room.now a.w a.r a.size (add-one a.i) c.rows_of-offset.ensures c.sum_fits.ensures c.if-not-sum_fits.false-raw c.rows_of.ensures c.grow.ensures c.scale-o.ensures (width_in_lem a.w (λ p q. c.requires.w_value)).0 (omega (arith, c.well_formed)) (omega (arith, c.well_formed, c.room-1)) c.put_number.ensures c.put_number-2.ensures
