-- `open_walk::first_offset` meets its contract. Assumes nothing.
use Rattle.refinement.specs.orders.Order.{lent}
use Rattle.with_capacities.proofs.open_walk.Laws.{offset_width, offset_none, offset_kept, offset_put}
use mathlib.Core.Path.{ap₂}
use mathlib.Core.Bool.{◌||◌}
use borrow.Author.Rules.{rules}
use Rattle.with_capacities.proofs.open_walk.first_offset.Goals as goal

pub returns-then-not-is_string-is_list : goal.returns-then-not-is_string-is_list
returns-then-not-is_string-is_list c =
    let z = c.args in
    λ sources lengths places body n. offset_none (lent z.plan.now z.parts.now sources lengths places body) z.write z.i n z.room.now c.code_of-code.ensures (ap₂ ◌||◌ c.is_string.ensures c.is_list.ensures) c.if-not-is_string-is_list.true-raw

pub returns-then-not-is_copied : goal.returns-then-not-is_copied
returns-then-not-is_copied c =
    let z = c.args in
    λ sources lengths places body n. offset_kept (lent z.plan.now z.parts.now sources lengths places body) z.write z.i n z.room.now c.code_of-code.ensures (ap₂ ◌||◌ c.is_string.ensures c.is_list.ensures) c.if-not-is_string-is_list.false-raw c.is_copied.ensures c.if-not-is_copied.true-raw

pub put_number-requires : goal.put_number-requires
put_number-requires c = record { i_bound = search rules; w_value = offset_width c.code_of-code.result (ap₂ ◌||◌ c.is_string.ensures c.is_list.ensures) c.if-not-is_string-is_list.false-raw c.width_of-w.ensures }

pub returns : goal.returns
returns c =
    let z = c.args in
    λ sources lengths places body n. offset_put (lent z.plan.now z.parts.now sources lengths places body) z.write z.i n z.room.now c.code_of-code.ensures (ap₂ ◌||◌ c.is_string.ensures c.is_list.ensures) c.if-not-is_string-is_list.false-raw c.is_copied.ensures c.if-not-is_copied.false-raw c.width_of-w.ensures c.put_number.ensures
