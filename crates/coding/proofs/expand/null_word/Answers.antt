-- `coding::expand::null_word` meets its contract. Assumes nothing.
use mathlib.Core.Path.{refl}
use native.Mathlib.Omega.{arith}
use Rattle.array_data.specs.lent_tables.Lent.{tables}
use Rattle.anew.proofs.result_plan.Laws.{countable_by, null_off, null_on}
use Rattle.coding.specs.Expand.{from_values}
use Rattle.coding.proofs.expand.null_word.Goals as goal

pub null_count-requires : goal.null_count-requires
null_count-requires c =
    let z = c.args in
    countable_by (tables z.lengths.now z.places.now z.body.now) z.first from_values 0 {j = 3} refl 1 c.requires (omega arith) (λ e. omega arith)

pub returns-then-null_count-eq0 : goal.returns-then-null_count-eq0
returns-then-null_count-eq0 c =
    let z = c.args in
    record { value = null_off (tables z.lengths.now z.places.now z.body.now) z.first from_values 0 {j = 3} refl (λ e. omega arith) refl c.null_count.ensures c.if-null_count-eq0.true; upper_bound = omega arith }

pub returns : goal.returns
returns c =
    let z = c.args in
    record { value = null_on (tables z.lengths.now z.places.now z.body.now) z.first from_values 0 {j = 3} refl (λ e. omega arith) refl c.null_count.ensures c.if-null_count-eq0.false; upper_bound = omega arith }
