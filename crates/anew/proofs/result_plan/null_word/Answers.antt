-- `result_plan::null_word` meets its contract. Assumes nothing.
use mathlib.Core.Path.{refl}
use native.Mathlib.Omega.{arith}
use Rattle.array_data.specs.lent_tables.Lent.{tables}
use Rattle.anew.proofs.result_plan.Laws.{null_none, countable_by, null_off, null_on}
use Rattle.anew.proofs.result_plan.null_word.Goals as goal

pub returns-then-j-eq0 : goal.returns-then-j-eq0
returns-then-j-eq0 c =
    let z = c.args in
    null_none (tables z.lengths.now z.places.now z.body.now) z.first z.from.now z.i c.at_u64-j.ensures c.if-j-eq0.true

pub overflow_add-first : goal.overflow_add-first
overflow_add-first c = omega (arith, c.requires.3.low c.args.i c.requires.0, c.at_u64-j.ensures)

pub null_count-requires : goal.null_count-requires
null_count-requires c =
    let z = c.args in
    countable_by (tables z.lengths.now z.places.now z.body.now) z.first z.from.now z.i c.at_u64-j.ensures z.n c.requires.3 c.requires.0 c.if-j-eq0.false

pub returns-then-null_count-eq0 : goal.returns-then-null_count-eq0
returns-then-null_count-eq0 c =
    let z = c.args in
    null_off (tables z.lengths.now z.places.now z.body.now) z.first z.from.now z.i c.at_u64-j.ensures c.if-j-eq0.false refl c.null_count.ensures c.if-null_count-eq0.true

pub returns : goal.returns
returns c =
    let z = c.args in
    null_on (tables z.lengths.now z.places.now z.body.now) z.first z.from.now z.i c.at_u64-j.ensures c.if-j-eq0.false refl c.null_count.ensures c.if-null_count-eq0.false
