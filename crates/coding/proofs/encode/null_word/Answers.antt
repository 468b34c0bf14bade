-- `coding::encode::null_word` meets its contract. Assumes nothing.
use mathlib.Core.Path.{refl, sym, subst}
use native.Mathlib.Nat.{add-zero}
use native.Mathlib.Omega.{arith}
use Rattle.array_data.specs.lent_tables.Lent.{tables}
use Rattle.plan.specs.dictionaries.Sources.{Countable}
use Rattle.anew.proofs.result_plan.Laws.{countable_by, null_off, null_on}
use Rattle.coding.specs.Encode.{from_column}
use Rattle.coding.proofs.encode.null_word.Goals as goal

pub null_count-requires : goal.null_count-requires
null_count-requires c =
    let z = c.args in
    subst (Countable (tables z.lengths.now z.places.now z.body.now)) (add-zero z.first) (countable_by (tables z.lengths.now z.places.now z.body.now) z.first from_column 2 {j = 1} refl 3 c.requires (omega arith) (λ e. omega arith))

pub returns-then-null_count-eq0 : goal.returns-then-null_count-eq0
returns-then-null_count-eq0 c =
    let z = c.args in
    record { value = null_off (tables z.lengths.now z.places.now z.body.now) z.first from_column 2 {j = 1} refl (λ e. omega arith) (sym (add-zero z.first)) c.null_count.ensures c.if-null_count-eq0.true; upper_bound = omega arith }

pub returns : goal.returns
returns c =
    let z = c.args in
    record { value = null_on (tables z.lengths.now z.places.now z.body.now) z.first from_column 2 {j = 1} refl (λ e. omega arith) (sym (add-zero z.first)) c.null_count.ensures c.if-null_count-eq0.false; upper_bound = omega arith }
