-- `parts::is_copied` meets its contract. Assumes nothing.
use mathlib.Core.Path.{ap}
use lib.Dec.{eqb}
use Rattle.array_data.proofs.lent_tables.Laws.{is_none, is_some}
use Rattle.plan.proofs.parts.Laws.{copied_root, copied_other}
use Rattle.plan.proofs.parts.is_copied.Goals as goal

pub returns-then-i-eq0 : goal.returns-then-i-eq0
returns-then-i-eq0 c =
    let a = c.args in
    copied_root a.plan.now a.i c.if-i-eq0.true

pub returns-then-dictionary_of-eq0 : goal.returns-then-dictionary_of-eq0
returns-then-dictionary_of-eq0 c =
    let a = c.args in
    rw (copied_other a.plan.now a.i c.if-i-eq0.false, is_none c.dictionary_of.ensures c.if-dictionary_of-eq0.true)

pub returns : goal.returns
returns c =
    let a = c.args in
    rw (copied_other a.plan.now a.i c.if-i-eq0.false, is_some c.dictionary_of.ensures c.if-dictionary_of-eq0.false) (ap (λ x. eqb x 1) c.at_u64.ensures)
