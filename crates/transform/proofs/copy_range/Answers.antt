-- `transform::copy_range` meets its contract. Assumes nothing.
use mathlib.Core.Bool.{not}
use lib.Dec.{eqb}
use borrow.Author.Tests.{not-true, eqb-true, eqb-false}
use Rattle.schema.specs.formats.Code.{between}
use Rattle.walk.specs.State.{code_of}
use Rattle.array_data.proofs.lent_tables.Laws.{and_left, and_right}
use Rattle.transform.proofs.leaf_rows.Entries.{told, leaf_code}
use Rattle.transform.proofs.copy_range.Goals as goal

pub returns-then-way-eq-NUMBERS : goal.returns-then-way-eq-NUMBERS
returns-then-way-eq-NUMBERS c =
    let a = c.args in
    λ sources. c.copy_numbers.ensures sources a.source

pub copy_leaf_rows-requires : goal.copy_leaf_rows-requires
copy_leaf_rows-requires c =
    let a = c.args in
    let some = eqb-false a.n 0 (not-true (eqb a.n 0) (and_left (not (eqb a.n 0)) c.within.result c.if-n-within.true)) in
    let code = leaf_code (code_of a.plan.now 0) (told (between 1 16) c.code_of.ensures c.within.ensures (and_right (not (eqb a.n 0)) c.within.result c.if-n-within.true)) in
    (c.requires.0, c.requires.1, c.requires.2, some, code.0, code.1)

pub copy_list_rows-requires : goal.copy_list_rows-requires
copy_list_rows-requires c =
    let a = c.args in
    let way = eqb a.way 3 in
    let some = not (eqb a.n 0) in
    (c.requires.0, c.requires.1, c.requires.4 (eqb-true a.way 3 (and_left way some c.if-way-n.true)), eqb-false a.n 0 (not-true (eqb a.n 0) (and_right way some c.if-way-n.true)))

pub returns-then-way-n : goal.returns-then-way-n
returns-then-way-n c =
    let a = c.args in
    λ sources. c.copy_list_rows.ensures sources a.source
