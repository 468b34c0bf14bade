-- `transform::add_null_range` meets its contract. Assumes nothing.
use mathlib.Core.Path.{sym, ◌∙◌}
use mathlib.Core.Bool.{not, ◌&&◌}
use lib.Dec.{eqb}
use borrow.Author.Tests.{not-true, eqb-true, eqb-false}
use Rattle.schema.specs.formats.Code.{between}
use Rattle.walk.specs.State.{code_of}
use Rattle.array_data.proofs.lent_tables.Laws.{and_left, and_right}
use Rattle.transform.proofs.leaf_rows.Entries.{told, leaf_code}
use Rattle.transform.proofs.add_null_range.Goals as goal

pub add_number_nulls-requires : goal.add_number_nulls-requires
add_number_nulls-requires c =
    let a = c.args in
    let way = eqb a.way 1 in
    let some = not (eqb a.n 0) in
    (c.requires.0, eqb-false a.n 0 (not-true (eqb a.n 0) (and_right way some c.if-way-n.true)), c.requires.1 (eqb-true a.way 1 (and_left way some c.if-way-n.true)))

pub add_run_nulls-requires : goal.add_run_nulls-requires
add_run_nulls-requires c =
    let a = c.args in
    let way = eqb a.way 2 in
    let some = not (eqb a.n 0) in
    let one = eqb c.at_u64.result 0 in
    let both = and_left (way && some) one c.if-way-n-2.true in
    (c.requires.0, eqb-false a.n 0 (not-true (eqb a.n 0) (and_right way some both)), sym c.at_u64.ensures ∙ eqb-true c.at_u64.result 0 (and_right (way && some) one c.if-way-n-2.true), c.requires.2 (eqb-true a.way 2 (and_left way some both)))

pub add_list_nulls-requires : goal.add_list_nulls-requires
add_list_nulls-requires c =
    let a = c.args in
    let way = eqb a.way 3 in
    let some = not (eqb a.n 0) in
    (c.requires.0, eqb-false a.n 0 (not-true (eqb a.n 0) (and_right way some c.if-way-n-3.true)), c.requires.3 (eqb-true a.way 3 (and_left way some c.if-way-n-3.true)))

pub add_leaf_nulls-requires : goal.add_leaf_nulls-requires
add_leaf_nulls-requires c =
    let a = c.args in
    let some = eqb-false a.n 0 (not-true (eqb a.n 0) (and_left (not (eqb a.n 0)) c.within.result c.if-n-within.true)) in
    let code = leaf_code (code_of a.plan.now 0) (told (between 1 16) c.code_of.ensures c.within.ensures (and_right (not (eqb a.n 0)) c.within.result c.if-n-within.true)) in
    (c.requires.0, some, code.0, code.1)

pub add_sparse_nulls-requires : goal.add_sparse_nulls-requires
add_sparse_nulls-requires c =
    let a = c.args in
    let some = not (eqb a.n 0) in
    let sparse = c.is_sparse in
    (c.requires.0, eqb-false a.n 0 (not-true (eqb a.n 0) (and_left some sparse.result c.if-n-is_sparse.true)), sparse.ensures (and_right some sparse.result c.if-n-is_sparse.true))
