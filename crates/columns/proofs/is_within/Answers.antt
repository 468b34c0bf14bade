-- `columns::is_within` meets its contract. Assumes nothing.
use mathlib.Core.Path.{sym}
use mathlib.Core.List.{[]}
use native.Mathlib.Omega.{arith}
use Rattle.schema.specs.Tree.{ceilings}
use Rattle.schema.proofs.Known.{within_nodes}
use Rattle.array_data.specs.lent_tables.Lent.{tables}
use Rattle.array_data.proofs.lent_tables.Laws.{no, yes}
use Rattle.columns.proofs.Laws.{over_ceilings, under_ceilings}
use Rattle.columns.proofs.is_within.Goals as goal

pub returns-then-not-is_within_ceilings : goal.returns-then-not-is_within_ceilings
returns-then-not-is_within_ceilings c =
    let z = c.args in
    let x = tables z.lengths.now z.places.now [] in
    sym (over_ceilings z.formats.now z.schema.now x z.first z.n (no c.is_within_ceilings.ensures c.if-not-is_within_ceilings.true-raw))

pub all_fit-requires : goal.all_fit-requires
all_fit-requires c =
    let z = c.args in
    (omega arith, within_nodes z.formats.now z.schema.now z.first z.n (yes c.is_within_ceilings.ensures c.if-not-is_within_ceilings.false-raw))

pub returns : goal.returns
returns c =
    let z = c.args in
    let x = tables z.lengths.now z.places.now [] in
    under_ceilings z.formats.now z.schema.now x z.first z.n (yes {a = ceilings z.formats.now z.schema.now z.first z.n} c.is_within_ceilings.ensures c.if-not-is_within_ceilings.false-raw) c.all_fit.ensures
