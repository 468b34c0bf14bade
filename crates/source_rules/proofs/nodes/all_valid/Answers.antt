-- `node_rules::all_valid` meets its contract: no validity, no row, or no zero among the bits. Assumes nothing.
use mathlib.Core.Path.{sym, ◌∙◌}
use Rattle.array_data.specs.lent_tables.Lent.{tables}
use Rattle.array_data.proofs.lent_tables.Laws.{is_none, is_some}
use Rattle.source_rules.proofs.nodes.RunEnds.{all_none, all_empty, all_some}
use Rattle.source_rules.proofs.nodes.all_valid.Goals as goal

pub returns-then-place-eq0 : goal.returns-then-place-eq0
returns-then-place-eq0 c =
    let a = c.args in
    all_none (tables a.lengths.now a.places.now a.body.now) a.k (is_none c.place.ensures c.if-place-eq0.true)

pub returns-then-n-eq0 : goal.returns-then-n-eq0
returns-then-n-eq0 c =
    let a = c.args in
    all_empty (tables a.lengths.now a.places.now a.body.now) a.k (sym c.length_of-n.ensures ∙ c.if-n-eq0.true)

pub returns : goal.returns
returns c =
    let a = c.args in
    all_some (tables a.lengths.now a.places.now a.body.now) a.k (is_some c.place.ensures c.if-place-eq0.false) c.requires.1
    c.count_zeros.ensures c.place-from.ensures c.offset_of-off.ensures c.length_of-n.ensures
