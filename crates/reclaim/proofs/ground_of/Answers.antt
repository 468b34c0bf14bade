-- `reclaim::ground_of` meets its contract. Assumes nothing.
use Rattle.reclaim.proofs.Answered.{ground_first, ground_own, ground_none}
use Rattle.reclaim.proofs.ground_of.Goals as goal

pub returns-then-g-ne0 : goal.returns-then-g-ne0
returns-then-g-ne0 c =
    let a = c.args in
    ground_first a.schema.now a.first c.column_ground-g.ensures c.if-g-ne0.true

pub returns-then-dictionary_of-eq0 : goal.returns-then-dictionary_of-eq0
returns-then-dictionary_of-eq0 c =
    let a = c.args in
    ground_own a.schema.now a.first c.column_ground-g.ensures c.if-g-ne0.false c.dictionary_of.ensures c.if-dictionary_of-eq0.true

pub returns : goal.returns
returns c =
    let a = c.args in
    ground_none a.schema.now a.first c.column_ground-g.ensures c.if-g-ne0.false c.dictionary_of.ensures c.if-dictionary_of-eq0.false
