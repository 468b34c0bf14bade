-- `sharing::ptr_eq` meets its contract. Assumes nothing.
use Rattle.array_data.specs.lent_tables.Lent.{tables}
use Rattle.plan.proofs.dictionaries.Laws.{ptr_is}
use Rattle.plan.proofs.dictionaries.ptr_eq.Goals as goal

pub returns : goal.returns
returns c =
    let a = c.args in
    ptr_is (tables a.lengths.now a.places.now a.body.now) a.string a.a a.b c.offset_of.ensures c.offset_of-2.ensures c.length_of.ensures c.length_of-2.ensures c.same_starts.ensures
