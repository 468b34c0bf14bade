-- `sharing::same_starts` meets its contract. Assumes nothing.
use Rattle.array_data.specs.lent_tables.Lent.{tables}
use Rattle.plan.proofs.dictionaries.Laws.{starts_are}
use Rattle.plan.proofs.dictionaries.same_starts.Goals as goal

pub returns : goal.returns
returns c =
    let a = c.args in
    starts_are (tables a.lengths.now a.places.now a.body.now) a.string a.a a.b c.same_valid-valid.ensures
    c.place.ensures c.place-2.ensures c.place-3.ensures c.place-4.ensures
