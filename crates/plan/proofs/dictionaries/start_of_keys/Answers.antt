-- `sharing::start_of_keys` meets its contract. Assumes nothing.
use Rattle.array_data.specs.lent_tables.Lent.{tables}
use Rattle.plan.specs.dictionaries.Sources.{dict_at}
use Rattle.plan.proofs.dictionaries.Keys.{capped_shared, capped_joined}
use Rattle.plan.proofs.dictionaries.start_of_keys.Goals as goal

pub returns-then-all_share : goal.returns-then-all_share
returns-then-all_share c =
    let a = c.args in
    capped_shared a.m (dict_at (tables a.lengths.now a.places.now a.body.now) a.sources.now a.string a.i) a.j c.all_share.ensures c.if-all_share.true

pub returns : goal.returns
returns c =
    let a = c.args in
    capped_joined a.m (dict_at (tables a.lengths.now a.places.now a.body.now) a.sources.now a.string a.i) a.j c.all_share.ensures c.if-all_share.false (c.entries_before.ensures a.places.now a.body.now a.string)
