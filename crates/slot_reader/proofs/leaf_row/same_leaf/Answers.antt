-- `leaf_row::same_leaf` meets its contract. Assumes nothing.
use Rattle.slot_reader.proofs.leaf_row.Laws.{other_kind, same_kind}
use Rattle.slot_reader.proofs.leaf_row.same_leaf.Goals as goal

pub returns-then-x-y : goal.returns-then-x-y
returns-then-x-y c =
    let both = other_kind c.args.a c.args.b c.leaf_key-x.result c.leaf_key-y.result c.leaf_key-x.ensures c.leaf_key-y.ensures
    c.if-x-y.true in record { a_value = both.0; value = both.1 }

pub returns : goal.returns
returns c =
    let both = same_kind c.args.a c.args.b c.leaf_key-x.result c.leaf_key-y.result c.leaf_key-x.ensures c.leaf_key-y.ensures
    c.if-x-y.false in record { a_value = both.0; value = both.1 }
