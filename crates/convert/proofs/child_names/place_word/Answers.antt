-- `child_names::place_word` meets its contract. Assumes nothing.
use native.Mathlib.Omega.{arith}
use Rattle.convert.proofs.child_names.Laws.{word_none, word_some}
use Rattle.convert.proofs.child_names.place_word.Goals as goal

pub returns-then-is_dropped : goal.returns-then-is_dropped
returns-then-is_dropped c =
    let z = c.args in
    word_none z.places.now z.nulls.now z.first z.k c.at_u64.ensures c.is_dropped.ensures c.if-is_dropped.true

pub place-requires : goal.place-requires
place-requires c = (omega arith, omega arith)

pub returns : goal.returns
returns c =
    let z = c.args in
    word_some z.places.now z.nulls.now z.first z.k c.at_u64.ensures c.is_dropped.ensures c.if-is_dropped.false c.place.ensures
