-- `rows::pairs_in` meets its contract. Assumes nothing.
use Rattle.leaf_walk.specs.Join.{join}
use Rattle.nested_rows.proofs.Laws.{pairs_no, pairs_yes}
use Rattle.nested_rows.proofs.pairs_in.Goals as goal

pub returns-then-not-rows_in : goal.returns-then-not-rows_in
returns-then-not-rows_in c =
    let a = c.args in
    λ plan parts lengths source. pairs_no (join plan parts lengths a.places.now a.body.now a.first source) a.i a.v a.w a.slot a.n c.place.ensures (c.rows_in.ensures plan parts lengths a.places.now a.first source) c.if-not-rows_in.true-raw

pub returns : goal.returns
returns c =
    let a = c.args in
    λ plan parts lengths source. pairs_yes (join plan parts lengths a.places.now a.body.now a.first source) a.i a.v a.w a.slot a.n c.place.ensures (c.rows_in.ensures plan parts lengths a.places.now a.first source) c.if-not-rows_in.false-raw c.place-2.ensures (c.rows_in-2.ensures plan parts lengths a.places.now a.first source)
