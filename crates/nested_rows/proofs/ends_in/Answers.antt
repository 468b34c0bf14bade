-- `rows::ends_in` meets its contract. Assumes nothing.
use native.Mathlib.Omega.{arith}
use Rattle.leaf_walk.specs.Join.{join}
use Rattle.nested_rows.proofs.Laws.{ends_past, ends_given}
use Rattle.nested_rows.proofs.ends_in.Goals as goal

pub returns-then-offset-ge-FAR : goal.returns-then-offset-ge-FAR
returns-then-offset-ge-FAR c =
    let a = c.args in
    λ plan parts source. ends_past (join plan parts a.lengths.now a.places.now a.body.now a.first source) _ a.w _ _ c.requires.2 (omega (arith, c.offset_of-offset.ensures, c.well_formed))

pub returns-then-n-ge-FAR : goal.returns-then-n-ge-FAR
returns-then-n-ge-FAR c =
    let a = c.args in
    λ plan parts source. ends_past (join plan parts a.lengths.now a.places.now a.body.now a.first source) _ a.w _ _ c.requires.2 (omega (arith, c.length_of-n.ensures, c.well_formed))

pub returns : goal.returns
returns c =
    let a = c.args in
    λ plan parts source. ends_given (join plan parts a.lengths.now a.places.now a.body.now a.first source) a.i a.w c.place.ensures c.offset_of-offset.ensures c.length_of-n.ensures (c.rows_in.ensures plan parts a.lengths.now a.places.now a.first source)
