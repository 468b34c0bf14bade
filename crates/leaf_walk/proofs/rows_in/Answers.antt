-- `leaf_walk::rows_in` meets its contract. Assumes nothing.
use mathlib.Core.Path.{◌∙◌}
use Rattle.leaf_walk.specs.Join.{join}
use Rattle.leaf_walk.proofs.Laws.{rows_is}
use Rattle.leaf_walk.proofs.rows_in.Goals as goal

pub returns : goal.returns
returns c =
    let a = c.args in
    λ plan parts lengths places first source. c.rows_fit_behind.ensures ∙ rows_is (join plan parts lengths places a.body.now first source) a.at a.w a.slot a.n
