-- `transform::numbers::put_validity` meets its contract. Assumes nothing.
use mathlib.Core.Path.{◌∙◌}
use mathlib.Core.Bool.{true}
use Rattle.leaf_walk.specs.Join.{join}
use Rattle.leaf_walk.proofs.Laws.{mask_off}
use Rattle.transform.proofs.numbers.put_validity.Goals as goal

pub returns-then-keeps_of-eq0 : goal.returns-then-keeps_of-eq0
returns-then-keeps_of-eq0 c =
    let a = c.args in
    λ lengths source. mask_off (join a.plan.now a.parts.now lengths a.places.now a.body.now a.first source) a.i true a.counters.now a.room.now a.slot a.n c.keeps_of.ensures c.if-keeps_of-eq0.true
