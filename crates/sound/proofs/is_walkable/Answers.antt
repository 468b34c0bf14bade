-- `sound::is_walkable` meets its contract. Assumes nothing.
use Rattle.sound.proofs.Laws.{walk_large, walk_by_lem}
use Rattle.sound.proofs.is_walkable.Goals as goal

pub returns-then-m-gt-CEILING : goal.returns-then-m-gt-CEILING
returns-then-m-gt-CEILING c = let z = c.args in walk_large z.plan.now z.m c.if-m-gt-CEILING.true

pub returns : goal.returns
returns c = let z = c.args in walk_by_lem z.plan.now z.m c.if-m-gt-CEILING.false c.plan_sound.ensures
