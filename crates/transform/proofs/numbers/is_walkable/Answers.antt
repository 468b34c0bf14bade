-- `transform::numbers::is_walkable` meets its contract. Assumes nothing.
use Rattle.transform.proofs.numbers.Laws.{sound_walkable}
use Rattle.transform.proofs.numbers.is_walkable.Goals as goal

pub returns-then-known : goal.returns-then-known
returns-then-known c = sound_walkable c.args.plan.now c.args.m (c.requires c.if-known.true)
