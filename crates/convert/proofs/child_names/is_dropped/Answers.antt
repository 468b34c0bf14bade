-- `child_names::is_dropped` meets its contract. Assumes nothing.
use mathlib.Core.Path.{refl}
use Rattle.convert.proofs.child_names.Laws.{dropped_low, dropped_high}
use Rattle.convert.proofs.child_names.is_dropped.Goals as goal

pub returns-then-j-lt3 : goal.returns-then-j-lt3
returns-then-j-lt3 c = dropped_low c.args.nulls c.args.j refl c.if-j-lt3.true

pub returns : goal.returns
returns c = dropped_high c.args.nulls c.args.j c.if-j-lt3.false
