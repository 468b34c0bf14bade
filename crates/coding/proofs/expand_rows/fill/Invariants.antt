use mathlib.Core.Path.{◌≡◌}
use Rattle.number.specs.Number.{splice}
use Rattle.utils.specs.Offsets.{repeated}
use Rattle.coding.proofs.expand_rows.fill.Given as goal

abbrev pub invariant-loop-i : goal.invariant-loop-i
invariant-loop-i g l = l.room ≡ splice l.at (repeated g.N.Unsigned.SIZE l.v l.i) l.initial.room
