use Rattle.std.proofs.Common.{◌≡◌}
use Rattle.number.specs.Number.{splice}
use Rattle.utils.specs.Offsets.{repeated}
use Rattle.utils.proofs.repeat_offset.Given as goal

abbrev pub invariant-loop-i : goal.invariant-loop-i
invariant-loop-i g l = l.room ≡ splice l.at (repeated g.N.Unsigned.SIZE (g.N.Unsigned.amount l.fn.v) l.i) l.initial.room
