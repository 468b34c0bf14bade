use Rattle.std.proofs.Common.{◌≡◌}
use Rattle.number.specs.Number.{splice}
use Rattle.utils.specs.Offsets.{moved_offsets}
use Rattle.utils.proofs.extend_offsets.Given as goal

abbrev pub invariant-loop-i : goal.invariant-loop-i
invariant-loop-i g l = l.room ≡ splice l.at (moved_offsets g.N.Unsigned.SIZE l.body l.from (g.N.Unsigned.amount l.fn.last) l.i) l.initial.room
