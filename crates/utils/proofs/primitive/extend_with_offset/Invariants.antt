use Rattle.std.proofs.Common.{◌≡◌}
use Rattle.number.specs.Number.{splice}
use Rattle.utils.specs.primitive.Primitive.{rebased}
use Rattle.utils.proofs.primitive.extend_with_offset.Given as goal

abbrev pub invariant-loop-i : goal.invariant-loop-i
invariant-loop-i g l = l.room ≡ splice l.at (rebased g.N.Unsigned.SIZE l.body l.from (g.N.Unsigned.amount l.fn.base) l.i) l.initial.room
