use Rattle.std.proofs.Common.{◌≡◌}
use Rattle.number.specs.Number.{splice}
use Rattle.utils.specs.primitive.Primitive.{rebased}
use Rattle.utils.proofs.primitive.extend_with_offset_signed.Given as goal

abbrev pub invariant-loop-i : goal.invariant-loop-i
invariant-loop-i g l = l.room ≡ splice l.at (rebased g.S.Pattern.Unsigned.SIZE l.body l.from l.fn.base l.i) l.initial.room
