use Rattle.std.proofs.Common.{◌≡◌}
use Rattle.number.specs.Number.{splice}
use Rattle.recode.specs.Recode.{lessened}
use Rattle.recode.proofs.offsets.less.Given as goal

abbrev pub invariant-loop-i : goal.invariant-loop-i
invariant-loop-i g l = l.room ≡ splice l.at (lessened g.N.Unsigned.SIZE g.M.Unsigned.SIZE l.body l.from l.base l.i) l.initial.room
