use Rattle.std.proofs.Common.{◌≡◌, ◌*◌}
use Rattle.number.specs.Number.{splice}
use Rattle.recode.specs.Recode.{recoded}
use Rattle.recode.proofs.keys.blocks_1_4.Given as goal

abbrev pub invariant-loop-i : goal.invariant-loop-i
invariant-loop-i l = l.room ≡ splice l.at (recoded 1 4 l.body l.from (64 * l.i)) l.initial.room
