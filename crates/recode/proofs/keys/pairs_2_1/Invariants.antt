use Rattle.std.proofs.Common.{◌≡◌, ◌*◌}
use Rattle.number.specs.Number.{splice}
use Rattle.recode.specs.Recode.{recoded}
use Rattle.recode.proofs.keys.pairs_2_1.Given as goal

abbrev pub invariant-loop-i : goal.invariant-loop-i
invariant-loop-i l = l.room ≡ splice l.at (recoded 2 1 l.body l.from (2 * l.i)) l.initial.room
