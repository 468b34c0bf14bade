use Rattle.std.proofs.Common.{◌≡◌, ◌/◌, ◌%◌, ◌^◌}
use Rattle.number.specs.Number.{splice}
use Rattle.recode.specs.Recode.{masked}
use Rattle.recode.proofs.keys.mask_eight.Given as goal

abbrev pub invariant-loop-k : goal.invariant-loop-k
invariant-loop-k g l = l.room ≡ splice l.at (masked g.N.Unsigned.SIZE l.initial.room l.at (λ j. l.x / 2 ^ j % 2) l.k) l.initial.room
