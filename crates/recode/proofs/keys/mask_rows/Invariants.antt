use Rattle.std.proofs.Common.{◌≡◌, ◌+◌, ◌*◌, get_or}
use Rattle.number.specs.Number.{splice}
use Rattle.bits.specs.Bits.{bits}
use Rattle.recode.specs.Recode.{masked}
use Rattle.recode.proofs.keys.mask_rows.Given as goal

abbrev pub invariant-loop-i : goal.invariant-loop-i
invariant-loop-i g l = l.room ≡ splice l.at (masked g.N.Unsigned.SIZE l.initial.room l.at (λ k. get_or (bits l.body) (8 * l.from + l.a + k) 0) l.i) l.initial.room
