use Rattle.std.proofs.Common.{◌≡◌, ◌+◌, ◌%◌}
use Rattle.number.specs.Number.{splice}
use Rattle.utils.specs.Offsets.{counted_up}
use Rattle.utils.proofs.count_up_i32.Given as goal

abbrev pub invariant-loop-i : goal.invariant-loop-i
invariant-loop-i l = (l.position ≡ (l.first + l.i) % 4294967296) × (l.room ≡ splice l.at (counted_up 4 l.first l.i) l.initial.room)
