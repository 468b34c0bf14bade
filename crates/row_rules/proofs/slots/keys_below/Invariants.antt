use Rattle.std.proofs.Common.{◌≡◌}
use Rattle.row_rules.specs.slots.Slots.{keys_below}
use Rattle.row_rules.proofs.slots.keys_below.Given as goal

abbrev pub invariant-loop-i : goal.invariant-loop-i
invariant-loop-i g l = l.good ≡ keys_below g.N.Unsigned.SIZE l.body l.at l.bound l.i
