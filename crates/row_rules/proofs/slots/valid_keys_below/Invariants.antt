use Rattle.std.proofs.Common.{◌≡◌, true}
use Rattle.row_rules.specs.slots.Slots.{valid_keys_below}
use Rattle.row_rules.proofs.slots.valid_keys_below.Given as goal

abbrev pub invariant-loop-i : goal.invariant-loop-i
invariant-loop-i g l = true ≡ valid_keys_below g.N.Unsigned.SIZE l.body l.at l.bound l.from l.a l.i
