use Rattle.std.proofs.Common.{◌≡◌, ltb}
use Rattle.row_rules.specs.slots.Slots.{keys_below}
use Rattle.row_rules.proofs.slots.largest_below.Given as goal

abbrev pub invariant-loop-i : goal.invariant-loop-i
invariant-loop-i g l = ltb (g.N.Unsigned.amount l.top) l.bound ≡ keys_below g.N.Unsigned.SIZE l.body l.at l.bound l.i
