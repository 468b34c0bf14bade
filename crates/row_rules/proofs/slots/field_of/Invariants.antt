use Rattle.std.proofs.Common.{◌≡◌, ◌+◌, drop}
use Rattle.row_rules.specs.slots.Slots.{field_of}
use Rattle.row_rules.proofs.slots.field_of.Given as goal

abbrev pub invariant-loop-i : goal.invariant-loop-i
invariant-loop-i l = field_of l.ids l.id ≡ l.i + field_of (drop l.i l.ids) l.id
