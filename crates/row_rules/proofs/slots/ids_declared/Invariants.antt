use Rattle.std.proofs.Common.{◌≡◌, cond}
use Rattle.row_rules.specs.slots.Slots.{ids_declared}
use Rattle.row_rules.proofs.slots.ids_declared.Given as goal

abbrev pub invariant-loop-i : goal.invariant-loop-i
invariant-loop-i l = l.all ≡ cond (ids_declared l.body l.at l.ids l.i) 1 0
