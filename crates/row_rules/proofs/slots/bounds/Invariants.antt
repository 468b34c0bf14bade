use Rattle.row_rules.proofs.slots.Tables.{Holds, bound_from}
use Rattle.row_rules.proofs.slots.bounds.Given as goal

abbrev pub invariant-loop-i : goal.invariant-loop-i
invariant-loop-i l = Holds l.table (bound_from l.ids l.lens l.i)
