use Rattle.row_rules.proofs.slots.Tables.{Holds, flag_to}
use Rattle.row_rules.proofs.slots.declared.Given as goal

abbrev pub invariant-loop-id : goal.invariant-loop-id
invariant-loop-id l = Holds l.table (flag_to l.ids l.id-index)
