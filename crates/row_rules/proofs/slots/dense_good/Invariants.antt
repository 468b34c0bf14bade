use Rattle.std.proofs.Common.{◌≡◌, true}
use Rattle.columnar.specs.Test.{every}
use Rattle.row_rules.proofs.slots.Tables.{dense_row}
use Rattle.row_rules.proofs.slots.dense_good.Given as goal

abbrev pub invariant-loop-i : goal.invariant-loop-i
invariant-loop-i l = true ≡ every (dense_row l.body l.at l.too l.ids l.lens) l.i
