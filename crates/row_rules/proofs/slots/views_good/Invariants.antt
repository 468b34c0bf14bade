use Rattle.std.proofs.Common.{◌≡◌, true}
use Rattle.row_rules.specs.slots.Slots.{views_good}
use Rattle.row_rules.proofs.slots.views_good.Given as goal

abbrev pub invariant-loop-i : goal.invariant-loop-i
invariant-loop-i l = true ≡ views_good l.body l.at l.buffers l.first l.count l.i
