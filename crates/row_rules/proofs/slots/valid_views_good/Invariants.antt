use Rattle.std.proofs.Common.{◌≡◌, true}
use Rattle.row_rules.specs.slots.Slots.{valid_views_good}
use Rattle.row_rules.proofs.slots.valid_views_good.Given as goal

abbrev pub invariant-loop-i : goal.invariant-loop-i
invariant-loop-i l = true ≡ valid_views_good l.body l.at l.buffers l.first l.count l.from l.a l.i
