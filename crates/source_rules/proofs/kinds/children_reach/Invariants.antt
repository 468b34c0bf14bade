use mathlib.Core.Path.{◌≡◌}
use Rattle.source_rules.specs.kinds.Rows.{reach}
use Rattle.source_rules.proofs.kinds.Laws.{rest}
use Rattle.source_rules.proofs.kinds.children_reach.Given as goal

abbrev pub invariant-loop-id : goal.invariant-loop-id
invariant-loop-id l = rest l.ids l.lens l.count l.id-index ≡ reach l.ids l.lens l.count
