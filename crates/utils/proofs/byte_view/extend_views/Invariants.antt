use Rattle.std.proofs.Common.{◌≡◌}
use Rattle.number.specs.Number.{splice}
use Rattle.utils.specs.byte_view.View.{reviewed}
use Rattle.utils.proofs.byte_view.extend_views.Given as goal

abbrev pub invariant-loop-i : goal.invariant-loop-i
invariant-loop-i l = l.room ≡ splice l.at (reviewed l.body l.from l.base l.i) l.initial.room
