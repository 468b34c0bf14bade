use mathlib.Core.Path.{◌≡◌}
use Rattle.number.specs.Number.{splice}
use Rattle.run_ends.specs.Clip.{clipped}
use Rattle.run_ends.proofs.copies.extend_run_ends.Given as goal

abbrev pub invariant-loop-k : goal.invariant-loop-k
invariant-loop-k g l =
    l.room ≡ splice l.at (clipped g.N.Unsigned.SIZE l.body l.from l.k l.start.0 l.end.0 l.last) l.initial.room
