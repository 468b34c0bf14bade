use mathlib.Core.Path.{◌≡◌}
use Prim.Native.Nat.{◌-◌}
use Rattle.convert.specs.convert_lists.Laid.{laid_rows}
use Rattle.convert.proofs.views.lay.Given as goal

abbrev pub invariant-loop-i : goal.invariant-loop-i
invariant-loop-i g l = laid_rows g.N.Unsigned.SIZE l.body l.from l.at l.too (l.n - l.i) l.i l.room ≡ laid_rows g.N.Unsigned.SIZE l.body l.from l.at l.too l.n 0 l.initial.room
