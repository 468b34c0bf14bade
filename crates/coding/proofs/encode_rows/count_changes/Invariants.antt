use mathlib.Core.Path.{◌≡◌}
use Prim.Native.Nat.{◌-◌, ◌<◌}
use lib.ListN.{length}
use Rattle.anew.specs.runs.Runs.{those}
use Rattle.coding.specs.run_coding.Rows.{valid_in, change_in}
use Rattle.coding.proofs.encode_rows.count_changes.Given as goal

abbrev pub invariant-loop-r : goal.invariant-loop-r
invariant-loop-r g l =
    (l.k < l.r) × (l.a ≡ valid_in l.body l.masked l.s.mask l.s.bit (l.r - 1)) × (l.k ≡ length (those (change_in l.body g.N.Unsigned.SIZE l.masked l.s.start l.s.mask l.s.bit) 0 (l.r - 1)))
