use mathlib.Core.Path.{◌≡◌}
use Prim.Native.Nat.{◌≤◌}
use lib.ListN.{length}
use Rattle.anew.specs.runs.Runs.{those}
use Rattle.coding.specs.run_coding.Rows.{number_in, valid_in, change_in}
use Rattle.coding.specs.run_coding.Writes.{runs_written}
use Rattle.coding.proofs.encode_rows.write_each.Given as goal

abbrev pub invariant-loop-r : goal.invariant-loop-r
invariant-loop-r g l =
    (l.k ≤ l.r) × (l.a ≡ valid_in l.body l.masked l.s.mask l.s.bit l.r) × (l.x ≡ number_in l.body g.N.Unsigned.SIZE l.s.start l.r)
    × (l.k ≡ length (those (change_in l.body g.N.Unsigned.SIZE l.masked l.s.start l.s.mask l.s.bit) 0 l.r))
    × (l.room ≡ runs_written l.body g.N.Unsigned.SIZE l.masked l.s.start l.s.mask l.s.bit l.e l.t.ends l.t.values l.t.mask 0 (those (change_in l.body g.N.Unsigned.SIZE l.masked l.s.start l.s.mask l.s.bit) 0 l.r) l.initial.room)
