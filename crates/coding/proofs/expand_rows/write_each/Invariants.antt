use mathlib.Core.Path.{◌≡◌}
use mathlib.Core.List.{List}
use Prim.Native.Nat.{ℕ, ◌+◌, ◌-◌, ◌≤◌, ◌<◌}
use lib.ListN.{length}
use Rattle.coding.specs.run_coding.Writes.{end_in, rows_from}
use Rattle.coding.proofs.expand_rows.write_each.Given as goal

-- row r is one of run q
pub record At (body : List ℕ) (e ends x m count r q : ℕ) : Type 0 where
  pub some_run : r < m → q < count
  pub above : r < m → x + r < end_in body e ends q

abbrev pub invariant-loop-r : goal.invariant-loop-r
invariant-loop-r g l =
    (l.r ≤ l.m) × (l.run ≤ l.q) × (l.q ≤ l.run + l.r) × (length l.room ≡ length l.initial.room) × At l.body l.e l.ends l.x l.m l.count l.r l.q
    × (rows_from l.body g.N.Unsigned.SIZE l.masked l.s.start l.s.mask l.s.bit l.e l.ends l.x l.m l.t.values l.t.mask l.m 0 l.run l.initial.room
    ≡ rows_from l.body g.N.Unsigned.SIZE l.masked l.s.start l.s.mask l.s.bit l.e l.ends l.x l.m l.t.values l.t.mask (l.m - (l.q - l.run)) l.r l.q l.room)

abbrev pub decreases-loop-r : goal.decreases-loop-r
decreases-loop-r g l = l.m - l.r
