use mathlib.Core.Path.{◌≡◌}
use Prim.Native.Nat.{suc, ◌-◌}
use Rattle.row_reader.specs.Walk.{end_word, child_from}
use Rattle.row_reader.proofs.unions.find_child.Given as goal

abbrev pub invariant-loop-step : goal.invariant-loop-step
invariant-loop-step l = child_from l.tree l.id (end_word l.tree l.i) (16 - l._step) l.node ≡ child_from l.tree l.id (end_word l.tree l.i) 16 (suc l.i)
