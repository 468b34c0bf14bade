-- `lent_tables::part_len` meets its contract. Assumes nothing.
use native.Mathlib.Omega.{arith}
use lib.ListN.{length-take, length-drop}
use Rattle.array_data.proofs.lent_tables.part_len.Goals as goal

pub returns-then-len-at : goal.returns-then-len-at
returns-then-len-at c = simp (length-take, length-drop) (omega arith)

pub returns-then-left-size : goal.returns-then-left-size
returns-then-left-size c = simp (length-take, length-drop) (omega arith)

pub returns : goal.returns
returns c = simp (length-take, length-drop) (omega arith)
