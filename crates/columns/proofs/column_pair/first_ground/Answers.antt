-- `column_pair::first_ground` meets its contract. Assumes nothing.
use native.Mathlib.Omega.{arith}
use Rattle.columns.proofs.column_pair.Pair.{ground_left, ground_right, ground_lesser, ground_other}
use Rattle.columns.proofs.column_pair.first_ground.Goals as goal

pub returns-then-g-eq0 : goal.returns-then-g-eq0
returns-then-g-eq0 c = ground_left _ _ c.if-g-eq0.true

pub returns-then-h-eq0 : goal.returns-then-h-eq0
returns-then-h-eq0 c = ground_right _ _ c.if-g-eq0.false c.if-h-eq0.true

pub returns-then-h-g : goal.returns-then-h-g
returns-then-h-g c = ground_lesser _ _ c.if-g-eq0.false c.if-h-eq0.false (omega arith)

pub returns-else-h-g : goal.returns-else-h-g
returns-else-h-g c = ground_other _ _ c.if-g-eq0.false c.if-h-eq0.false (omega arith)
