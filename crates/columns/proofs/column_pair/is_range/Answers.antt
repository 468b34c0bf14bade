-- `column_pair::is_range` meets its contract. Assumes nothing.
use native.Mathlib.Omega.{arith}
use Rattle.columns.proofs.column_pair.Pair.{range_falls, range_rises}
use Rattle.columns.proofs.column_pair.is_range.Goals as goal

pub returns-then-end-start : goal.returns-then-end-start
returns-then-end-start c = range_falls _ _ _ _ c.if-end-start.true

pub returns : goal.returns
returns c = range_rises _ _ _ _ (omega arith) _ c.length_of.ensures
