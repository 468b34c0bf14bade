-- `leaf_row::single_of` meets its contract. Assumes nothing.
use lib.Ieee.{binary32}
use Rattle.slot_reader.proofs.leaf_row.Laws.{no_nan, is_nan_lem, not_nan}
use Rattle.slot_reader.specs.leaf_row.Reading.{single_of}
use Rattle.slot_reader.proofs.leaf_row.single_of.Goals as goal

pub float_from_bits-result : goal.float_from_bits-result
float_from_bits-result c = not_nan binary32 _ (no_nan binary32 _ c.if-low-gt2139095040.false)

pub returns-then-low-gt2139095040 : goal.returns-then-low-gt2139095040
unfolding single_of
returns-then-low-gt2139095040 c = simp (is_nan_lem binary32 _ c.if-low-gt2139095040.true)

pub returns-else-low-gt2139095040 : goal.returns-else-low-gt2139095040
unfolding single_of
returns-else-low-gt2139095040 c = simp (no_nan binary32 _ c.if-low-gt2139095040.false)
