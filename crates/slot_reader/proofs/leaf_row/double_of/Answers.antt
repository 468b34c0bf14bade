-- `leaf_row::double_of` meets its contract. Assumes nothing.
use lib.Ieee.{binary64}
use Rattle.slot_reader.proofs.leaf_row.Laws.{no_nan, is_nan_lem, not_nan}
use Rattle.slot_reader.specs.leaf_row.Reading.{double_of}
use Rattle.slot_reader.proofs.leaf_row.double_of.Goals as goal

pub float_from_bits-result : goal.float_from_bits-result
float_from_bits-result c = not_nan binary64 _ (no_nan binary64 _ c.if-low-gt9218868437227405312.false)

pub returns-then-low-gt9218868437227405312 : goal.returns-then-low-gt9218868437227405312
unfolding double_of
returns-then-low-gt9218868437227405312 c = simp (is_nan_lem binary64 _ c.if-low-gt9218868437227405312.true)

pub returns-else-low-gt9218868437227405312 : goal.returns-else-low-gt9218868437227405312
unfolding double_of
returns-else-low-gt9218868437227405312 c = simp (no_nan binary64 _ c.if-low-gt9218868437227405312.false)
