-- `frames::float_at` meets its contract. Assumes nothing.
use mathlib.Core.Path.{ap, ◌∙◌}
use native.Mathlib.Omega.{arith}
use lib.Ieee.{binary64, nan_bits, of_bits}
use Rattle.columnar.specs.Array.{item}
use Rattle.slot_reader.proofs.leaf_row.Laws.{not_nan}
use Rattle.frames.proofs.float_at.Goals as goal

pub overflow_mul-slot : goal.overflow_mul-slot
overflow_mul-slot c = omega arith

pub read-requires : goal.read-requires
read-requires c = c.requires.0

pub float_from_bits-result : goal.float_from_bits-result
unfolding item
float_from_bits-result c = not_nan binary64 _ (ap (nan_bits binary64) c.read.ensures ∙ c.requires.1)

pub returns : goal.returns
unfolding item
returns c = ap (of_bits binary64) c.read.ensures
