-- `leaf_row::bits_f64` meets its contract. Assumes nothing.
use mathlib.Core.Path.{sym, ap}
use lib.Ieee.{binary64, to_bits}
use Rattle.slot_reader.proofs.leaf_row.Laws.{nan_of, number_of_lem}
use Rattle.slot_reader.proofs.leaf_row.bits_f64.Goals as goal

pub float_to_bits-result : goal.float_to_bits-result
float_to_bits-result c = number_of_lem _ c.if-x.false

pub returns-then-x : goal.returns-then-x
unfolding to_bits
returns-then-x c = ap (to_bits binary64) (sym (nan_of _ c.if-x.true))
