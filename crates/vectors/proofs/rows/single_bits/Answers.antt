-- The bits that are asked for are those of no NaN.
use Rattle.slot_reader.proofs.leaf_row.Laws.{number_of_lem}
use Rattle.vectors.proofs.rows.single_bits.Goals as goal

pub float_to_bits-result : goal.float_to_bits-result
float_to_bits-result c = number_of_lem _ c.if-x.false
