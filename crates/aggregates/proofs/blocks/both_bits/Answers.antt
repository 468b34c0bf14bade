-- `cell_blocks::both_bits` meets its contract. Assumes nothing.
use Rattle.std.proofs.Common.{◌*◌, ◌∙◌, ap₂}
use Rattle.aggregates.proofs.blocks.Words.{and_bit}
use Rattle.aggregates.proofs.blocks.both_bits.Goals as goal

pub valid_bits-requires : goal.valid_bits-requires
valid_bits-requires c = c.requires.0

pub valid_bits-requires-2 : goal.valid_bits-requires-2
valid_bits-requires-2 c = c.requires.1

pub returns : goal.returns
returns c = λ k l. and_bit c.valid_bits.result c.valid_bits-2.result k ∙ ap₂ ◌*◌ (c.valid_bits.ensures k l) (c.valid_bits-2.ensures k l)
