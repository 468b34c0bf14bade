-- `cell_blocks::valid_bits` meets its contract. Assumes nothing.
use Rattle.std.proofs.Common.{arith}
use Rattle.aggregates.proofs.blocks.Words.{valid_masked, valid_plain}
use Rattle.aggregates.proofs.blocks.valid_bits.Goals as goal

pub overflow_add-c : goal.overflow_add-c
overflow_add-c c = omega (arith, c.requires c.if-c.true)

pub word_at-requires : goal.word_at-requires
word_at-requires c = (omega arith, omega (arith, c.requires c.if-c.true))

pub returns-then-c : goal.returns-then-c
returns-then-c c =
    valid_masked c.args.body.now c.args.c c.args.slot _ c.if-c.true c.word_at.ensures

pub returns : goal.returns
returns c = λ k l. valid_plain c.args.body.now c.args.c c.args.slot k c.if-c.false l
