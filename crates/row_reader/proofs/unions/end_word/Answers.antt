-- `row_reader::unions::end_word` meets its contract. Assumes nothing.
use native.Mathlib.Omega.{arith}
use Rattle.row_reader.proofs.Laws.{end_big, end_small}
use Rattle.row_reader.proofs.unions.end_word.Goals as goal

pub returns-then-end-gt32 : goal.returns-then-end-gt32
returns-then-end-gt32 c = record { value = end_big c.args.tree.now c.args.i _ c.word-end.ensures (omega arith); upper_bound = omega arith }

pub returns : goal.returns
returns c = record { value = end_small c.args.tree.now c.args.i _ c.word-end.ensures (omega arith); upper_bound = omega arith }
