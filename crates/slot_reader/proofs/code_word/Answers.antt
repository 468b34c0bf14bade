-- `slot_reader::code_word` meets its contract. Assumes nothing.
use native.Mathlib.Omega.{arith}
use Rattle.slot_reader.proofs.Codes.{code_none, code_some}
use Rattle.slot_reader.proofs.code_word.Goals as goal

pub returns-then-code-gt-LAST_CODE : goal.returns-then-code-gt-LAST_CODE
returns-then-code-gt-LAST_CODE c = code_none c.args.tree.now c.args.i _ c.word-code.ensures (omega arith)

pub returns : goal.returns
returns c = code_some c.args.tree.now c.args.i _ c.word-code.ensures (omega arith)
