-- `node_words::words_of` meets its contract. Assumes nothing.
use native.Mathlib.Omega.{arith}
use Rattle.array_data.proofs.node_words.words_of.Goals as goal

pub returns-then-n-lt32 : goal.returns-then-n-lt32
returns-then-n-lt32 c = (omega arith, λ q a b. omega arith)

pub returns : goal.returns
returns c = (omega arith, λ q a b. omega arith)
