-- `widths::from_words` meets its contract. Assumes nothing.
use native.Mathlib.Omega.{arith}
use Rattle.widths.proofs.from_words.Goals as goal

pub write_from-requires : goal.write_from-requires
write_from-requires c = (omega arith, omega arith)

pub returns : goal.returns
returns c = c.write_from.ensures
