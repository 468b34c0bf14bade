-- `run_coding::write_bits` meets its contract. Assumes nothing.
use mathlib.Core.Path.{◌∙◌}
use Rattle.coding.proofs.run_coding.write_bits.Goals as goal

pub returns-then-v : goal.returns-then-v
returns-then-v c = c.append_ones.ensures ∙ rw c.if-v.true

pub returns : goal.returns
returns c = c.append_zeros.ensures ∙ rw c.if-v.false
