-- `run_coding::write_number` meets its contract. Assumes nothing.
use mathlib.Core.Path.{refl, ◌∙◌}
use Rattle.number.proofs.Laws.{encode_mod}
use Rattle.coding.proofs.run_coding.write_number.Goals as goal

pub returns : goal.returns
returns g c = c.write.ensures ∙ rw (c.truncate.ensures, encode_mod) refl
