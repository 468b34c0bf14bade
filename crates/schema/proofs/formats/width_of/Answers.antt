-- `formats::width_of` meets its contract. Assumes nothing.
use mathlib.Core.Path.{sym}
use native.Mathlib.Omega.{arith}
use lib.ListN.{get_or-eq_default}
use Rattle.schema.specs.formats.Code.{widths}
use Rattle.schema.proofs.formats.width_of.Goals as goal

pub returns-else-k-lt24 : goal.returns-else-k-lt24
returns-else-k-lt24 c = sym (get_or-eq_default widths 0 {n = c.args.code} (omega arith))
