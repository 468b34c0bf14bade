-- `schema::get` meets its contract. Assumes nothing.
use mathlib.Core.Path.{sym}
use lib.ListN.{get_or-eq_default}
use native.Mathlib.Omega.{arith}
use Rattle.schema.proofs.get.Goals as goal

pub returns-else-at-schema : goal.returns-else-at-schema
returns-else-at-schema c = let z = c.args in sym (get_or-eq_default z.schema.now 0 (omega arith))
