-- `convert::lists::end_row` meets its contract. Assumes nothing.
use mathlib.Core.Path.{refl}
use Rattle.leaf_walk.specs.Join.{join}
use Rattle.convert.proofs.Walked.{end_did}
use Rattle.convert.proofs.lists.end_row.Goals as goal

pub returns : goal.returns
returns c = let z = c.args in λ lengths places body first. end_did (join z.plan.now z.parts.now lengths places body first 0) z.write z.w z.r z.counters.now z.room.now refl c.rows_of-v.ensures c.put_number.ensures
