-- `transform::sparse_rows::put_entries` meets its contract. Assumes nothing.
use native.Mathlib.Nat.{mul-add}
use native.Mathlib.Omega.{arith}
use Rattle.leaf_walk.specs.Join.{join}
use Rattle.transform.proofs.sparse_rows.Laws.{entries_put}
use Rattle.transform.proofs.sparse_rows.put_entries.Goals as goal

pub returns : goal.returns
returns c =
    let a = c.args in
    λ lengths source. entries_put (join a.plan.now a.parts.now lengths a.places.now a.body.now a.first source) a.k a.w a.slot a.n a.counters.now a.room.now c.place.ensures c.requires.n_in_bounds c.at_u64.ensures c.scale-o.ensures (omega (arith, c.well_formed)) c.put_copy.ensures
