-- `leaf_walk::null_numbers` meets its contract. Assumes nothing.
use Prim.Native.Nat.{◌*◌}
use lib.ListN.{replicate}
use native.Mathlib.Omega.{arith}
use Rattle.walk.specs.State.{rows}
use Rattle.walk.specs.Leaves.{null_numbers}
use Rattle.leaf_walk.proofs.Laws.{wrote_at}
use Rattle.leaf_walk.proofs.null_numbers.Goals as goal

pub returns : goal.returns
unfolding null_numbers
returns c =
    let a = c.args in
    λ lengths places body first source. wrote_at a.plan.now a.parts.now a.write a.i a.b (rows a.counters.now a.i) a.w (replicate (a.n * a.w) 0) a.counters.now a.room.now c.rows_of.ensures c.scale-o.ensures (omega (arith, c.well_formed)) c.put_zeros.ensures
