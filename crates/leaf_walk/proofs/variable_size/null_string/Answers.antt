-- `string_walk::null_string` meets its contract. Assumes nothing.
use native.Mathlib.Omega.{arith}
use Rattle.utils.specs.Offsets.{repeated}
use Rattle.room_writes.proofs.Bytes.{width_in_lem}
use Rattle.walk.specs.State.{rows, bytes}
use Rattle.walk.specs.Leaves.{null_string}
use Rattle.leaf_walk.proofs.variable_size.Laws.{wrote_next}
use Rattle.leaf_walk.proofs.variable_size.null_string.Goals as goal

pub scale-o-requires : goal.scale-o-requires
scale-o-requires c =
    let a = c.args in
    width_in_lem a.w (λ p q. c.requires.w_value)

pub returns : goal.returns
unfolding null_string
returns c =
    let a = c.args in
    λ lengths places body first source. wrote_next a.plan.now a.parts.now a.write a.i 1 (rows a.counters.now a.i) a.w (repeated a.w (bytes a.counters.now a.i) a.n) a.counters.now a.room.now c.rows_of.ensures c.grow.ensures c.scale-o.ensures (width_in_lem a.w (λ p q. c.requires.w_value)).0 (omega (arith, c.well_formed)) (rw c.bytes_of-last.ensures at c.put_repeated.ensures)
