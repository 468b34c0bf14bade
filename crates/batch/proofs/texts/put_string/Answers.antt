-- `batch::texts::put_string` meets its contract. Assumes nothing.
use Prim.Native.Nat.{◌-◌}
use native.Mathlib.Omega.{arith}
use lib.ListN.{length}
use Rattle.room_writes.proofs.Bytes.{width_in_lem}
use Rattle.leaf_walk.specs.Join.{join}
use Rattle.leaf_walk.proofs.variable_size.Laws.{bytes_in_lem, string_no, string_yes}
use Rattle.batch.proofs.texts.put_string.Goals as goal

pub returns-then-not-bytes_in : goal.returns-then-not-bytes_in
returns-then-not-bytes_in c =
    let a = c.args in
    λ lengths source. string_no (join a.plan.now a.parts.now lengths a.places.now a.body.now a.first source) a.k a.write a.counters.now a.room.now a.w a.from a.n a.last a.lead c.place-at.ensures c.bytes_of-old.ensures c.bytes_in.ensures c.if-not-bytes_in.true-raw

pub returns : goal.returns
returns c =
    let a = c.args in
    λ lengths source. string_yes (join a.plan.now a.parts.now lengths a.places.now a.body.now a.first source) a.k a.write a.counters.now a.room.now a.w a.from a.n a.last a.lead c.place-at.ensures c.bytes_of-old.ensures c.bytes_in.ensures c.if-not-bytes_in.false-raw c.rows_of.ensures c.grow.ensures c.scale-o.ensures (width_in_lem a.w (λ p q. c.requires.w_value)).0 (omega (arith, c.well_formed)) c.put_offsets.ensures c.put_chars.ensures c.set_bytes.ensures
