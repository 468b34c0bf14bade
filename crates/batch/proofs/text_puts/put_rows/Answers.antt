-- `batch::text_puts::put_rows` meets its contract. Assumes nothing.
use mathlib.Core.Path.{refl}
use Prim.Native.Nat.{◌+◌, ◌*◌, ◌≤◌}
use native.Mathlib.Nat.{mul-le-mul_left}
use native.Mathlib.Omega.{arith}
use Rattle.walk.specs.State.{bytes}
use Rattle.room_writes.proofs.Bytes.{width_in_lem}
use Rattle.leaf_walk.specs.Join.{join}
use Rattle.leaf_walk.proofs.variable_size.Laws.{largest_in, copy_none}
use Rattle.batch.proofs.batch_walk.TextPuts.{fits_at, put_did}
use Rattle.batch.proofs.text_puts.put_rows.Goals as goal

pub returns : goal.returns
returns c =
    let a = c.args in
    λ lengths source. put_did (join a.plan.now a.parts.now lengths a.places.now a.body.now a.first source) a.k a.w a.slot a.n a.write a.counters.now a.room.now
    c.if-n-eq0.false (c.requires.fact c.if-n-eq0.false) c.place-at.ensures c.place.ensures c.entry_at-lead.ensures c.entry_at.ensures c.bytes_of-old.ensures c.rows_of.ensures c.grow.ensures c.scale-o.ensures
    (width_in_lem a.w (λ p q. c.requires.w_value)).0 (omega (arith, c.well_formed)) c.put_offsets.ensures c.put_chars.ensures c.set_bytes.ensures

pub returns-then-n-eq0 : goal.returns-then-n-eq0
returns-then-n-eq0 c = let a = c.args in λ lengths source. copy_none (join a.plan.now a.parts.now lengths a.places.now a.body.now a.first source) a.k a.write a.counters.now a.room.now a.w a.slot a.n c.if-n-eq0.true
