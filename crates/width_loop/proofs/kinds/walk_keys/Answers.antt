-- `width_loop::kinds::walk_keys` meets its contract. Assumes nothing.
use mathlib.Core.List.{[]}
use native.Mathlib.Omega.{arith}
use Rattle.columnar.specs.Array.{ok}
use Rattle.array_data.specs.Tables.{valid_of}
use Rattle.array_data.specs.entries.Entries.{column}
use Rattle.width_loop.proofs.Own.{keys_no, keys_yes, next_settles}
use Rattle.width_loop.proofs.kinds.walk_keys.Goals as goal

pub returns-then-not-key_fits : goal.returns-then-not-key_fits
returns-then-not-key_fits c =
    let a = c.args in
    record { fact = (λ t t2 m m2 d e f g. keys_no a.plan.now a.parts.now a.write a.room.now (column a.lengths.now a.places.now [] a.body.now a.first) a.i a.s a.n d t t2 (ok (valid_of (column [] a.places.now [] a.body.now a.first) a.i)) m m2 c.length_at-entries.ensures (c.key_fits.ensures m2 f) c.if-not-key_fits.true-raw); ranges_value = λ t t2 m z. absurd (omega arith) }

pub put_keys-requires : goal.put_keys-requires
put_keys-requires c = let p = c.requires in record { fact = (omega arith, omega arith, p.i_bound.3, p.i_bound.2); i_value = p.i_value; w_value = p.w_value }

pub returns : goal.returns
returns c =
    let a = c.args in
    record { fact = (λ t t2 m m2 d e f g. keys_yes a.plan.now a.parts.now a.write a.room.now (column a.lengths.now a.places.now [] a.body.now a.first) a.i a.s a.n d t t2 (ok (valid_of (column [] a.places.now [] a.body.now a.first) a.i)) m m2 c.length_at-entries.ensures (c.key_fits.ensures m2 f) c.if-not-key_fits.false-raw e g c.put_keys.ensures); ranges_value = λ t t2 m z. next_settles (column a.lengths.now a.places.now [] a.body.now a.first) a.i a.ranges.now c.length_at-entries.ensures c.set_range.ensures }
