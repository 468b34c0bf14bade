-- `batch::texts::put_extended` meets its contract. Assumes nothing.
use native.Mathlib.Omega.{arith}
use Rattle.leaf_walk.specs.Join.{join}
use Rattle.leaf_walk.proofs.variable_size.Laws.{fits_is, largest_in, extended_fits, extended_over, extended_falls}
use Rattle.batch.proofs.texts.put_extended.Goals as goal

pub put_string-requires : goal.put_string-requires
put_string-requires c =
    let a = c.args in
    let b = fits_is a.w a.body.now a.from a.n c.bytes_of-last.result c.try_offsets.ensures c.in-Fits.is in
    record { first_bound = (c.requires.first_bound.0, c.requires.first_bound.1, c.requires.first_bound.2, omega (arith, c.bytes_of-last.ensures, b.0), omega (arith, b.1, largest_in a.w c.requires.w_value)); w_value = c.requires.w_value }

pub returns-in-Over : goal.returns-in-Over
returns-in-Over c =
    let a = c.args in
    λ lengths source. extended_over (join a.plan.now a.parts.now lengths a.places.now a.body.now a.first source) a.k a.write a.counters.now a.room.now a.w a.from a.n c.bytes_of-last.ensures c.try_offsets.ensures c.in-Over.is

pub returns-in-Falls : goal.returns-in-Falls
returns-in-Falls c =
    let a = c.args in
    λ lengths source. extended_falls (join a.plan.now a.parts.now lengths a.places.now a.body.now a.first source) a.k a.write a.counters.now a.room.now a.w a.from a.n c.bytes_of-last.ensures c.try_offsets.ensures c.in-Falls.is
